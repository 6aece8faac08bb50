-- Claims of a pool, as they go through a file's checks.
use Rattle.std.proofs.Common.{◌≡◌, ◌≢◌, ◌↔◌, ℕ, ◌+◌, ◌*◌, ◌/◌, ◌%◌, ◌^◌, ◌<◌, ◌≤◌, List, [], ◌∷◌, ◌++◌, length, map, slice_index, filter, Bool, true, false, not, ◌||◌, if◌then◌else◌, inl, inr, Option, Some, None, Result, Ok, Err, IfErr, OnOk, OnErr, refl, sym, ap, subst, ◌∙◌, arith, rules}
use Rattle.std.specs.Prelude.{◌==◌, nat_le, nat_lt}
use Rattle.std.specs.List.{range_with_len}
use Rattle.std.specs.Result.{IsErrAnd}
use Rattle.std.proofs.lemmas.Option.{same_Some}
use Rattle.std.proofs.lemmas.Grind.{common_steps}
use Rattle.std.proofs.lemmas.Bool.{ltb-true, leb-false, eq-eqb, ne_eqb, cases_eq}
use Rattle.bitmap_model.specs.Granules.{is_in}
use Rattle.qc_layout.specs.Disks.{place_of, blocks_in}
use Rattle.qc_layout.specs.declared.faults.ImageFault.{ImageFault}
use Rattle.qc_layout.specs.declared.faults.ImageFault.TheVariants.{PastLimit, Overlap, Uncounted}
use Rattle.qc_layout.specs.Opening.{Check, each_below, count_clusters, block_claims, block_named}
use Rattle.qc_layout.specs.Opening.Check.{Claim}
use Rattle.qc_layout.specs.Owners.{Who}
use Rattle.qc_layout.specs.Owners.Who.{Head, Counts, Block}
use Rattle.cluster_pool.specs.Pool.{Pool, IsPool, reach, is_counted, claim_refusal, claimed, block_at}
use Rattle.cluster_pool.specs.Laws.{ClaimsAreExact}
use Rattle.qc_alloc.specs.declared.refusals.ClusterRefusal.{ClusterRefusal}
use Rattle.std.proofs.Math.Nat.{mul-div_cancel_left, div-eq_of_lt}
use Rattle.qc_layout.proofs.NumberLaws.{bits_low}
use Rattle.qc_alloc.specs.declared.tables.Layout.{Layout}
use Rattle.qc_alloc.specs.Opening.{rule_of}
use Rattle.qc_alloc.specs.Tables.{IsClaimFault, IsLayout, IsLayoutOf, claimed_after, Stops, Knows, Gone, Went, Names, IsKept}
use Rattle.qc_alloc.proofs.Passing.{claimed_after-append, passes_none, passes_on, stops_on, stops_more, passes_claim, stops_claim, each_more, each_at, mapped_more, mapped_at}
use Rattle.qc_alloc.proofs.Layouts.{clusters_of_file}
use Rattle.cluster_pool.proofs.Words.{is_in-with_member, is_in-with_other}

-- ---- one claim

pub record IsClaimable (p : Pool) (k : ℕ) : Type 0 where
  pub below : k < reach p
  pub unspoken : is_in p.spoken k ≡ false
  pub counted : is_counted p k ≡ true

three_gates : (a b c : Bool) (x y z : ImageFault) → (if a then Some x else if b then Some y else if c then None else Some z) ≡ None → (a ≡ false) × (b ≡ false) × (c ≡ true)
three_gates a b c x y z e = search rules

pub claimable : (p : Pool) (k : ℕ) → claim_refusal p k ≡ None → IsClaimable p k
claimable p k none =
    let place : ℕ = place_of p.bits k in
    let t = three_gates (nat_le (reach p) k) (is_in p.spoken k) (is_counted p k) (PastLimit place) (Overlap place) (Uncounted place) none in
    record { below = leb-false (reach p) k t.0; unspoken = t.1; counted = t.2 }

counted_gate : (p : Pool) (k : ℕ) (low : Bool) → low ≡ nat_lt k p.from → (if low then is_in p.counted k else nat_lt k p.prepared) ≡ true → p.from ≤ p.prepared → k < p.prepared
counted_gate p k true is e found = let below = ltb-true k p.from (sym is) in omega arith
counted_gate p k false is e found = ltb-true k p.prepared e

pub claimed_below : (p : Pool) (k : ℕ) → IsPool p → claim_refusal p k ≡ None → k < p.prepared
claimed_below p k is none = counted_gate p k (nat_lt k p.from) refl (claimable p k none).counted is.found

pub kept_same : (p q : Pool) → q ≡ p → IsKept p q
kept_same p q same = let P : Pool → Type 0 = λ x. IsKept p x in subst P (sym same) (record { is = refl; ready = λ e. e; spoken = λ k high. refl })

kept_claim : (p : Pool) (k : ℕ) → k < p.prepared → IsKept p (claimed p k)
kept_claim p k below = record {
  is = refl;
  ready = λ e. ap (λ (ks : List ℕ). filter (λ m. not (m == k)) ks) e;
  spoken = λ j high. is_in-with_other p.spoken k j (λ same. absurd (omega arith));
}

pub claim_kept : {T : Type 0} (p q : Pool) (k : ℕ) (result : Result T ClusterRefusal) → IsPool p → OnOk result ((claim_refusal p k ≡ None) × (q ≡ claimed p k)) → OnErr result (q ≡ p) → IsKept p q
claim_kept p q k (Ok value) is done kept = let P : Pool → Type 0 = λ x. IsKept p x in subst P (sym done.1) (kept_claim p k (claimed_below p k is done.0))
claim_kept p q k (Err why) is done kept = kept_same p q kept

pub claim_below : {T : Type 0} (p q : Pool) (k : ℕ) (result : Result T ClusterRefusal) → IsPool p → OnOk result ((claim_refusal p k ≡ None) × (q ≡ claimed p k)) → OnOk result (k < p.prepared)
claim_below p q k (Ok value) is done = claimed_below p k is done.0
claim_below p q k (Err why) is done = tt

knows_claim : (p : Pool) (file before : List ℕ) (k : ℕ) → IsPool p → k < reach p → Knows p file before → Knows (claimed p k) file (k ∷ before)
knows_claim p file before k is near knows = record {
  blocks = record { bits = knows.blocks.bits; count = knows.blocks.count; blocks = knows.blocks.blocks };
  spoken = λ j below. is_in-with_member p.spoken k j (omega (arith, is.spoken, near)) ∙ (ap (λ (b : Bool). b || is_in p.spoken j) (flip j k) ∙ ap (λ (b : Bool). (k == j) || b) (knows.spoken j below));
  counted = knows.counted;
}
  where
    flip : (a b : ℕ) → (a == b) ≡ (b == a)
    flip a b = elim (cases_eq a b) [ inl e ↦ eq-eqb a b e ∙ sym (eq-eqb b a (sym e)) | inr n ↦ ne_eqb a b n ∙ sym (ne_eqb b a (λ e. n (sym e))) ]

pub claim_went : {T : Type 0} (p q : Pool) (k : ℕ) (result : Result T ClusterRefusal) → ClaimsAreExact → IsPool p
    → IfErr result (λ why. (rule_of why ≢ None) × (rule_of why ≡ claim_refusal p k)) → OnOk result ((claim_refusal p k ≡ None) × (q ≡ claimed p k))
    → (file before : List ℕ) (owner : Who) → Knows p file before → Went file before (Claim owner k ∷ []) q result
claim_went p q k (Ok value) exact is refused done file before owner knows =
    let same = exact p file before k is knows.blocks knows.spoken knows.counted in
    let P : Pool → Type 0 = λ x. Gone file before (Claim owner k ∷ []) x in
    subst P (sym done.1) (record { passes = passes_claim file before owner k (sym same ∙ done.0); knows = knows_claim p file before k is (claimable p k done.0).below knows })
claim_went p q k (Err why) exact is refused done file before owner knows =
    let same = exact p file before k is knows.blocks knows.spoken knows.counted in
    (refused.0, stops_claim file before owner k (rule_of why) refused.0 (sym same ∙ sym refused.1))

-- ---- one after another

pub kept_on : (p q r : Pool) → IsKept p q → IsKept q r → IsKept p r
kept_on p q r one other = record {
  is = other.is ∙ ap (λ (x : Pool). record x { spoken = r.spoken; ready = r.ready }) one.is;
  ready = λ e. other.ready (one.ready e);
  spoken = λ k high. other.spoken k (let e : q.prepared ≡ p.prepared = ap (λ (x : Pool). x.prepared) one.is in omega arith) ∙ one.spoken k high;
}

pub gone_none : (p : Pool) (file before : List ℕ) → Knows p file before → Gone file before [] p
gone_none p file before knows = record { passes = passes_none file before; knows = knows }

pub gone_on : (p q : Pool) (file before : List ℕ) (xs ys : List Check) → Gone file before xs p → Gone file (claimed_after before xs) ys q → Gone file before (xs ++ ys) q
gone_on p q file before xs ys one other = record {
  passes = passes_on file before xs ys one.passes other.passes;
  knows = let P : List ℕ → Type 0 = λ ks. Knows q file ks in subst P (sym (claimed_after-append before xs ys)) other.knows;
}

pub gone_as : (p : Pool) (file before : List ℕ) (xs ys : List Check) → xs ≡ ys → Gone file before xs p → Gone file before ys p
gone_as p file before xs ys e is = let P : List Check → Type 0 = λ cs. Gone file before cs p in subst P e is

pub went_on : {T : Type 0} (p q : Pool) (file before : List ℕ) (xs ys : List Check) (result : Result T ClusterRefusal) → Gone file before xs p → Went file (claimed_after before xs) ys q result → Went file before (xs ++ ys) q result
went_on p q file before xs ys (Ok value) one other = gone_on p q file before xs ys one other
went_on p q file before xs ys (Err why) one other = (other.0, stops_on file before xs ys (rule_of why) one.passes other.1)

pub went_as : {T : Type 0} (p : Pool) (file before : List ℕ) (xs ys : List Check) (result : Result T ClusterRefusal) → xs ≡ ys → Went file before xs p result → Went file before ys p result
went_as p file before xs ys result e is = let P : List Check → Type 0 = λ cs. Went file before cs p result in subst P e is

-- a refusal that is handed on, with checks behind it that weren't come to
pub stopped : {T : Type 0} (U : Type 0) (p : Pool) (file before : List ℕ) (xs ys : List Check) (why : ClusterRefusal) (result : Result T ClusterRefusal) → IsErrAnd result (λ x. x ≡ why)
    → Went {T = U} file before xs p (Err why) → Went file before (xs ++ ys) p result
stopped U p file before xs ys why (Ok value) none went = absurd none
stopped U p file before xs ys why (Err x) same went =
    let P : ClusterRefusal → Type 0 = λ y. (rule_of y ≢ None) × Stops file before (xs ++ ys) (rule_of y) in
    subst P (sym same) (went.0, stops_more file before xs ys (rule_of why) went.1)

-- ---- blocks

named_claims : (file : List ℕ) (i block : ℕ) → Names file i block → (block ≡ 0 → block_claims file i (block_named file i) ≡ []) × (block ≢ 0 → (bits : ℕ) → block_claims file i (block_named file i) ≡ block_claims file i (Ok (Some block)))
named_claims file i block names = (
  λ none. ap (λ (r : Result (Option ℕ) ImageFault). block_claims file i r) (names ∙ ap (λ (b : Bool). Ok (if b then None else Some block)) (eq-eqb block 0 none)),
  λ some bits. ap (λ (r : Result (Option ℕ) ImageFault). block_claims file i r) (names ∙ ap (λ (b : Bool). Ok (if b then None else Some block)) (ne_eqb block 0 some)),
)

pub claims_none : (file : List ℕ) (i block : ℕ) → Names file i block → block ≡ 0 → [] ≡ block_claims file i (block_named file i)
claims_none file i block names none = sym ((named_claims file i block names).0 none)

pub claims_some : (p : Pool) (file before : List ℕ) (i block : ℕ) → Knows p file before → Names file i block → block ≢ 0 → Claim (Block i) (block / 2 ^ p.bits) ∷ [] ≡ block_claims file i (block_named file i)
claims_some p file before i block knows names some =
    ap (λ (b : ℕ). Claim (Block i) (block / 2 ^ b) ∷ []) knows.blocks.bits ∙ sym ((named_claims file i block names).1 some 0)

-- ---- the clusters of the refcount table, one after another

pub record HasTabled (p q : Pool) (a n : ℕ) : Type 0 where
  pub kept : IsKept p q
  pub gone : (file before : List ℕ) → Knows p file before → Gone file before (map (Claim Counts) (range_with_len a n)) q

pub tabled_none : (p : Pool) (a : ℕ) → HasTabled p p a 0
tabled_none p a = record { kept = kept_same p p refl; gone = λ file before knows. gone_none p file before knows }

pub tabled_more : (p q r : Pool) (a n : ℕ) → HasTabled p q a n → IsKept q r → ((file before : List ℕ) → Knows q file before → Gone file before (Claim Counts (a + n) ∷ []) r) → HasTabled p r a (n + 1)
tabled_more p q r a n had kept next = record {
  kept = kept_on p q r had.kept kept;
  gone = λ file before knows.
      let one : Gone file before (map (Claim Counts) (range_with_len a n)) q = had.gone file before knows in
      gone_as r file before _ _ (sym (mapped_more (Claim Counts) a n))
      (gone_on q r file before (map (Claim Counts) (range_with_len a n)) (Claim Counts (a + n) ∷ []) one (next file (claimed_after before (map (Claim Counts) (range_with_len a n))) one.knows));
}

pub tabled_stop : {T : Type 0} (U : Type 0) (p q r : Pool) (a n m : ℕ) (why : ClusterRefusal) (result : Result T ClusterRefusal) → n < m → HasTabled p q a n → IsErrAnd result (λ x. x ≡ why)
    → ((file before : List ℕ) → Knows q file before → Went {T = U} file before (Claim Counts (a + n) ∷ []) r (Err why))
    → (file before : List ℕ) → Knows p file before → Went file before (map (Claim Counts) (range_with_len a m)) r result
tabled_stop U p q r a n m why result below had handed next file before knows =
    let xs : List Check = map (Claim Counts) (range_with_len a n) in
    let one : Gone file before xs q = had.gone file before knows in
    let at = mapped_at (Claim Counts) a m n below in
    let went : Went {T = U} file before (xs ++ Claim Counts (a + n) ∷ []) r (Err why) =
    went_on {T = U} q r file before xs (Claim Counts (a + n) ∷ []) (Err why) one (next file (claimed_after before xs) one.knows) in
    went_as r file before _ _ result (sym at.1) (stopped U r file before (xs ++ Claim Counts (a + n) ∷ []) at.0 why result handed went)

-- ---- the blocks, one after another

abbrev pub claims_of : List ℕ → ℕ → List Check
claims_of file i = block_claims file i (block_named file i)

pub record HasClaimed (p q : Pool) (n : ℕ) : Type 0 where
  pub kept : IsKept p q
  pub below : (i : ℕ) → i < n → block_at p i ≢ 0 → block_at p i / 2 ^ p.bits < p.prepared
  pub gone : (file before : List ℕ) → Knows p file before → ((i : ℕ) → i < length p.blocks → Names file i (block_at p i)) → Gone file before (each_below n (claims_of file)) q

pub claimed_none : (p : Pool) → HasClaimed p p 0
claimed_none p = record { kept = kept_same p p refl; below = λ i low. absurd (omega arith); gone = λ file before knows names. gone_none p file before knows }

pub same_blocks : (p q : Pool) → IsKept p q → q.blocks ≡ p.blocks
same_blocks p q kept = ap (λ (x : Pool). x.blocks) kept.is

pub claimed_more : (p q r : Pool) (n : ℕ) → n < length p.blocks → HasClaimed p q n → IsKept q r → (block_at q n ≢ 0 → block_at q n / 2 ^ q.bits < q.prepared)
    → ((file before : List ℕ) → Knows q file before → Names file n (block_at q n) → Gone file before (claims_of file n) r) → HasClaimed p r (n + 1)
claimed_more p q r n inside had kept low next =
    let blocks = same_blocks p q had.kept in
    let here : block_at q n ≡ block_at p n = ap (λ (bs : List ℕ). slice_index bs n) blocks in
    let bits : q.bits ≡ p.bits = ap (λ (x : Pool). x.bits) had.kept.is in
    let prepared : q.prepared ≡ p.prepared = ap (λ (x : Pool). x.prepared) had.kept.is in
    record {
      kept = kept_on p q r had.kept kept;
      below = λ i less some. elim (cases_eq i n) [
        | inl e ↦
            let there : block_at q n ≢ 0 = λ z. some (ap (λ (j : ℕ). block_at p j) e ∙ (sym here ∙ z)) in
            let is : block_at q n / 2 ^ q.bits ≡ block_at p i / 2 ^ p.bits = ap (λ (b : ℕ). b / 2 ^ q.bits) (here ∙ ap (λ (j : ℕ). block_at p j) (sym e)) ∙ ap (λ (b : ℕ). block_at p i / 2 ^ b) bits in
            omega (arith, low there, is, prepared)
        | inr other ↦ had.below i (omega arith) some
      ];
      gone = λ file before knows names.
          let xs : List Check = each_below n (claims_of file) in
          let one : Gone file before xs q = had.gone file before knows names in
          let is : Names file n (block_at q n) = subst (Names file n) (sym here) (names n inside) in
          gone_as r file before _ _ (sym (each_more (claims_of file) n)) (gone_on q r file before xs (claims_of file n) one (next file (claimed_after before xs) one.knows is));
    }

pub claimed_stop : {T : Type 0} (U : Type 0) (p q r : Pool) (n : ℕ) (why : ClusterRefusal) (result : Result T ClusterRefusal) → n < length p.blocks → HasClaimed p q n → IsErrAnd result (λ x. x ≡ why)
    → ((file before : List ℕ) → Knows q file before → Names file n (block_at q n) → Went {T = U} file before (claims_of file n) r (Err why))
    → (file before : List ℕ) → Knows p file before → ((i : ℕ) → i < length p.blocks → Names file i (block_at p i)) → Went file before (each_below (length p.blocks) (claims_of file)) r result
claimed_stop U p q r n why result inside had handed next file before knows names =
    let blocks = same_blocks p q had.kept in
    let here : block_at q n ≡ block_at p n = ap (λ (bs : List ℕ). slice_index bs n) blocks in
    let xs : List Check = each_below n (claims_of file) in
    let one : Gone file before xs q = had.gone file before knows names in
    let at = each_at (claims_of file) (length p.blocks) n inside in
    let went : Went {T = U} file before (xs ++ claims_of file n) r (Err why) =
    went_on {T = U} q r file before xs (claims_of file n) (Err why) one (next file (claimed_after before xs) one.knows (subst (Names file n) (sym here) (names n inside))) in
    went_as r file before _ _ result (sym at.1) (stopped U r file before (xs ++ claims_of file n) at.0 why result handed went)

-- ---- numbers

pub place_near : (bits r offset : ℕ) → 9 ≤ bits → r ≡ bits → offset < 2 ^ 64 → place_of bits (offset / 2 ^ r) < 2 ^ 64
unfolding place_of
place_near bits r offset low e small =
    let some : 512 ≤ 2 ^ bits = bits_low bits low in
    let same : offset / 2 ^ r ≡ offset / 2 ^ bits = ap (λ (b : ℕ). offset / 2 ^ b) e in
    let f : 2 ^ bits * (offset / 2 ^ r) ≡ 2 ^ bits * (offset / 2 ^ bits) = ap (λ (x : ℕ). 2 ^ bits * x) same in
    omega arith

pub table_cluster : (l : Layout) (n : ℕ) → IsLayout l → (l.table + n * l.cluster) / 2 ^ l.cluster_bits ≡ l.table / l.cluster + n
table_cluster l n is =
    let q : ℕ = l.table / l.cluster in
    let whole : l.table % l.cluster ≡ 0 = is.whole in
    let least : 512 ≤ l.cluster = is.least in
    let e : l.table ≡ l.cluster * q = omega arith in
    let f : l.table + n * l.cluster ≡ l.cluster * (q + n) = grind (arith, common_steps) in
    ap (λ (c : ℕ). (l.table + n * l.cluster) / c) (sym is.size) ∙ (ap (λ (x : ℕ). x / l.cluster) f ∙ mul-div_cancel_left (q + n) (omega arith))

-- ---- header, table and blocks

pub head_zero : {T : Type 0} (l : Layout) (p q : Pool) (file : List ℕ) (result : Result T ClusterRefusal) → IsLayout l → p.bits ≡ l.cluster_bits → Went file [] (Claim Head (0 / 2 ^ p.bits) ∷ []) q result → Went file [] (Claim Head 0 ∷ []) q result
head_zero l p q file result is bits went =
    let least : 512 ≤ l.cluster = is.least in
    let size : 2 ^ p.bits ≡ l.cluster = ap (λ (b : ℕ). 2 ^ b) bits ∙ sym is.size in
    let zero_is : 0 / 2 ^ p.bits ≡ 0 = ap (λ (c : ℕ). 0 / c) size ∙ div-eq_of_lt (omega arith) in
    let P : ℕ → Type 0 = λ k. Went file [] (Claim Head k ∷ []) q result in
    subst P zero_is went

pub table_went : {T : Type 0} (l : Layout) (q : Pool) (file before : List ℕ) (result : Result T ClusterRefusal) → IsLayout l → IsLayoutOf l file
    → Went file before (map (Claim Counts) (range_with_len (l.table / l.cluster) l.clusters)) q result → Went file before (map (Claim Counts) (count_clusters file)) q result
table_went l q file before result is of went = went_as q file before _ _ result (ap (λ (ks : List ℕ). map (Claim Counts) ks) (sym (clusters_of_file l file is of))) went

pub blocks_went : {T : Type 0} (p q : Pool) (file before : List ℕ) (result : Result T ClusterRefusal) → Knows p file before
    → Went file before (each_below (length p.blocks) (claims_of file)) q result → Went file before (each_below (blocks_in file) (claims_of file)) q result
blocks_went p q file before result knows went = went_as q file before _ _ result (ap (λ (n : ℕ). each_below n (claims_of file)) knows.blocks.count) went

pub names_kept : (p q : Pool) (file : List ℕ) {before : List ℕ} → IsKept p q → Knows q file before → ((i : ℕ) → i < blocks_in file → Names file i (block_at p i)) → (i : ℕ) → i < length q.blocks → Names file i (block_at q i)
names_kept p q file kept knows names i below =
    let same : block_at p i ≡ block_at q i = ap (λ (bs : List ℕ). slice_index bs i) (sym (same_blocks p q kept)) in
    let count : length q.blocks ≡ blocks_in file = knows.blocks.count in
    subst (Names file i) same (names i (omega (arith, below, count)))

pub blocks_below : {T : Type 0} (p q : Pool) (result : Result T ClusterRefusal) → IsKept p q
    → OnOk result ((i : ℕ) → i < length q.blocks → block_at q i ≢ 0 → block_at q i / 2 ^ q.bits < q.prepared) → OnOk result ((i : ℕ) → i < length p.blocks → block_at p i ≢ 0 → block_at p i / 2 ^ p.bits < p.prepared)
blocks_below p q (Err why) kept low = tt
blocks_below p q (Ok value) kept low = λ i inside some.
    let blocks = same_blocks p q kept in
    let here : block_at q i ≡ block_at p i = ap (λ (bs : List ℕ). slice_index bs i) blocks in
    let count : length q.blocks ≡ length p.blocks = ap (λ (bs : List ℕ). length bs) blocks in
    let bits : q.bits ≡ p.bits = ap (λ (x : Pool). x.bits) kept.is in
    let prepared : q.prepared ≡ p.prepared = ap (λ (x : Pool). x.prepared) kept.is in
    let is : block_at q i / 2 ^ q.bits ≡ block_at p i / 2 ^ p.bits = ap (λ (b : ℕ). b / 2 ^ q.bits) here ∙ ap (λ (b : ℕ). block_at p i / 2 ^ b) bits in
    let below = low i (omega (arith, inside, count)) (λ z. some (sym here ∙ z)) in
    omega (arith, below, is, prepared)

-- ---- a claim's refusal, as the pool tells it

abbrev pub IsTold : {T : Type 0} → Result T ImageFault → Option ImageFault → Type 0
IsTold result refusal = (fault : ImageFault) → (result ≡ Err fault) ↔ (refusal ≡ Some fault)

pub ok_none : {T : Type 0} (result : Result T ImageFault) (value : T) (refusal : Option ImageFault) → result ≡ Ok value → IsTold result refusal → refusal ≡ None
ok_none result value None is told = refl
ok_none result value (Some fault) is told = let e = (told fault).1 refl in absurd (cc)

gates_some : (a b c : Bool) (x y z f : ImageFault) → IsClaimFault x → IsClaimFault y → IsClaimFault z → (if a then Some x else if b then Some y else if c then None else Some z) ≡ Some f → IsClaimFault f
gates_some true b c x y z f i j k e = subst IsClaimFault (same_Some x f e) i
gates_some false true c x y z f i j k e = subst IsClaimFault (same_Some y f e) j
gates_some false false true x y z f i j k e = absurd (cc)
gates_some false false false x y z f i j k e = subst IsClaimFault (same_Some z f e) k

pub refusal_is_claim : (p : Pool) (k : ℕ) (fault : ImageFault) → claim_refusal p k ≡ Some fault → IsClaimFault fault
refusal_is_claim p k fault e =
    let place : ℕ = place_of p.bits k in
    gates_some (nat_le (reach p) k) (is_in p.spoken k) (is_counted p k) (PastLimit place) (Overlap place) (Uncounted place) fault tt tt tt e
