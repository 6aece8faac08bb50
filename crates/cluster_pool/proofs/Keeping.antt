-- What holds of every pool holds after a change.
use Rattle.std.proofs.Common.{◌≡◌, ◌≢◌, ℕ, ◌+◌, ◌*◌, ◌/◌, ◌%◌, ◌^◌, ◌<◌, ◌≤◌, min, Bool, true, false, not, List, [], ◌∷◌, ◌++◌, length, get_or, inl, inr, refl, sym, ap, subst, ◌∙◌, arith, rules}
use Rattle.std.specs.Prelude.{All, filter, ◌==◌, if◌then◌else◌}
use Rattle.std.proofs.lemmas.Grind.{common_steps}
use Rattle.std.proofs.lemmas.Bool.{cases_lt, cases_eq, eq-eqb}
use Rattle.std.proofs.lemmas.List.{length-replicate}
use Rattle.std.proofs.lemmas.List.Elements.{All-nil, All-head, All-tail, All-push, All-weaker, All-filter}
use Rattle.std.proofs.lemmas.List.Sums.{length-filter, count_by-le-length}
use Rattle.bitmap_model.specs.Granules.{is_in}
use Rattle.qc_layout.specs.Disks.{counts_in, place_of}
use Rattle.cluster_pool.specs.Sets.{with_member, without_member}
use Rattle.cluster_pool.specs.Pool.{Pool, IsPool, IsReady, IsPutAt, AreRising, each, reach, block_of, is_open, is_own_block, found_pool}
use Rattle.cluster_pool.proofs.Words.{length-with, length-without, is_in-with_other, is_in-without, is_in-without_other}
use Rattle.cluster_pool.proofs.Sizes.{each_some, counted_by, place_none}

-- ---- lists in order

true_false : true ≡ false → ⊥
true_false e = search rules

rising_if : (kept : Bool) (k : ℕ) (ks : List ℕ) → All (λ m. k < m) ks → AreRising ks → AreRising (if kept then k ∷ ks else ks)
rising_if true k ks above h = (above, h)
rising_if false k ks above h = h

pub rising_filter : (test : ℕ → Bool) (ks : List ℕ) → AreRising ks → AreRising (filter test ks)
rising_filter test [] h = tt
rising_filter test (k ∷ ks) h = rising_if (test k) k (filter test ks) (All-filter test (λ m. k < m) ks h.0) (rising_filter test ks h.1)

pub rising_push : (ks : List ℕ) (k : ℕ) → All (λ m. m < k) ks → AreRising ks → AreRising (ks ++ k ∷ [])
rising_push [] k below h = (All-nil (λ m. k < m), tt)
rising_push (j ∷ ks) k below h =
    (All-push (λ m. j < m) ks k h.0 (All-head (λ m. m < k) j ks below), rising_push ks k (All-tail (λ m. m < k) j ks below) h.1)

pub filter_short : (test : ℕ → Bool) (ks : List ℕ) → length (filter test ks) ≤ length ks
filter_short test ks = omega (arith, length-filter test ks, count_by-le-length test ks)

-- ---- pools

pub ready_by : (p q : Pool) (k : ℕ) → p.next ≤ q.next → reach q ≡ reach p → q.bits ≡ p.bits → is_in q.spoken k ≡ false → block_of q k ≡ block_of p k → IsReady p k → IsReady q k
ready_by p q k next far bits unspoken block r = record {
  below = omega (arith, r.below);
  reach = omega (arith, r.reach);
  unspoken = unspoken;
  linked = λ e. r.linked (sym block ∙ e);
  differs = λ e. r.differs (sym block ∙ (e ∙ ap (λ (b : ℕ). place_of b k) bits));
}

pub pool_spoken : (p : Pool) (s : List Bool) → IsPool p → length s ≡ length p.spoken → All (λ m. is_in s m ≡ false) p.ready → IsPool (record p { spoken = s })
pool_spoken p s h long unspoken = record {
  low = h.low;
  high = h.high;
  few = h.few;
  spoken = long ∙ h.spoken;
  order = h.order;
  found = h.found;
  linked = h.linked;
  ready = λ i d below. ready_by p (record p { spoken = s }) (get_or p.ready i d) (omega arith) refl refl (unspoken i d below) refl (h.ready i d below);
  rising = h.rising;
  at_once = h.at_once;
}

pub pool_ready : (p : Pool) (ks : List ℕ) → IsPool p → All (IsReady p) ks → AreRising ks → length ks ≤ 64 → IsPool (record p { ready = ks })
pool_ready p ks h ready rising few = record {
  low = h.low;
  high = h.high;
  few = h.few;
  spoken = h.spoken;
  order = h.order;
  found = h.found;
  linked = h.linked;
  ready = λ i d below. let r : IsReady p (get_or ks i d) = ready i d below in
      ready_by p (record p { ready = ks }) (get_or ks i d) (omega arith) refl refl r.unspoken refl r;
  rising = rising;
  at_once = few;
}

pub pool_passed : (p : Pool) → IsPool p → p.next < p.prepared → IsPool (record p { next = p.next + 1 })
pool_passed p h before = record {
  low = h.low;
  high = h.high;
  few = h.few;
  spoken = h.spoken;
  order = omega arith;
  found = h.found;
  linked = λ k low high. h.linked k (omega arith) high;
  ready = λ i d below. let r : IsReady p (get_or p.ready i d) = h.ready i d below in
      ready_by p (record p { next = p.next + 1 }) (get_or p.ready i d) (omega arith) refl refl r.unspoken refl r;
  rising = h.rising;
  at_once = h.at_once;
}

-- the next clusters, of the block that counts the first of them
pub pool_prepared : (p : Pool) (n : ℕ) → IsPool p → block_of p p.prepared ≢ 0 → p.prepared % each p + n ≤ each p → IsPool (record p { prepared = p.prepared + n })
pool_prepared p n h there within = record {
  low = h.low;
  high = h.high;
  few = h.few;
  spoken = h.spoken;
  order = omega (arith, h.order);
  found = omega (arith, h.found);
  linked = λ k low high. elim (cases_lt k p.prepared) [
    | inl before ↦ h.linked k low before
    | inr from ↦
        let e : ℕ = each p in
        let some : 0 < e = each_some p.bits h.low in
        let sum : p.prepared / e * e + p.prepared % e ≡ p.prepared = search rules in
        let one : k / e ≡ p.prepared / e = counted_by k e (p.prepared / e) (omega arith) (omega arith) in
        λ none. there (ap (λ (i : ℕ). get_or p.blocks i 0) (sym one) ∙ none)
  ];
  ready = λ i d below. let r : IsReady p (get_or p.ready i d) = h.ready i d below in
      ready_by p (record p { prepared = p.prepared + n }) (get_or p.ready i d) (omega arith) refl refl r.unspoken refl r;
  rising = h.rising;
  at_once = h.at_once;
}

pub pool_settled : (p : Pool) (set : List Bool) → IsPool p → IsPool (record p { counted = set; from = p.prepared })
pool_settled p set h = record {
  low = h.low;
  high = h.high;
  few = h.few;
  spoken = h.spoken;
  order = h.order;
  found = omega arith;
  linked = h.linked;
  ready = λ i d below. let r : IsReady p (get_or p.ready i d) = h.ready i d below in
      ready_by p (record p { counted = set; from = p.prepared }) (get_or p.ready i d) (omega arith) refl refl r.unspoken refl r;
  rising = h.rising;
  at_once = h.at_once;
}

-- the first cluster that isn't prepared becomes the block that counts it
pub pool_added : (p : Pool) (bs : List ℕ) → IsPool p → block_of p p.prepared ≡ 0 → 0 < p.prepared → IsPutAt p.blocks bs (p.prepared / each p) (place_of p.bits p.prepared)
    → IsPool (record p { blocks = bs; spoken = with_member p.spoken p.prepared; prepared = p.prepared + 1 })
pool_added p bs h missing some put =
    let q : Pool = record p { blocks = bs; spoken = with_member p.spoken p.prepared; prepared = p.prepared + 1 } in
    let far : reach q ≡ reach p = ap (λ (n : ℕ). min (2 ^ 30) (n * each p)) put.same_length in
    let kept : (k : ℕ) → block_of p k ≢ 0 → block_of q k ≡ block_of p k = λ k there. put.others (k / each p) (λ one. there (ap (λ (i : ℕ). get_or p.blocks i 0) one ∙ missing)) in
    record {
      low = h.low;
      high = h.high;
      few = omega (arith, h.few, put.same_length);
      spoken = length-with p.spoken p.prepared ∙ (h.spoken ∙ sym far);
      order = omega (arith, h.order);
      found = omega (arith, h.found);
      linked = λ k low high. elim (cases_lt k p.prepared) [
        | inl before ↦ let was : block_of p k ≢ 0 = h.linked k low before in λ e. was (sym (kept k was) ∙ e)
        | inr from ↦
            let here : k ≡ p.prepared = omega arith in
            λ e. let none : p.prepared ≡ 0 = place_none p.bits p.prepared (sym put.there ∙ (ap (λ (j : ℕ). get_or bs (j / each p) 0) (sym here) ∙ e)) in omega arith
      ];
      ready = λ i d below. let r : IsReady p (get_or p.ready i d) = h.ready i d below in
          ready_by p q (get_or p.ready i d) (omega arith) far refl
          (is_in-with_other p.spoken p.prepared (get_or p.ready i d) (let b : get_or p.ready i d < p.next = r.below in omega (arith, h.order)) ∙ r.unspoken) (kept (get_or p.ready i d) r.linked) r;
      rising = h.rising;
      at_once = h.at_once;
    }

pub pool_dropped : (p : Pool) (k : ℕ) → IsPool p → IsPool (record p { ready = filter (λ m. not (m == k)) p.ready })
pool_dropped p k h =
    let test : ℕ → Bool = λ m. not (m == k) in
    pool_ready p (filter test p.ready) h (All-filter test (IsReady p) p.ready h.ready) (rising_filter test p.ready h.rising) (omega (arith, filter_short test p.ready, h.at_once))

pub pool_speaks : (p : Pool) (k : ℕ) → IsPool p → All (λ m. m ≢ k) p.ready → IsPool (record p { spoken = with_member p.spoken k })
pool_speaks p k h apart =
    pool_spoken p (with_member p.spoken k) h (length-with p.spoken k)
    (λ i d below. let r : IsReady p (get_or p.ready i d) = h.ready i d below in is_in-with_other p.spoken k (get_or p.ready i d) (apart i d below) ∙ r.unspoken)

pub pool_gives : (p : Pool) (k : ℕ) → IsPool p → IsPool (record p { spoken = without_member p.spoken k })
pool_gives p k h =
    pool_spoken p (without_member p.spoken k) h (length-without p.spoken k)
    (λ i d below. let r : IsReady p (get_or p.ready i d) = h.ready i d below in elim (cases_eq (get_or p.ready i d) k) [
      | inl here ↦ ap (is_in (without_member p.spoken k)) here ∙ is_in-without p.spoken k
      | inr other ↦ is_in-without_other p.spoken k (get_or p.ready i d) other ∙ r.unspoken
    ])

pub pool_taken : (p : Pool) (k : ℕ) (rest : List ℕ) → IsPool p → p.ready ≡ k ∷ rest → IsPool (record p { ready = rest; spoken = with_member p.spoken k })
pool_taken p k rest h e =
    let ready : All (IsReady p) (k ∷ rest) = subst (All (IsReady p)) e h.ready in
    let rising : AreRising (k ∷ rest) = subst AreRising e h.rising in
    let left : IsPool (record p { ready = rest }) = pool_ready p rest h (All-tail (IsReady p) k rest ready) rising.1 (let few : length (k ∷ rest) ≤ 64 = subst (λ (ks : List ℕ). length ks ≤ 64) e h.at_once in omega arith) in
    pool_speaks (record p { ready = rest }) k left (All-weaker (λ m. k < m) (λ m. m ≢ k) (λ m above. omega arith) rest rising.0)

-- a fresh cluster is passed, and is ready
pub pool_stepped : (p : Pool) → IsPool p → p.next < p.prepared → p.next < reach p → length p.ready < 64 → is_open p p.next ≡ true
    → IsPool (record p { next = p.next + 1; ready = p.ready ++ p.next ∷ [] })
pool_stepped p h before below few opens =
    let q : Pool = record p { next = p.next + 1 } in
    let kept : IsPool q = pool_passed p h before in
    let unspoken : is_in p.spoken p.next ≡ false = grind (arith, common_steps) in
    let differs : block_of p p.next ≢ place_of p.bits p.next = λ e.
    let owns : is_own_block p p.next ≡ true = eq-eqb (block_of p p.next) (place_of p.bits p.next) e in
    true_false (sym opens ∙ grind (arith, common_steps)) in
    let here : IsReady q p.next = record { below = omega arith; reach = below; unspoken = unspoken; linked = h.linked p.next (omega arith) before; differs = differs } in
    pool_ready q (p.ready ++ p.next ∷ []) kept (All-push (IsReady q) p.ready p.next kept.ready here)
    (rising_push p.ready p.next (λ i d inside. let r : IsReady p (get_or p.ready i d) = h.ready i d inside in r.below) h.rising) (grind (arith, common_steps))

pub pool_found : (bits : ℕ) (blocks : List ℕ) (counted : List Bool) (next : ℕ) → 9 ≤ bits → bits ≤ 21 → length blocks ≤ 2 ^ 23 → IsPool (found_pool bits blocks counted next)
pool_found bits blocks counted next low high few = record {
  low = low;
  high = high;
  few = few;
  spoken = length-replicate (min (2 ^ 30) (length blocks * counts_in bits)) false;
  order = omega arith;
  found = omega arith;
  linked = λ k from below. absurd (omega arith);
  ready = All-nil (IsReady (found_pool bits blocks counted next));
  rising = tt;
  at_once = omega arith;
}
