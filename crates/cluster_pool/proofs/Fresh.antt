-- How many fresh clusters can be handed out, before and after a change.
use Rattle.std.proofs.Common.{◌≡◌, ◌≢◌, ℕ, suc, ◌+◌, ◌-◌, ◌*◌, ◌/◌, ◌^◌, ◌<◌, ◌≤◌, max, min, Bool, true, false, not, ◌&&◌, List, length, get_or, inl, inr, refl, sym, ap, ◌∙◌, arith}
use Rattle.std.specs.Prelude.{count_by, if◌then◌else◌, ◌==◌, nat_lt, nat_le}
use Rattle.std.specs.List.{range_with_len}
use Rattle.std.proofs.lemmas.Grind.{common_steps}
use Rattle.std.proofs.lemmas.Bool.{cases_lt, cases_eq, lt-ltb, le-ltb, le-leb, lt-leb, eq-eqb, ne_eqb}
use Rattle.std.proofs.lemmas.List.Sums.{count_by-le-length}
use Rattle.std.proofs.lemmas.List.FromFn.{length-range_with_len}
use Rattle.bitmap_model.specs.Granules.{is_in}
use Rattle.bitmap_model.proofs.Places.{granule_from, begins_after}
use Rattle.qc_layout.specs.Disks.{place_of}
use Rattle.cluster_pool.specs.Sets.{with_member}
use Rattle.cluster_pool.specs.Pool.{Pool, IsPool, IsPutAt, each, reach, block_of, is_own_block, becomes_block, is_open, fresh}
use Rattle.cluster_pool.proofs.Words.{is_in-with, is_in-with_other}
use Rattle.cluster_pool.proofs.Counting.{one_if, count-suc, count_same, count_one_less}
use Rattle.cluster_pool.proofs.Sizes.{each_some, place_of_same, place_none}

-- the cluster is no block, and becomes none
abbrev pub plain : Pool → ℕ → Bool
plain p k = not (is_own_block p k) && not (becomes_block p k)

pub fresh_is : (p : Pool) (a r : ℕ) → p.next ≡ a → reach p ≡ r → fresh p ≡ count_by (is_open p) (range_with_len a (r - a))
unfolding fresh
fresh_is p a r from e =
    ap (λ (x : ℕ). count_by (is_open p) (range_with_len x (reach p - x))) from ∙ ap (λ (x : ℕ). count_by (is_open p) (range_with_len a (x - a))) e

pub fresh_same : (p q : Pool) → q.next ≡ p.next → reach q ≡ reach p → ((k : ℕ) → p.next ≤ k → k < reach p → is_open q k ≡ is_open p k) → fresh q ≡ fresh p
fresh_same p q from e same =
    fresh_is q p.next (reach p) from e
    ∙ (count_same (is_open q) (is_open p) p.next (reach p - p.next) (λ k low high. same k low (omega arith))
    ∙ sym (fresh_is p p.next (reach p) refl refl))

pub fresh_few : (p : Pool) → fresh p ≤ reach p
fresh_few p = omega (arith, fresh_is p p.next (reach p) refl refl, count_by-le-length (is_open p) (range_with_len p.next (reach p - p.next)), length-range_with_len p.next (reach p - p.next))

-- ---- one cluster more is spoken for

less_by : (p : Pool) (s : List Bool) (k : ℕ) (opens : Bool) → p.next ≤ k → k < reach p → is_open p k ≡ opens → is_in s k ≡ true
    → ((j : ℕ) → j ≢ k → is_in s j ≡ is_in p.spoken j) → fresh p ≡ fresh (record p { spoken = s }) + one_if opens
less_by p s k true low high was is others =
    let q : Pool = record p { spoken = s } in
    fresh_is p p.next (reach p) refl refl
    ∙ (count_one_less (is_open p) (is_open q) p.next (reach p - p.next) k low (omega arith) was (ap (λ (b : Bool). not b && plain p k) is)
    (λ j _ _ other. ap (λ (b : Bool). not b && plain p j) (sym (others j other)))
    ∙ ap (λ (n : ℕ). n + 1) (sym (fresh_is q p.next (reach p) refl refl)))
less_by p s k false low high was is others =
    let q : Pool = record p { spoken = s } in
    let shut : is_open q k ≡ false = ap (λ (b : Bool). not b && plain p k) is in
    let same : fresh q ≡ fresh p = fresh_same p q refl refl (λ j _ _. elim (cases_eq j k) [
      | inl here ↦ ap (is_open q) here ∙ (shut ∙ (sym was ∙ ap (is_open p) (sym here)))
      | inr other ↦ ap (λ (b : Bool). not b && plain p j) (others j other)
    ]) in
    omega arith

pub fresh_less : (p : Pool) (s : List Bool) (k : ℕ) → k < reach p → is_in p.spoken k ≡ false → is_in s k ≡ true
    → ((j : ℕ) → j ≢ k → is_in s j ≡ is_in p.spoken j) → fresh p ≡ fresh (record p { spoken = s }) + one_if (nat_le p.next k && plain p k)
fresh_less p s k below was is others =
    let q : Pool = record p { spoken = s } in
    elim (cases_lt k p.next) [
      | inl behind ↦
          let same : fresh q ≡ fresh p = fresh_same p q refl refl (λ j low _. ap (λ (b : Bool). not b && plain p j) (others j (omega arith))) in
          let none : one_if (nat_le p.next k && plain p k) ≡ 0 = ap (λ (b : Bool). one_if (b && plain p k)) (lt-leb p.next k behind) in
          omega arith
      | inr from ↦
          less_by p s k (plain p k) from below (ap (λ (b : Bool). not b && plain p k) was) is others
          ∙ ap (λ (b : Bool). fresh q + one_if (b && plain p k)) (sym (le-leb p.next k from))
    ]

-- ---- one cluster is passed

begins_later : (e j k : ℕ) → 0 < e → j < k → j / e ≢ k / e → j < k / e * e
begins_later e j k some order other =
    elim (cases_lt (j / e) (k / e)) [
      | inl before ↦ begins_after j e (k / e) some before
      | inr after ↦ elim (cases_lt (k / e) (j / e)) [
        | inl later ↦ absurd (let p : k < j / e * e = begins_after k e (j / e) some later in omega (arith, granule_from j e))
        | inr same ↦ absurd (other (omega arith))
      ]
    ]

becomes_kept : (p : Pool) → IsPool p → p.next < p.prepared → (k : ℕ) → p.next < k → becomes_block (record p { next = p.next + 1 }) k ≡ becomes_block p k
becomes_kept p h prepared k after = elim (cases_eq (block_of p k) 0) [
  | inl missing ↦
      let other : p.next / each p ≢ k / each p = λ e. h.linked p.next (omega arith) prepared (ap (λ (i : ℕ). get_or p.blocks i 0) e ∙ missing) in
      let later : p.next < k / each p * each p = begins_later (each p) p.next k (each_some p.bits h.low) after other in
      ap (λ (m : ℕ). (block_of p k == 0) && (k == m)) (omega arith)
  | inr there ↦
      let none : (block_of p k == 0) ≡ false = ne_eqb (block_of p k) 0 there in
      ap (λ (b : Bool). b && (k == max (p.next + 1) (k / each p * each p))) none ∙ sym (ap (λ (b : Bool). b && (k == max p.next (k / each p * each p))) none)
]

pub fresh_passed : (p : Pool) → IsPool p → p.next < p.prepared
    → fresh p ≡ fresh (record p { next = p.next + 1 }) + (if nat_lt p.next (reach p) && is_open p p.next then 1 else 0)
fresh_passed p h prepared =
    let q : Pool = record p { next = p.next + 1 } in
    let whole : fresh p ≡ count_by (is_open p) (range_with_len p.next (reach p - p.next)) = fresh_is p p.next (reach p) refl refl in
    let rest : fresh q ≡ count_by (is_open q) (range_with_len (p.next + 1) (reach p - (p.next + 1))) = fresh_is q (p.next + 1) (reach p) refl refl in
    let n : ℕ = reach p - (p.next + 1) in
    let same : count_by (is_open q) (range_with_len (p.next + 1) n) ≡ count_by (is_open p) (range_with_len (p.next + 1) n) =
    count_same (is_open q) (is_open p) (p.next + 1) n
    (λ k low _. ap (λ (b : Bool). not (is_in p.spoken k) && (not (is_own_block p k) && not b)) (becomes_kept p h prepared k (omega arith))) in
    elim (cases_lt p.next (reach p)) [
      | inl below ↦
          let long : reach p - p.next ≡ suc n = omega arith in
          let cut : count_by (is_open p) (range_with_len p.next (reach p - p.next)) ≡ one_if (is_open p p.next) + count_by (is_open p) (range_with_len (p.next + 1) n) =
          ap (λ (m : ℕ). count_by (is_open p) (range_with_len p.next m)) long ∙ count-suc (is_open p) p.next n in
          let test : one_if (nat_lt p.next (reach p) && is_open p p.next) ≡ one_if (is_open p p.next) = ap (λ (b : Bool). one_if (b && is_open p p.next)) (lt-ltb p.next (reach p) below) in
          omega arith
      | inr past ↦
          let none : one_if (nat_lt p.next (reach p) && is_open p p.next) ≡ 0 = ap (λ (b : Bool). one_if (b && is_open p p.next)) (le-ltb p.next (reach p) past) in
          let empty : reach p - p.next ≡ 0 = omega arith in
          let emptier : n ≡ 0 = omega arith in
          let short : count_by (is_open p) (range_with_len p.next (reach p - p.next)) ≡ 0 = ap (λ (m : ℕ). count_by (is_open p) (range_with_len p.next m)) empty in
          let shorter : count_by (is_open q) (range_with_len (p.next + 1) n) ≡ 0 = ap (λ (m : ℕ). count_by (is_open q) (range_with_len (p.next + 1) m)) emptier in
          omega arith
    ]

-- ---- the first cluster that isn't prepared becomes the block that counts it

module _ (p : Pool) (h : IsPool p) (missing : block_of p p.prepared ≡ 0) (some : 0 < p.prepared) where
  -- it is the first fresh one of those that its block counts
  pub becomes_next : max p.next (p.prepared / each p * each p) ≡ p.prepared
  becomes_next = elim (cases_lt p.next p.prepared) [
    | inl before ↦
        let last : ℕ = p.prepared - 1 in
        let other : last / each p ≢ p.prepared / each p = λ e. h.linked last (omega arith) (omega arith) (ap (λ (i : ℕ). get_or p.blocks i 0) e ∙ missing) in
        let later : last < p.prepared / each p * each p = begins_later (each p) last p.prepared (each_some p.bits h.low) (omega arith) other in
        omega (arith, granule_from p.prepared (each p))
    | inr none ↦ omega (arith, h.order, granule_from p.prepared (each p))
  ]

  next_shut : is_open p p.prepared ≡ false
  next_shut =
      let becomes : becomes_block p p.prepared ≡ true =
      ap (λ (b : Bool). b && (p.prepared == max p.next (p.prepared / each p * each p))) (eq-eqb (block_of p p.prepared) 0 missing)
      ∙ eq-eqb p.prepared (max p.next (p.prepared / each p * each p)) (sym becomes_next) in
      grind (arith, common_steps)

  -- none of the others becomes it
  others_plain : (k : ℕ) → p.next ≤ k → k ≢ p.prepared → k / each p ≡ p.prepared / each p → plain p k ≡ true
  others_plain k low other one =
      let none : block_of p k ≡ 0 = ap (λ (i : ℕ). get_or p.blocks i 0) one ∙ missing in
      let owns : is_own_block p k ≡ false = ne_eqb (block_of p k) (place_of p.bits k) (λ e.
      let zero_place : k ≡ 0 = place_none p.bits k (sym e ∙ none) in h.linked k low (omega arith) none) in
      let becomes : becomes_block p k ≡ false =
      ap (λ (m : ℕ). (block_of p k == 0) && (k == max p.next (m * each p))) one
      ∙ (ap (λ (m : ℕ). (block_of p k == 0) && (k == m)) becomes_next
      ∙ (ap (λ (b : Bool). (block_of p k == 0) && b) (ne_eqb k p.prepared other) ∙ grind (arith, common_steps))) in
      grind (arith, common_steps)

  pub open_added : (bs : List ℕ) → p.prepared < reach p → length p.spoken ≡ reach p → IsPutAt p.blocks bs (p.prepared / each p) (place_of p.bits p.prepared)
      → (k : ℕ) → p.next ≤ k → is_open (record p { blocks = bs; spoken = with_member p.spoken p.prepared; prepared = p.prepared + 1 }) k ≡ is_open p k
  open_added bs below long put k low =
      let q : Pool = record p { blocks = bs; spoken = with_member p.spoken p.prepared; prepared = p.prepared + 1 } in
      elim (cases_eq k p.prepared) [
        | inl here ↦
            let shut : is_open q p.prepared ≡ false = ap (λ (b : Bool). not b && plain q p.prepared) (is_in-with p.spoken p.prepared (omega arith)) in
            ap (is_open q) here ∙ (shut ∙ (sym next_shut ∙ ap (is_open p) (sym here)))
        | inr other ↦
            let spoken : is_in q.spoken k ≡ is_in p.spoken k = is_in-with_other p.spoken p.prepared k other in
            elim (cases_eq (k / each p) (p.prepared / each p)) [
              | inl one ↦
                  let stands : block_of q k ≡ place_of p.bits p.prepared = ap (λ (i : ℕ). get_or bs i 0) one ∙ put.there in
                  let owns : is_own_block q k ≡ false = ne_eqb (block_of q k) (place_of p.bits k) (λ e. other (place_of_same p.bits k p.prepared (sym e ∙ stands))) in
                  let full : (block_of q k == 0) ≡ false = ne_eqb (block_of q k) 0 (λ e. let none : p.prepared ≡ 0 = place_none p.bits p.prepared (sym stands ∙ e) in omega arith) in
                  let becomes : becomes_block q k ≡ false = ap (λ (b : Bool). b && (k == max p.next (k / each p * each p))) full in
                  let was : plain p k ≡ true = others_plain k low other one in
                  ap (λ (b : Bool). not b && plain q k) spoken
                  ∙ (ap (λ (b : Bool). not (is_in p.spoken k) && (not b && not (becomes_block q k))) owns
                  ∙ (ap (λ (b : Bool). not (is_in p.spoken k) && not b) becomes ∙ ap (λ (b : Bool). not (is_in p.spoken k) && b) (sym was)))
              | inr apart ↦
                  let same : block_of q k ≡ block_of p k = put.others (k / each p) apart in
                  ap (λ (b : Bool). not b && plain q k) spoken
                  ∙ ap (λ (x : ℕ). not (is_in p.spoken k) && (not (x == place_of p.bits k) && not ((x == 0) && (k == max p.next (k / each p * each p))))) same
            ]
      ]

  pub fresh_added : (bs : List ℕ) → p.prepared < reach p → IsPutAt p.blocks bs (p.prepared / each p) (place_of p.bits p.prepared)
      → fresh (record p { blocks = bs; spoken = with_member p.spoken p.prepared; prepared = p.prepared + 1 }) ≡ fresh p
  fresh_added bs below put =
      let q : Pool = record p { blocks = bs; spoken = with_member p.spoken p.prepared; prepared = p.prepared + 1 } in
      fresh_same p q refl (ap (λ (n : ℕ). min (2 ^ 30) (n * each p)) put.same_length) (λ k low _. open_added bs below h.spoken put k low)
