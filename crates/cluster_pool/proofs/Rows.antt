-- Neighbours that are taken, one after another.
use Rattle.std.proofs.Common.{◌≡◌, ℕ, zero, suc, ◌+◌, ◌<◌, ◌≤◌, Bool, List, ◌∷◌, ◌++◌, inl, inr, refl, sym, ap, subst, ◌∙◌, arith, add-one}
use Rattle.std.specs.List.{range_with_len}
use Rattle.std.proofs.lemmas.Bool.{cases_lt, cases_eq}
use Rattle.bitmap_model.specs.Granules.{is_in}
use Rattle.cluster_pool.specs.Sets.{with_member}
use Rattle.cluster_pool.specs.Pool.{Pool, IsReady, HasAll, HasTaken, HasTakenRow, reach, block_of}
use Rattle.cluster_pool.proofs.Words.{length-with, is_in-with, is_in-with_other}
use Rattle.cluster_pool.proofs.Keeping.{ready_by}

-- one more, which is number i
pub has_more : (old s : List Bool) (k i n m : ℕ) → i ≡ k + n → m ≡ n + 1 → HasAll old s k n → HasAll old (with_member s i) k m
has_more old s k i n m here more h = record {
  same_length = length-with s i ∙ h.same_length;
  inside = λ j low high below. elim (cases_eq j i) [
    | inl is ↦ ap (is_in (with_member s i)) is ∙ is_in-with s i (omega (arith, h.same_length))
    | inr other ↦ is_in-with_other s i j other ∙ h.inside j low (omega arith) below
  ];
  others = λ j outside. is_in-with_other s i j (elim outside [ inl before ↦ omega arith | inr after ↦ omega arith ])
      ∙ h.others j (elim outside [ inl before ↦ inl before | inr after ↦ inr (omega arith) ]);
}

range_push : (k n m : ℕ) (rest : List ℕ) → k + n ≡ m → range_with_len k (suc n) ++ rest ≡ range_with_len k n ++ m ∷ rest
range_push k zero m rest is = ap (λ (x : ℕ). x ∷ rest) (omega arith)
range_push k (suc n) m rest is = ap (λ (xs : List ℕ). k ∷ xs) (range_push (k + 1) n m rest (omega arith))

pub row_one : (p q : Pool) (k : ℕ) → HasTaken p q k → HasTakenRow p q k 1
row_one p q k taken =
    let spoken : q.spoken ≡ with_member p.spoken k = ap (λ (x : Pool). x.spoken) taken.is in
    let none : HasAll p.spoken p.spoken k 0 = record { same_length = refl; inside = λ j low high below. absurd (omega arith); others = λ j outside. refl } in
    record {
      some = omega arith;
      rest = taken.rest;
      first = taken.first;
      spoken = subst (λ (s : List Bool). HasAll p.spoken s k 1) (sym spoken) (has_more p.spoken p.spoken k k 0 1 (omega arith) (omega arith) none);
      is = taken.is ∙ ap (λ (s : List Bool). record p { ready = taken.rest; spoken = s }) (sym spoken);
    }

module _ (p q : Pool) (k n : ℕ) (row : HasTakenRow p q k n) where
  pub row_more : (r : Pool) → HasTaken q r (k + n) → HasTakenRow p r k (n + 1)
  row_more r taken =
      let ready : row.rest ≡ (k + n) ∷ taken.rest = sym (ap (λ (x : Pool). x.ready) row.is) ∙ taken.first in
      let spoken : r.spoken ≡ with_member q.spoken (k + n) = ap (λ (x : Pool). x.spoken) taken.is in
      record {
        some = omega arith;
        rest = taken.rest;
        first = row.first ∙ ap (λ (xs : List ℕ). range_with_len k n ++ xs) ready ∙ rw add-one (sym (range_push k n (k + n) taken.rest refl));
        spoken = subst (λ (s : List Bool). HasAll p.spoken s k (n + 1)) (sym spoken) (has_more p.spoken q.spoken k (k + n) n (n + 1) refl refl row.spoken);
        is = taken.is ∙ ap (λ (x : Pool). record x { ready = taken.rest; spoken = with_member q.spoken (k + n) }) row.is ∙ ap (λ (s : List Bool). record p { ready = taken.rest; spoken = s }) (sym spoken);
      }

  pub row_ready : IsReady q (k + n) → ((j : ℕ) → k ≤ j → j < k + n → IsReady p j) → (j : ℕ) → k ≤ j → j < k + (n + 1) → IsReady p j
  row_ready next were j low high = elim (cases_lt j (k + n)) [
    | inl before ↦ were j low before
    | inr last ↦
        let here : k + n ≡ j = omega arith in
        subst (IsReady p) here (ready_by q p (k + n) (omega (arith, ap (λ (x : Pool). x.next) row.is)) (sym (ap reach row.is)) (sym (ap (λ (x : Pool). x.bits) row.is))
        (sym (row.spoken.others (k + n) (inr (omega arith))) ∙ next.unspoken) (sym (ap (λ (x : Pool). block_of x (k + n)) row.is)) next)
  ]
