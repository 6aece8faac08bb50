-- Lists of which elements are left out: what filters keep of orders and counts.
use Rattle.std.proofs.Common.{rules}
use Rattle.std.proofs.lemmas.Grind.{common_steps}
use Rattle.std.proofs.Common.{◌≡◌, ℕ, zero, suc, ◌<◌, ◌&&◌, List, [], ◌∷◌, ◌++◌, length, map, filter, set, get_or, swap, count_by, Bool, not, IsPermutation, refl, inl, inr, arith}
use Rattle.std.proofs.lemmas.Bool.{cases_Bool}
use Rattle.std.proofs.lemmas.List.Filters.{sum_by-filter_both}
use Rattle.std.proofs.lemmas.List.Sorted.{IsPermutation-refl, IsPermutation-cons, IsPermutation-middle, IsPermutation-trans, IsPermutation-keeps}
use Rattle.std.proofs.lemmas.List.Sums.{sum_by-append}

-- ---- permutations

module _ {X : Type 0} (p : X → Bool) where
  one_more : (z : X) (xs ys : List X) → IsPermutation (filter p xs) (filter p ys) → IsPermutation (filter p (z ∷ xs)) (filter p (z ∷ ys))
  one_more z xs ys h = elim (cases_Bool (p z)) [
    | inl kept ↦ rw kept (IsPermutation-cons z (filter p xs) (filter p ys) h)
    | inr dropped ↦ rw dropped h
  ]

  neighbours : (x y : X) (l : List X) → IsPermutation (filter p (x ∷ y ∷ l)) (filter p (y ∷ x ∷ l))
  neighbours x y l = elim (cases_Bool (p x)) [
    | inl one ↦ elim (cases_Bool (p y)) [
      | inl other ↦ rw (one, other) (IsPermutation-middle (x ∷ []) y (filter p l))
      | inr other ↦ rw (one, other) (IsPermutation-refl (x ∷ filter p l))
    ]
    | inr one ↦ rw one (IsPermutation-refl (filter p (y ∷ l)))
  ]

  -- the first element in exchange for a later one
  with_first : (x d : X) (l : List X) (j : ℕ) → j < length l → IsPermutation (filter p (x ∷ l)) (filter p (get_or l j d ∷ set l j x))
  with_first x d [] j below = absurd (omega (arith, below))
  with_first x d (y ∷ l) zero below = neighbours x y l
  with_first x d (z ∷ l) (suc j) below =
      IsPermutation-trans (filter p (x ∷ z ∷ l)) (filter p (z ∷ x ∷ l)) (filter p (get_or l j d ∷ z ∷ set l j x)) (neighbours x z l)
      (IsPermutation-trans (filter p (z ∷ x ∷ l)) (filter p (z ∷ get_or l j d ∷ set l j x)) (filter p (get_or l j d ∷ z ∷ set l j x))
      (one_more z (x ∷ l) (get_or l j d ∷ set l j x) (with_first x d l j (omega (arith, below)))) (neighbours z (get_or l j d) (set l j x)))

  exchanged : (d : X) (l : List X) (i j : ℕ) → i < length l → j < length l
      → IsPermutation (filter p l) (filter p (set (set l i (get_or l j d)) j (get_or l i d)))
  exchanged d [] i j low high = absurd (omega (arith, low))
  exchanged d (x ∷ l) zero zero low high = IsPermutation-refl (filter p (x ∷ l))
  exchanged d (x ∷ l) zero (suc j) low high = with_first x d l j (omega (arith, high))
  exchanged d (x ∷ l) (suc i) zero low high = with_first x d l i (omega (arith, low))
  exchanged d (x ∷ l) (suc i) (suc j) low high = grind (arith, common_steps, exchanged d l i j (omega (arith, low)) (omega (arith, high)), one_more)

  swapped : (l : List X) (i j : ℕ) → i < length l → j < length l → IsPermutation (filter p l) (filter p (swap l i j))
  swapped [] i j low high = absurd (omega (arith, low))
  swapped (x ∷ l) i j low high = exchanged x (x ∷ l) i j low high

  -- what a filter keeps of a list and of a permutation of it are permutations of each other
  pub filtered_permutation : (xs ys : List X) → IsPermutation xs ys → IsPermutation (filter p xs) (filter p ys)
  filtered_permutation xs ys h =
      IsPermutation-keeps xs (λ (l : List X). IsPermutation (filter p xs) (filter p l)) (IsPermutation-refl (filter p xs))
      (λ l i j low high so. IsPermutation-trans (filter p xs) (filter p l) (filter p (swap l i j)) so (swapped l i j low high)) ys h

-- ---- filters of filters and of maps

pub filter-map : {X Y : Type 0} (p : Y → Bool) (f : X → Y) (xs : List X) → filter p (map f xs) ≡ map f (filter (λ x. p (f x)) xs)
filter-map p f [] = refl
filter-map {X} {Y} p f (x ∷ xs) = search (rules, filter-map p f xs)

-- a test that is the two others together, after the one of them
pub filter_under : {X : Type 0} (q t u : X → Bool) → ((x : X) → u x ≡ (q x && t x)) → (xs : List X) → filter u (filter q xs) ≡ filter q (filter t xs)
filter_under q t u both [] = refl
filter_under {X} q t u both (x ∷ xs) = search (rules, filter_under q t u both xs)

-- ---- counts

pub count_by-map : {X Y : Type 0} (p : Y → Bool) (q : X → Bool) (f : X → Y) → ((x : X) → p (f x) ≡ q x) → (xs : List X) → count_by p (map f xs) ≡ count_by q xs
count_by-map p q f same o = grind (arith, common_steps)

-- the elements that pass a test, and then those that don't, are all
pub count_parted : {X : Type 0} (p q : X → Bool) (xs : List X) → count_by p (filter q xs ++ filter (λ (x : X). not (q x)) xs) ≡ count_by p xs
count_parted {X} p q xs = search (rules, sum_by-append, sum_by-filter_both)
