-- Names, and one name more.
use Rattle.std.proofs.Common.{◌≡◌, inl, inr, ℕ, ◌<◌, Bool, true, false, List, [], ◌∷◌, ◌++◌, length, get_or, Some, None, refl, sym, ◌∙◌, ap, arith}
use Rattle.std.specs.Prelude.{Option, not}
use Rattle.std.specs.List.{position, position_or_len}
use Rattle.std.specs.Str.{bytes_eq}
use Rattle.std.proofs.lemmas.Bool.{cases_lt}
use Rattle.std.proofs.lemmas.Bool.Decides.{nat_tests}
use Rattle.std.proofs.lemmas.List.{get_or_append_left, get_or_push, length_push}
use Rattle.std.proofs.lemmas.List.Folds.{position_or_len_push}
use Rattle.std.proofs.lemmas.List.Sums.{position_or_len_is, prefix_len-le-length}
use Rattle.std.proofs.lemmas.List.Quantifiers.{position-Some}
use Rattle.std.proofs.lemmas.Slice.Eq.{bytes_eq-Decides}
use Rattle.std.proofs.lemmas.Grind.{common_steps}
use Rattle.disk_memory.specs.Held.{number_of}

-- ---- by any test

-- the first place that passes, if one does, is the same with an element more
place_push : (p : List ℕ → Bool) (xs : List (List ℕ)) (y : List ℕ) (f : ℕ) → position p xs ≡ Some f → position p (xs ++ y ∷ []) ≡ Some f
place_push p xs y f found =
    let at = position-Some p xs f [] found in
    let is : position_or_len p xs ≡ f = position_or_len_is p xs f [] (omega (arith, at.0)) at.2 (λ _. at.1) in
    let below : f < length xs = at.0 in
    let more = position_or_len_push p xs y in
    let long = length_push xs y in
    grind (arith, nat_tests)

place_apart : (p : List ℕ → Bool) (xs : List (List ℕ)) (y : List ℕ) → p y ≡ false → position p (xs ++ y ∷ []) ≡ position p xs
place_apart p xs y fails =
    let more = position_or_len_push p xs y in
    let long = length_push xs y in
    grind (arith, nat_tests)

place_new : (p : List ℕ → Bool) (xs : List (List ℕ)) (y : List ℕ) → position p xs ≡ None → p y ≡ true → position p (xs ++ y ∷ []) ≡ Some (length xs)
place_new p xs y none passes =
    let short = prefix_len-le-length (λ x. not (p x)) xs in
    let more = position_or_len_push p xs y in
    let long = length_push xs y in
    grind (arith, nat_tests)

-- ---- by names

same_name : (a : List ℕ) → bytes_eq a a ≡ true
same_name a = (bytes_eq-Decides a a).1 refl

other_name : (a b : List ℕ) → (a ≡ b → ⊥) → bytes_eq a b ≡ false
other_name a b apart = by_cases (bytes_eq a b) (bytes_eq-Decides a b).0
  where
    by_cases : (t : Bool) → (t ≡ true → a ≡ b) → t ≡ false
    by_cases true same = absurd (apart (same refl))
    by_cases false same = refl

pub number_push_old : (names : List (List ℕ)) (name other : List ℕ) (f : ℕ) → number_of names other ≡ Some f → number_of (names ++ name ∷ []) other ≡ Some f
number_push_old names name other f found = place_push (λ n. bytes_eq n other) names name f found

pub number_push_apart : (names : List (List ℕ)) (name other : List ℕ) → (other ≡ name → ⊥) → number_of (names ++ name ∷ []) other ≡ number_of names other
number_push_apart names name other apart = place_apart (λ n. bytes_eq n other) names name (other_name name other (λ same. apart (sym same)))

pub number_push_new : (names : List (List ℕ)) (name : List ℕ) → number_of names name ≡ None → number_of (names ++ name ∷ []) name ≡ Some (length names)
number_push_new names name none = place_new (λ n. bytes_eq n name) names name none (same_name name)

pub number_or_none : (names : List (List ℕ)) (name : List ℕ) → ((g : ℕ) → number_of names name ≡ Some g → ⊥) → number_of names name ≡ None
number_or_none names name never = by_cases (number_of names name) refl
  where
    by_cases : (at : Option ℕ) → number_of names name ≡ at → number_of names name ≡ None
    by_cases None is = is
    by_cases (Some g) is = absurd (never g is)

-- but for the last, a list with one more is as it was
pub push_before : {A : Type 0} (xs : List A) (x d : A) (n f : ℕ) → length xs ≡ n → (f ≡ n → ⊥) → (get_or (xs ++ x ∷ []) f d ≡ get_or xs f d) × (f < length (xs ++ x ∷ []) → f < length xs)
push_before xs x d n f end other = grind (arith, common_steps)

-- each file is found by its name, with one more too
pub found_push : (names : List (List ℕ)) (name : List ℕ) → number_of names name ≡ None → ((f : ℕ) → f < length names → number_of names (get_or names f []) ≡ Some f)
    → (f : ℕ) → f < length (names ++ name ∷ []) → number_of (names ++ name ∷ []) (get_or (names ++ name ∷ []) f []) ≡ Some f
found_push names name none found f inside = elim (cases_lt f (length names)) [
  | inl below ↦
      ap (number_of (names ++ name ∷ [])) (get_or_append_left names (name ∷ []) [] f below) ∙ number_push_old names name (get_or names f []) f (found f below)
  | inr past ↦
      let last : length names ≡ f = omega (arith, inside, length_push names name) in
      ap (number_of (names ++ name ∷ [])) (get_or_push names name [] f last) ∙ number_push_new names name none ∙ ap (λ (n : ℕ). Some n) last
]
