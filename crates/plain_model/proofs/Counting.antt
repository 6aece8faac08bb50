-- Counts of what passes a test, and facts on each of a list.
use Rattle.std.proofs.lemmas.Grind.{common_steps}
use Rattle.std.proofs.Common.{◌≡◌, ℕ, ◌+◌, List, [], ◌∷◌, ◌++◌, Bool, false, refl, arith}
use Rattle.std.specs.Prelude.{All, count_by, if◌then◌else◌}
use Rattle.std.specs.List.{list_any}
use Rattle.std.proofs.lemmas.List.Elements.{All-head, All-tail}
use Rattle.std.proofs.lemmas.List.Sums.{sum_by-cons, sum_by_push}
use Rattle.std.proofs.lemmas.Bool.{cond-false}

-- two facts on each of a list give a third
pub all_both : {A : Type 0} (P Q R : A → Type 0) (xs : List A) → ((x : A) → P x → Q x → R x) → All P xs → All Q xs → All R xs
all_both P Q R xs both ps qs = λ k d below. both _ (ps k d below) (qs k d below)

pub none_passes : {A : Type 0} (p : A → Bool) (xs : List A) → list_any p xs ≡ false → All (λ x. p x ≡ false) xs
none_passes p o h = grind (arith, common_steps)

-- ---- counts

abbrev pub one_if : Bool → ℕ
one_if b = if b then 1 else 0

pub count-cons : {A : Type 0} (p : A → Bool) (x : A) (xs : List A) → count_by p (x ∷ xs) ≡ one_if (p x) + count_by p xs
count-cons p x xs = sum_by-cons (λ y. one_if (p y)) x xs

pub count-push : {A : Type 0} (p : A → Bool) (xs : List A) (x : A) → count_by p (xs ++ x ∷ []) ≡ count_by p xs + one_if (p x)
count-push p xs x = sum_by_push (λ y. one_if (p y)) xs x

pub counted_none : {A : Type 0} (p : A → Bool) (xs : List A) → All (λ x. p x ≡ false) xs → count_by p xs ≡ 0
counted_none p [] h = refl
counted_none p (x ∷ xs) h =
    let here : one_if (p x) ≡ 0 = cond-false (p x) 1 0 (All-head (λ y. p y ≡ false) x xs h) in
    let later : count_by p xs ≡ 0 = counted_none p xs (All-tail (λ y. p y ≡ false) x xs h) in
    omega (arith, count-cons p x xs)

pub none_counted : {A : Type 0} (p : A → Bool) (xs : List A) → count_by p xs ≡ 0 → All (λ x. p x ≡ false) xs
none_counted p o h = grind (arith, common_steps)
