-- Lists that gain an element: in the middle, or at the end.
use Rattle.std.proofs.Common.{arith}
use Rattle.std.proofs.lemmas.Grind.{common_steps}
use Rattle.std.proofs.Common.{◌≡◌, List, [], ◌∷◌, ◌++◌, Bool, false, refl, sym, ap, subst, ◌∙◌}
use Rattle.std.specs.Prelude.{All, IsPermutation, filter, if◌then◌else◌}
use Rattle.std.specs.List.{list_any}
use Rattle.std.proofs.lemmas.List.{append_assoc}
use Rattle.std.proofs.lemmas.List.Elements.{All-cons, All-head, All-tail}
use Rattle.std.proofs.lemmas.List.Folds.{list_any-append}
use Rattle.std.proofs.lemmas.List.Sorted.{IsPermutation-sym, IsPermutation-trans, IsPermutation-middle, IsPermutation-to_front}
use Rattle.std.proofs.lemmas.Bool.{or_from}
use Rattle.plain_model.specs.Sound.{Differ}

-- ---- an element in the middle

pub all_insert : {A : Type 0} (P : A → Type 0) (xs ys : List A) (x : A) → All P (xs ++ ys) → P x → All P ((xs ++ x ∷ []) ++ ys)
all_insert P [] ys x all here = All-cons P x ys here all
all_insert P (a ∷ xs) ys x all here =
    All-cons P a ((xs ++ x ∷ []) ++ ys) (All-head P a (xs ++ ys) all) (all_insert P xs ys x (All-tail P a (xs ++ ys) all) here)

pub none_insert : {A : Type 0} (p : A → Bool) (xs ys : List A) (x : A) → list_any p (xs ++ ys) ≡ false → p x ≡ false → list_any p ((xs ++ x ∷ []) ++ ys) ≡ false
none_insert p o ys x none here = grind (arith, common_steps)

pub differ_insert : {A : Type 0} (same : A → A → Bool) (xs ys : List A) (x : A) → ((a b : A) → same a b ≡ false → same b a ≡ false)
    → list_any (same x) (xs ++ ys) ≡ false → Differ same (xs ++ ys) → Differ same ((xs ++ x ∷ []) ++ ys)
differ_insert same [] ys x flips free differ = (free, differ)
differ_insert same (a ∷ xs) ys x flips free differ = grind (arith, common_steps, differ_insert same xs ys x flips)

pub permutes_insert : {A : Type 0} (xs ys : List A) (x : A) → IsPermutation ((xs ++ x ∷ []) ++ ys) ((xs ++ ys) ++ x ∷ [])
permutes_insert xs ys x =
    subst (λ (zs : List _). IsPermutation zs ((xs ++ ys) ++ x ∷ [])) (sym (append_assoc xs (x ∷ []) ys))
    (IsPermutation-trans (xs ++ x ∷ ys) (x ∷ (xs ++ ys)) ((xs ++ ys) ++ x ∷ []) (IsPermutation-middle xs x ys)
    (IsPermutation-sym ((xs ++ ys) ++ x ∷ []) (x ∷ (xs ++ ys)) (IsPermutation-to_front (xs ++ ys) x)))

-- ---- an element at the end

pub none_push : {A : Type 0} (p : A → Bool) (xs : List A) (x : A) → list_any p xs ≡ false → p x ≡ false → list_any p (xs ++ x ∷ []) ≡ false
none_push p xs x none here = list_any-append p xs (x ∷ []) ∙ or_from (list_any p xs) (list_any p (x ∷ [])) none (or_from (p x) false here refl)

pub differ_push : {A : Type 0} (same : A → A → Bool) (xs : List A) (x : A) → ((a b : A) → same a b ≡ false → same b a ≡ false)
    → list_any (same x) xs ≡ false → Differ same xs → Differ same (xs ++ x ∷ [])
differ_push same [] x flips free differ = (refl, tt)
differ_push same (a ∷ xs) x flips free differ = grind (arith, common_steps, differ_push same xs x flips)

-- ---- filters

-- tests that agree on each of a list keep the same
pub filter_same : {A : Type 0} (p q : A → Bool) (xs : List A) → All (λ x. p x ≡ q x) xs → filter p xs ≡ filter q xs
filter_same p q [] agree = refl
filter_same p q (x ∷ xs) agree =
    ap (λ (b : Bool). if b then x ∷ filter p xs else filter p xs) (All-head (λ y. p y ≡ q y) x xs agree)
    ∙ ap (λ (ys : List _). if q x then x ∷ ys else ys) (filter_same p q xs (All-tail (λ y. p y ≡ q y) x xs agree))
