-- Lists in which no two elements are the same by a test.
use Rattle.std.proofs.Common.{rules}
use Rattle.std.proofs.Common.{arith}
use Rattle.std.proofs.lemmas.Grind.{common_steps}
use Rattle.std.proofs.Common.{◌≡◌, List, [], ◌∷◌, ◌++◌, map, filter, Bool, false, refl, ◌∙◌}
use Rattle.std.specs.List.{list_any}
use Rattle.std.proofs.lemmas.Bool.{cond_both}
use Rattle.plain_model.specs.Sound.{Differ}

pub none_in_filter : {X : Type 0} (t p : X → Bool) (xs : List X) → list_any t xs ≡ false → list_any t (filter p xs) ≡ false
none_in_filter t p [] none = refl
none_in_filter {X} t p (x ∷ xs) none = grind (arith, common_steps, none_in_filter t p xs)

pub filter_differs : {X : Type 0} (same : X → X → Bool) (p : X → Bool) (xs : List X) → Differ same xs → Differ same (filter p xs)
filter_differs same p [] apart = tt
filter_differs same p (x ∷ xs) apart = grind (arith, common_steps, filter_differs same p xs apart.1, cond_both, none_in_filter)

pub list_any-map : {X Y : Type 0} (t : Y → Bool) (u : X → Bool) (f : X → Y) → ((x : X) → t (f x) ≡ u x) → (xs : List X) → list_any t (map f xs) ≡ list_any u xs
list_any-map t u f so [] = refl
list_any-map t u f so (x ∷ xs) = search (rules, list_any-map t u f so xs)

-- a change that the test doesn't see
pub map_differs : {X : Type 0} (same : X → X → Bool) (f : X → X) → ((x y : X) → same (f x) (f y) ≡ same x y) → (xs : List X) → Differ same xs → Differ same (map f xs)
map_differs same f so [] apart = tt
map_differs same f so (x ∷ xs) apart = (list_any-map (same (f x)) (same x) f (so x) xs ∙ apart.0, map_differs same f so xs apart.1)

-- the first element goes to a later place
pub moved_differs : {X : Type 0} (same : X → X → Bool) → ((x y : X) → same x y ≡ same y x) → (x : X) (xs ys : List X) → Differ same (x ∷ (xs ++ ys))
    → Differ same (xs ++ x ∷ ys)
moved_differs same either x [] ys apart = apart
moved_differs same either x (y ∷ xs) ys apart = grind (arith, common_steps, moved_differs same either x xs ys)

pub moved_none : {X : Type 0} (t : X → Bool) (x : X) (xs ys : List X) → list_any t (x ∷ (xs ++ ys)) ≡ false → list_any t (xs ++ x ∷ ys) ≡ false
moved_none t x xs ys none = grind (arith, common_steps)
