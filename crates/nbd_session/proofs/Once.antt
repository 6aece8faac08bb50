-- A name once, at its first place, where names come one after another.
use Rattle.std.proofs.Common.{◌≡◌, ℕ, List, [], ◌∷◌, ◌++◌, Bool, true, false, refl, arith, ap, sym, ◌∙◌}
use Rattle.std.proofs.lemmas.Grind.{common_steps}
use Rattle.std.proofs.lemmas.List.Elements.{filter-append}
use Rattle.std.proofs.lemmas.Slice.Eq.{bytes_eq-Decides}
use Rattle.std.specs.Prelude.{filter, not, bytes_eq, ◌||◌, if◌then◌else◌}
use Rattle.std.specs.List.{list_any}
use Rattle.nbd_model.specs.Options.{once_each}

itself : (a : List ℕ) → bytes_eq a a ≡ true
itself a = (bytes_eq-Decides a a).1 refl

same : (a b : List ℕ) → bytes_eq a b ≡ true → a ≡ b
same a b is = (bytes_eq-Decides a b).0 is

decided : (p q : Bool) → (p ≡ true → q ≡ true) → (q ≡ true → p ≡ true) → p ≡ q
decided p q one other = grind (arith, common_steps)

back : (a b : List ℕ) → bytes_eq a b ≡ bytes_eq b a
back a b = decided _ _ (λ is. (bytes_eq-Decides b a).1 (sym (same a b is))) (λ is. (bytes_eq-Decides a b).1 (sym (same b a is)))

-- who tells another name from this one finds it among those that differ from this one too
any_kept : (x y : List ℕ) (zs : List (List ℕ)) → bytes_eq x y ≡ false → list_any (bytes_eq y) (filter (λ o. not (bytes_eq x o)) zs) ≡ list_any (bytes_eq y) zs
any_kept x y [] apart = refl
any_kept x y (z ∷ zs) apart = grind (arith, common_steps, same, back, any_kept x y zs apart)

abbrev unless : Bool → List ℕ → List (List ℕ)
unless there y = if there then [] else y ∷ []

kept_unless : (x y : List ℕ) (zs : List (List ℕ)) → filter (λ o. not (bytes_eq x o)) (unless (list_any (bytes_eq y) zs) y)
    ≡ unless (bytes_eq y x || list_any (bytes_eq y) (filter (λ o. not (bytes_eq x o)) zs)) y
kept_unless x y zs = grind (arith, common_steps, back, any_kept)

pub once_more : (xs : List (List ℕ)) (y : List ℕ) → once_each (xs ++ y ∷ []) ≡ once_each xs ++ unless (list_any (bytes_eq y) (once_each xs)) y
once_more [] y = refl
once_more (x ∷ xs) y =
    ap (λ zs. x ∷ filter (λ o. not (bytes_eq x o)) zs) (once_more xs y)
    ∙ ap (λ zs. x ∷ zs) (filter-append (λ o. not (bytes_eq x o)) (once_each xs) (unless (list_any (bytes_eq y) (once_each xs)) y) ∙ ap (λ zs. filter (λ o. not (bytes_eq x o)) (once_each xs) ++ zs) (kept_unless x y (once_each xs)))

pub stays : (names before : List (List ℕ)) (y : List ℕ) → list_any (bytes_eq y) names ≡ true → names ≡ once_each before → names ≡ once_each (before ++ y ∷ [])
stays names before y there are = grind (arith, common_steps, once_more before y)

pub adds : (names new before : List (List ℕ)) (y : List ℕ) → list_any (bytes_eq y) names ≡ false → new ≡ names ++ y ∷ [] → names ≡ once_each before → new ≡ once_each (before ++ y ∷ [])
adds names new before y none is are = grind (arith, common_steps, once_more before y)
