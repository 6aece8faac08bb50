use Rattle.std.proofs.Common.{◌≡◌, ℕ, ◌+◌, ◌<◌, List, [], ◌∷◌, ◌++◌, length, take, get_or, map, refl, sym, ap, subst, ◌∙◌, arith, rules}
use Rattle.std.specs.Prelude.{Contains}
use Rattle.std.proofs.lemmas.Bool.{false≢true}
use Rattle.std.proofs.lemmas.List.{length-map, map-append, append-nil, take_more, get_or-map}
use Rattle.core_events.specs.Events as events
use Rattle.core_events.specs.Views.{plain_event}
use Rattle.core_loop.specs.Course.{given_unsaid}
use Rattle.core_loop.proofs.listed.ListedSource.next.Goals as goal

-- one more of them is taken
one_more : {A : Type 0} (f : A → events.Event) (xs : List A) (i : ℕ) (x : A) → i < length xs → x ≡ get_or xs i x → take (i + 1) (map f xs) ≡ take i (map f xs) ++ f x ∷ []
one_more f xs i x below is =
    let long : i < length (map f xs) = subst (λ (n : ℕ). i < n) (sym (length-map xs f)) below in
    take_more (map f xs) i (f x) long ∙ ap (λ (e : events.Event). take i (map f xs) ++ e ∷ []) (get_or-map f xs i x (f x) below ∙ ap f (sym is))

-- it is among them
is_among : {A : Type 0} (f : A → events.Event) (xs : List A) (i : ℕ) (x : A) → i < length xs → x ≡ get_or xs i x → Contains (map f xs) (f x)
is_among f xs i x below is = (i, subst (λ (n : ℕ). i < n) (sym (length-map xs f)) below, get_or-map f xs i x (f x) below ∙ ap f (sym is))

pub returns-in-Some-clause-gave : goal.returns-in-Some-clause-gave
returns-in-Some-clause-gave g c =
    let all = c.args.self.now.all.now in
    let n = c.args.self.now.given in
    let x = c.in-Some.event.now in
    let below : n < length all = search rules in
    let is : x ≡ get_or all n x = search rules in
    let given = given_unsaid g.T.Teller.text in
    record {
      one = λ there. record {
        given = given (plain_event x);
        more_is = ap (map given) (one_more plain_event all n x below is) ∙ map-append given (take n (map plain_event all)) (plain_event x ∷ []);
        held_is = refl;
        may = is_among plain_event all n x below is;
        fewer = omega (arith, below);
        said = record { printed = λ prints. sym (append-nil _) };
      };
      none = λ none. absurd (false≢true (sym none));
    }
