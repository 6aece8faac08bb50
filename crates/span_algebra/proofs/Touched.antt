-- What stands, and what was touched, in a timeline that goes on.
use Rattle.std.proofs.Common.{◌≡◌, true, false, refl, ◌∙◌, List, [], ◌∷◌, ◌++◌, rules, arith}
use Rattle.std.proofs.lemmas.Bool.{cases_Bool, cond-true, cond-false}
use Rattle.span_algebra.specs.declared.points.Point.{Point}
use Rattle.span_algebra.specs.Points.{same_point}
use Rattle.span_algebra.specs.Timelines.{Extent, Entry, Wrote, Reached, has_point, after_point, before_point, writes}
use Rattle.std.proofs.lemmas.Grind.{common_steps}

pub has_point-more : (p : Point) (xs ys : List Entry) → has_point p xs ≡ true → has_point p (xs ++ ys) ≡ true
has_point-more p [] ys h = search rules
has_point-more p (x ∷ xs) ys h = grind (arith, common_steps)

-- a write is no point
pub past_write : (p : Point) (e : Extent) (xs : List Entry) → has_point p (Wrote e ∷ xs) ≡ true → has_point p xs ≡ true
past_write p e xs h = search rules

pub past_other : (p q : Point) (xs : List Entry) → same_point p q ≡ false → has_point p (Reached q ∷ xs) ≡ true → has_point p xs ≡ true
past_other p q xs other h = search rules

pub writes-append : (xs ys : List Entry) → writes (xs ++ ys) ≡ writes xs ++ writes ys
writes-append [] ys = refl
writes-append (Wrote e ∷ xs) ys = grind (arith, common_steps, writes-append xs ys)
writes-append (Reached p ∷ xs) ys = writes-append xs ys

pub before_point-append : (p : Point) (xs ys : List Entry) → has_point p xs ≡ true → before_point p (xs ++ ys) ≡ before_point p xs
before_point-append p [] ys h = search rules
before_point-append p (Wrote e ∷ xs) ys h = grind (arith, common_steps, past_write, before_point-append p xs ys)
before_point-append p (Reached q ∷ xs) ys h = grind (arith, common_steps, cases_Bool, cond-true, cond-false, past_other, before_point-append p xs ys)

pub after_point-append : (p : Point) (xs ys : List Entry) → has_point p xs ≡ true → after_point p (xs ++ ys) ≡ after_point p xs ++ ys
after_point-append p [] ys h = search rules
after_point-append p (Wrote e ∷ xs) ys h = after_point-append p xs ys (past_write p e xs h)
after_point-append p (Reached q ∷ xs) ys h = grind (arith, common_steps, cases_Bool, cond-true, cond-false, past_other, after_point-append p xs ys)

-- nothing stands after a point and before it
pub none_between : (p : Point) (xs : List Entry) → after_point p (before_point p xs) ≡ []
none_between p [] = refl
none_between p (Wrote e ∷ xs) = none_between p xs
none_between p (Reached q ∷ xs) = grind (arith, common_steps, cases_Bool, cond-true, cond-false, none_between p xs)

-- a further point touches nothing
pub touched-point : (a p : Point) (xs : List Entry) → writes (after_point a (xs ++ Reached p ∷ [])) ≡ writes (after_point a xs)
touched-point a p [] = search rules
touched-point a p (Wrote e ∷ xs) = touched-point a p xs
touched-point a p (Reached q ∷ xs) = grind (arith, common_steps, cases_Bool, cond-true, writes-append, cond-false, touched-point a p xs)
