-- Each write has a date, the last point before it. Where points rise, what was touched between two points is what is
-- dated from the one on and before the other.
use Rattle.std.proofs.Common.{◌≡◌, Bool, true, false, not, ◌&&◌, inl, inr, refl, sym, ap, subst, ◌∙◌, List, [], ◌∷◌, rules, arith}
use Rattle.std.specs.Prelude.{Option, Some, None, All, IsTrue, if◌then◌else◌}
use Rattle.std.proofs.lemmas.List.Elements.{All-head, All-tail, All-cons, All-nil}
use Rattle.std.proofs.lemmas.Bool.{and_from, and_right, or_cases, not_from_false, both_ways, cases_Bool, cond-true, cond-false}
use Rattle.span_algebra.specs.declared.points.Point.{Point}
use Rattle.span_algebra.specs.declared.points.End.{End}
use Rattle.span_algebra.specs.declared.points.End.TheVariants.{Now, At}
use Rattle.span_algebra.specs.Points.{same_point, precedes, not_after, reaches}
use Rattle.span_algebra.specs.Timelines.{Extent, Entry, Wrote, Reached, has_point, is_after, Rise, after_point, before_end, writes}
use Rattle.span_algebra.proofs.PointOrder.{precedes-itself, same_point-true, later-on}
use Rattle.span_algebra.proofs.Touched.{past_write, past_other}
use Rattle.std.proofs.lemmas.Grind.{common_steps}

-- a write, with the last point before it, if there is one
pub record Dated : Type 0 where
  pub date : Option Point
  pub extent : Extent

abbrev pub dated_from : Option Point → List Entry → List Dated
dated_from last [] = []
dated_from last (Wrote e ∷ xs) = record { date = last; extent = e } ∷ dated_from last xs
dated_from last (Reached p ∷ xs) = dated_from (Some p) xs

-- the point stands before the end; each does before `now`
abbrev pub precedes_end : Point → End → Bool
precedes_end p Now = true
precedes_end p (At q) = precedes p q

-- a write of this date stands after the point and before the end
abbrev pub is_within : Point → End → Option Point → Bool
is_within from to None = false
is_within from to (Some date) = not_after from date && precedes_end date to

-- the writes that stand after the point and before the end
abbrev pub within : Point → End → List Dated → List Extent
within from to [] = []
within from to (w ∷ ws) = if is_within from to w.date then w.extent ∷ within from to ws else within from to ws

-- an end `now` stands, and is after each point
abbrev pub end_in : End → List Entry → Bool
end_in Now xs = true
end_in (At q) xs = has_point q xs

pub after-stands : (l q : Point) (xs : List Entry) → All (λ m. IsTrue (is_after l m)) xs → has_point q xs ≡ true → precedes l q ≡ true
after-stands l q [] after there = search rules
after-stands l q (Wrote e ∷ xs) after there = after-stands l q xs (All-tail (λ m. IsTrue (is_after l m)) (Wrote e) xs after) (past_write q e xs there)
after-stands l q (Reached r ∷ xs) after there =
    elim (or_cases (same_point q r) (has_point q xs) there) [
      | inl same ↦ subst (λ (x : Point). precedes l x ≡ true) (sym (same_point-true q r same)) (All-head (λ m. IsTrue (is_after l m)) (Reached r) xs after)
      | inr more ↦ after-stands l q xs (All-tail (λ m. IsTrue (is_after l m)) (Reached r) xs after) more
    ]

after_end : (l : Point) (to : End) (xs : List Entry) → All (λ m. IsTrue (is_after l m)) xs → end_in to xs ≡ true → precedes_end l to ≡ true
after_end l Now xs after there = refl
after_end l (At q) xs after there = after-stands l q xs after there

-- from q on nothing is dated before q
none_before : (p q l : Point) (xs : List Entry) → precedes l q ≡ false → Rise xs → All (λ m. IsTrue (is_after l m)) xs → within p (At q) (dated_from (Some l) xs) ≡ []
none_before p q l [] from rising after = refl
none_before p q l (Wrote e ∷ xs) from rising after =
    let rest : List Extent = within p (At q) (dated_from (Some l) xs) in
    cond-false (not (precedes l p) && precedes l q) (e ∷ rest) rest (and_right (not (precedes l p)) (precedes l q) from)
    ∙ none_before p q l xs from rising (All-tail (λ m. IsTrue (is_after l m)) (Wrote e) xs after)
none_before p q l (Reached r ∷ xs) from rising after = grind (arith, common_steps, later-on l q r from (All-head (λ m. IsTrue (is_after l m)) (Reached r) xs after), none_before p q r xs (later-on l q r from (All-head (λ m. IsTrue (is_after l m)) (Reached r) xs after)) rising.1 rising.0)

end_past_write : (to : End) (e : Extent) (xs : List Entry) → end_in to (Wrote e ∷ xs) ≡ true → end_in to xs ≡ true
end_past_write Now e xs there = refl
end_past_write (At q) e xs there = search rules

before_write : (to : End) (e : Extent) (xs : List Entry) → before_end to (Wrote e ∷ xs) ≡ Wrote e ∷ before_end to xs
before_write Now e xs = refl
before_write (At q) e xs = refl

-- the end is this point
abbrev ends_at : End → Point → Bool
ends_at Now r = false
ends_at (At q) r = same_point q r

end_past_other : (to : End) (r : Point) (xs : List Entry) → ends_at to r ≡ false → end_in to (Reached r ∷ xs) ≡ true → end_in to xs ≡ true
end_past_other Now r xs other there = refl
end_past_other (At q) r xs other there = search rules

before_other : (to : End) (r : Point) (xs : List Entry) → ends_at to r ≡ false → before_end to (Reached r ∷ xs) ≡ Reached r ∷ before_end to xs
before_other Now r xs other = refl
before_other (At q) r xs other = search rules

before_same : (to : End) (r : Point) (xs : List Entry) → ends_at to r ≡ true → before_end to (Reached r ∷ xs) ≡ []
before_same Now r xs same = search rules
before_same (At q) r xs same = search rules

none_at : (p : Point) (to : End) (r : Point) (xs : List Entry) → ends_at to r ≡ true → Rise xs → All (λ m. IsTrue (is_after r m)) xs
    → within p to (dated_from (Some r) xs) ≡ []
none_at p Now r xs same rising after = search rules
none_at p (At q) r xs same rising after = grind (arith, common_steps, none_before, same_point-true, precedes-itself)

-- once p has been reached, all is within until the end
up_to : (p l : Point) (to : End) (xs : List Entry) → precedes l p ≡ false → Rise xs → All (λ m. IsTrue (is_after l m)) xs → end_in to xs ≡ true
    → within p to (dated_from (Some l) xs) ≡ writes (before_end to xs)
up_to p l Now [] from rising after there = refl
up_to p l (At q) [] from rising after there = refl
up_to p l to (Wrote e ∷ xs) from rising after there =
    let rest : List Extent = within p to (dated_from (Some l) xs) in
    let more : end_in to xs ≡ true = end_past_write to e xs there in
    let later_ones : All (λ m. IsTrue (is_after l m)) xs = All-tail (λ m. IsTrue (is_after l m)) (Wrote e) xs after in
    cond-true (not (precedes l p) && precedes_end l to) (e ∷ rest) rest
    (and_from (not (precedes l p)) (precedes_end l to) (not_from_false (precedes l p) from) (after_end l to xs later_ones more))
    ∙ (ap (λ (es : List Extent). e ∷ es) (up_to p l to xs from rising later_ones more)
    ∙ sym (ap writes (before_write to e xs)))
up_to p l to (Reached r ∷ xs) from rising after there =
    elim (cases_Bool (ends_at to r)) [
      | inl same ↦ none_at p to r xs same rising.1 rising.0 ∙ sym (ap writes (before_same to r xs same))
      | inr other ↦ up_to p r to xs (later-on l p r from (All-head (λ m. IsTrue (is_after l m)) (Reached r) xs after)) rising.1 rising.0 (end_past_other to r xs other there)
          ∙ sym (ap writes (before_other to r xs other))
    ]

-- no date yet, or one before p
abbrev IsEarly : Point → Option Point → Type 0
IsEarly p None = Unit {0}
IsEarly p (Some l) = precedes l p ≡ true

not_within : (p : Point) (to : End) (date : Option Point) → IsEarly p date → is_within p to date ≡ false
not_within p to None early = refl
not_within p to (Some l) early = search rules

-- the end isn't a point before p
ends_past : (p r : Point) (to : End) → reaches to p ≡ true → precedes r p ≡ true → ends_at to r ≡ false
ends_past p r Now order before = refl
ends_past p r (At q) order before = search rules

from_point : (p : Point) (to : End) (last : Option Point) (xs : List Entry) → IsEarly p last → Rise xs → has_point p xs ≡ true → end_in to xs ≡ true → reaches to p ≡ true
    → within p to (dated_from last xs) ≡ writes (after_point p (before_end to xs))
from_point p to last [] early rising here there order = search rules
from_point p to last (Wrote e ∷ xs) early rising here there order = grind (arith, common_steps, cond-false, not_within, past_write, end_past_write, before_write, from_point p to last xs)
from_point p to last (Reached r ∷ xs) early rising here there order =
    elim (cases_Bool (ends_at to r)) [
      | inl end ↦
          elim (cases_Bool (same_point p r)) [
            | inl same ↦ none_at p to r xs end rising.1 rising.0 ∙ sym (ap (λ (ys : List Entry). writes (after_point p ys)) (before_same to r xs end))
            | inr other ↦ absurd (both_ways (ends_at to r) (ends_past p r to order (after-stands r p xs rising.0 (past_other p r xs other here))) end)
          ]
      | inr no_end ↦
          let rest : List Entry = before_end to xs in
          let is : writes (after_point p (before_end to (Reached r ∷ xs))) ≡ writes (after_point p (Reached r ∷ rest)) =
          ap (λ (ys : List Entry). writes (after_point p ys)) (before_other to r xs no_end) in
          elim (cases_Bool (same_point p r)) [
            | inl same ↦ up_to p r to xs (subst (λ (x : Point). precedes r x ≡ false) (sym (same_point-true p r same)) (precedes-itself r)) rising.1 rising.0 (end_past_other to r xs no_end there)
                ∙ sym (is ∙ ap writes (cond-true (same_point p r) rest (after_point p rest) same))
            | inr other ↦
                let more : has_point p xs ≡ true = past_other p r xs other here in
                from_point p to (Some r) xs (after-stands r p xs rising.0 more) rising.1 more (end_past_other to r xs no_end there) order
                ∙ sym (is ∙ ap writes (cond-false (same_point p r) rest (after_point p rest) other))
          ]
    ]

-- what was touched is what is dated within
pub touched_is_within : (p : Point) (to : End) (xs : List Entry) → Rise xs → has_point p xs ≡ true → end_in to xs ≡ true → reaches to p ≡ true
    → within p to (dated_from None xs) ≡ writes (after_point p (before_end to xs))
touched_is_within p to xs rising here there order = grind (arith, common_steps, from_point)

-- a fact about each write that stands within
abbrev pub AllWithin : (Extent → Type 0) → Point → End → List Dated → Type 0
AllWithin P p to ws = All (λ w. is_within p to w.date ≡ true → P w.extent) ws

pub to_within : (P : Extent → Type 0) (p : Point) (to : End) (ws : List Dated) → All P (within p to ws) → AllWithin P p to ws
to_within P p to [] all = search rules
to_within P p to (w ∷ ws) all =
    let rest : List Extent = within p to ws in
    elim (cases_Bool (is_within p to w.date)) [
      | inl is ↦
          let these : All P (w.extent ∷ rest) = subst (All P) (cond-true (is_within p to w.date) (w.extent ∷ rest) rest is) all in
          All-cons (λ w. is_within p to w.date ≡ true → P w.extent) w ws (λ _. All-head P w.extent rest these) (to_within P p to ws (All-tail P w.extent rest these))
      | inr no_one ↦ All-cons (λ w. is_within p to w.date ≡ true → P w.extent) w ws (λ is. absurd (both_ways (is_within p to w.date) no_one is))
          (to_within P p to ws (subst (All P) (cond-false (is_within p to w.date) (w.extent ∷ rest) rest no_one) all))
    ]

pub from_within : (P : Extent → Type 0) (p : Point) (to : End) (ws : List Dated) → AllWithin P p to ws → All P (within p to ws)
from_within P p to [] all = All-nil P
from_within P p to (w ∷ ws) all =
    let rest : List Extent = within p to ws in
    let more : All P rest = from_within P p to ws (All-tail (λ w. is_within p to w.date ≡ true → P w.extent) w ws all) in
    elim (cases_Bool (is_within p to w.date)) [
      | inl is ↦ subst (All P) (sym (cond-true (is_within p to w.date) (w.extent ∷ rest) rest is))
          (All-cons P w.extent rest (All-head (λ w. is_within p to w.date ≡ true → P w.extent) w ws all is) more)
      | inr no_one ↦ subst (All P) (sym (cond-false (is_within p to w.date) (w.extent ∷ rest) rest no_one)) more
    ]
