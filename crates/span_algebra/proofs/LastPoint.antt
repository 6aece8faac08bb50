-- A change at the last point, after which no write stands: clearing, disabling, enabling, abdication.
use Rattle.std.proofs.Common.{◌≡◌, ℕ, Bool, true, false, inl, inr, refl, sym, ap, subst, ◌∙◌, List, [], ◌∷◌, ◌++◌, rules, arith}
use Rattle.std.specs.Prelude.{All, IsTrue}
use Rattle.std.proofs.lemmas.List.Elements.{All-head, All-tail}
use Rattle.std.proofs.lemmas.Bool.{or_cases, not_from_false, both_ways, cond-false, cond_both}
use Rattle.span_algebra.specs.declared.points.Point.{Point}
use Rattle.span_algebra.specs.declared.points.End.TheVariants.{Now, At}
use Rattle.span_algebra.specs.declared.spans.Span.{Span}
use Rattle.span_algebra.specs.declared.spans.Span.TheVariants.{Unknown, Known}
use Rattle.span_algebra.specs.declared.spans.Base.{Base}
use Rattle.span_algebra.specs.declared.spans.Base.TheVariants.{Whole, Since, Loose}
use Rattle.span_algebra.specs.Points.{same_point, precedes}
use Rattle.span_algebra.specs.Timelines.{Entry, Wrote, Reached, Timeline, with_point, has_point, stands, is_after, Rise, IsRising, after_point, before_point, touched}
use Rattle.span_algebra.specs.Spans.{AllBytes, AllTouched, SpanHolds, SpanIsTrue, after_clear, after_disable, after_enable, base_of}
use Rattle.span_algebra.proofs.PointOrder.{precedes-itself, same_point-true, precedes-back, precedes-other}
use Rattle.span_algebra.proofs.Touched.{none_between, touched-point}
use Rattle.std.proofs.lemmas.Grind.{common_steps}

-- the entry isn't a point, or one before p
abbrev pub is_before : Point → Entry → Bool
is_before p (Wrote e) = true
is_before p (Reached q) = precedes q p

abbrev pub ArePast : Point → List Entry → Type 0
ArePast p xs = All (λ m. IsTrue (is_before p m)) xs

last_after : (l p : Point) (xs : List Entry) → All (λ m. IsTrue (is_after l m)) (xs ++ Reached p ∷ []) → precedes l p ≡ true
last_after l p [] after = All-head (λ m. IsTrue (is_after l m)) (Reached p) [] after
last_after l p (m ∷ xs) after = last_after l p xs (All-tail (λ m. IsTrue (is_after l m)) m (xs ++ Reached p ∷ []) after)

-- where points rise, all others stand before the last one
pub past : (p : Point) (xs : List Entry) → Rise (xs ++ Reached p ∷ []) → ArePast p xs
past p [] rising = search rules
past p (Wrote e ∷ xs) rising = grind (arith, common_steps, past p xs)
past p (Reached q ∷ xs) rising = grind (arith, common_steps, last_after q p xs rising.0, past p xs rising.1)

pub last_stands : (p : Point) (xs : List Entry) → has_point p (xs ++ Reached p ∷ []) ≡ true
last_stands p [] = search rules
last_stands p (m ∷ xs) = grind (arith, common_steps)

-- a point that stands isn't after the last one
pub none_later : (q p : Point) (xs : List Entry) → ArePast p xs → has_point q (xs ++ Reached p ∷ []) ≡ true → precedes p q ≡ false
none_later q p [] early h = search rules
none_later q p (Wrote e ∷ xs) early h =
    elim (or_cases false (has_point q (xs ++ Reached p ∷ [])) h) [
      | inl wrong ↦ absurd (both_ways false refl wrong)
      | inr there ↦ none_later q p xs (All-tail (λ m. IsTrue (is_before p m)) (Wrote e) xs early) there
    ]
none_later q p (Reached r ∷ xs) early h =
    elim (or_cases (same_point q r) (has_point q (xs ++ Reached p ∷ [])) h) [
      | inl same ↦ subst (λ (x : Point). precedes p x ≡ false) (sym (same_point-true q r same))
          (precedes-back p r (All-head (λ m. IsTrue (is_before p m)) (Reached r) xs early))
      | inr there ↦ none_later q p xs (All-tail (λ m. IsTrue (is_before p m)) (Reached r) xs early) there
    ]

-- nothing stands after the last point
none_after : (p : Point) (xs : List Entry) → ArePast p xs → after_point p (xs ++ Reached p ∷ []) ≡ []
none_after p [] early = search rules
none_after p (Wrote e ∷ xs) early = none_after p xs (All-tail (λ m. IsTrue (is_before p m)) (Wrote e) xs early)
none_after p (Reached q ∷ xs) early = grind (arith, common_steps, cond-false (same_point p q) (xs ++ Reached p ∷ []) (after_point p (xs ++ Reached p ∷ [])) (precedes-other p q (All-head (λ m. IsTrue (is_before p m)) (Reached q) xs early)), precedes-other p q (All-head (λ m. IsTrue (is_before p m)) (Reached q) xs early), none_after p xs (All-tail (λ m. IsTrue (is_before p m)) (Reached q) xs early))

-- what stands before the last point is all but it
all_before : (p : Point) (xs : List Entry) → ArePast p xs → before_point p (xs ++ Reached p ∷ []) ≡ xs
all_before p [] early = search rules
all_before p (Wrote e ∷ xs) early = grind (arith, common_steps, all_before p xs (All-tail (λ m. IsTrue (is_before p m)) (Wrote e) xs early))
all_before p (Reached q ∷ xs) early = grind (arith, common_steps, precedes-other p q (All-head (λ m. IsTrue (is_before p m)) (Reached q) xs early), all_before p xs (All-tail (λ m. IsTrue (is_before p m)) (Reached q) xs early))

-- what was touched up to now was touched up to the last point
now_is_last : (h : Timeline) (p a : Point) → IsRising (with_point h p) → touched (with_point h p) a Now ≡ touched (with_point h p) a (At p)
now_is_last h p a rising = grind (arith, common_steps, touched-point, all_before, past)

-- a span from the last point on is true of any set
pub holds_from : (h : Timeline) (p : Point) (set : ℕ → Type 0) → IsRising (with_point h p) → SpanHolds (with_point h p) p Now set
holds_from h p set rising = grind (arith, common_steps, last_stands, none_after, past)

-- so is one that ends where it begins, at any moment
pub holds_at : (h : Timeline) (p : Point) (set : ℕ → Type 0) → stands p h ≡ true → SpanHolds h p (At p) set
holds_at h p set there = grind (arith, common_steps, not_from_false, precedes-itself, none_between)

pub clear_makes : (h : Timeline) (p : Point) (recording : Bool) (set : ℕ → Type 0) → IsRising (with_point h p) → SpanIsTrue (with_point h p) (after_clear recording p) set
clear_makes h p true set rising = holds_from h p set rising
clear_makes h p false set rising = holds_at (with_point h p) p set (last_stands p h.entries)

-- a span up to now is true up to the last point, and the other way round
pub cut_keeps : (h : Timeline) (p a : Point) (set : ℕ → Type 0) → IsRising (with_point h p) → SpanHolds (with_point h p) a Now set → SpanHolds (with_point h p) a (At p) set
cut_keeps h p a set rising t = record {
  start = t.start;
  stop = last_stands p h.entries;
  order = not_from_false (precedes p a) (none_later a p h.entries (past p h.entries rising) t.start);
  covered = subst (All (AllBytes set)) (now_is_last h p a rising) t.covered;
}

opened_keeps : (h : Timeline) (p a : Point) (set : ℕ → Type 0) → IsRising (with_point h p) → SpanHolds (with_point h p) a (At p) set → SpanHolds (with_point h p) a Now set
opened_keeps h p a set rising t = grind (arith, common_steps, now_is_last)

pub disable_keeps : (h : Timeline) (p : Point) (span : Span) (set : ℕ → Type 0) → IsRising (with_point h p)
    → SpanIsTrue (with_point h p) span set → SpanIsTrue (with_point h p) (after_disable span p) set
disable_keeps h p Unknown set rising t = tt
disable_keeps h p (Known a Now) set rising t = cut_keeps h p a set rising t
disable_keeps h p (Known a (At b)) set rising t = t

pub enable_keeps : (h : Timeline) (p : Point) (span : Span) (set : ℕ → Type 0) → IsRising (with_point h p)
    → SpanIsTrue (with_point h p) span set → SpanIsTrue (with_point h p) (after_enable span p) set
enable_keeps h p Unknown set rising t = holds_from h p set rising
enable_keeps h p (Known a Now) set rising t = holds_from h p set rising
enable_keeps h p (Known a (At b)) set rising t =
    cond_both (same_point b p) a p (λ x. SpanHolds (with_point h p) x Now set)
    (λ same. opened_keeps h p a set rising (subst (λ (x : Point). SpanHolds (with_point h p) a (At x) set) (same_point-true b p same) t))
    (λ other. holds_from h p set rising)

pub abdication_makes : (h : Timeline) (p : Point) (recording : Bool) (set : ℕ → Type 0) → stands p h ≡ true
    → (IsTrue recording → AllTouched set h p Now) → SpanIsTrue h (after_clear recording p) set
abdication_makes h p true set there all = search rules
abdication_makes h p false set there all = holds_at h p set there

abbrev start_of : Point → Base → Point
start_of other Whole = other
start_of other (Since a) = a
start_of other Loose = other

pub base_holds : (h : Timeline) (p a : Point) (span : Span) (set : ℕ → Type 0) → IsRising (with_point h p) → SpanIsTrue (with_point h p) span set
    → base_of span p ≡ Since a → SpanHolds (with_point h p) a (At p) set
base_holds h p a Unknown set rising t builds = search rules
base_holds h p a (Known x Now) set rising t builds =
    subst (λ (y : Point). SpanHolds (with_point h p) y (At p) set) (ap (start_of a) builds) (cut_keeps h p x set rising t)
base_holds h p a (Known x (At b)) set rising t builds = search rules
