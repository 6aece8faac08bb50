-- The laws, as statements. Sets of bytes are given by tests.
use Rattle.std.specs.Prelude.{◌≡◌, ℕ, ◌<◌, Bool, IsTrue}
use Rattle.std.specs.Ordering.{MatchOrdering}
use Rattle.span_algebra.specs.declared.points.Point.{Point}
use Rattle.span_algebra.specs.declared.points.End.TheVariants.{Now, At}
use Rattle.span_algebra.specs.declared.spans.Span.{Span}
use Rattle.span_algebra.specs.declared.spans.Base.TheVariants.{Since}
use Rattle.span_algebra.specs.Points.{point_cmp, precedes}
use Rattle.span_algebra.specs.Timelines.{Extent, Timeline, with_write, with_point, IsRising, stands}
use Rattle.span_algebra.specs.Spans.{that_pass, in_either, granule, Overlap, in_granules, AllBytes, AllTouched, SpanHolds, SpanIsTrue, ends_now, after_clear, after_disable, after_enable, after_merge, base_of}

-- of two points one precedes the other, or they are one
abbrev pub OrderIsTotal : Type 0
OrderIsTotal = (p q : Point) → MatchOrdering (point_cmp p q) (IsTrue (precedes p q)) (p ≡ q) (IsTrue (precedes q p))

-- of two points one alone precedes the other, and none precedes itself
abbrev pub OrderIsStrict : Type 0
OrderIsStrict = (p q : Point) → IsTrue (precedes p q) → IsTrue (precedes q p) → ⊥

abbrev pub OrderIsTransitive : Type 0
OrderIsTransitive = (p q r : Point) → IsTrue (precedes p q) → IsTrue (precedes q r) → IsTrue (precedes p r)

-- adding or clearing at the last point makes a span that is true of the empty set
abbrev pub ClearingMakesTrue : Type 0
ClearingMakesTrue = (h : Timeline) (p : Point) (recording : Bool) → IsRising (with_point h p)
    → SpanIsTrue (with_point h p) (after_clear recording p) (λ _. ⊥)

-- disabling at the last point keeps a span true
abbrev pub DisablingKeepsTrue : Type 0
DisablingKeepsTrue = (h : Timeline) (p : Point) (span : Span) (set : ℕ → Bool) → IsRising (with_point h p)
    → SpanIsTrue (with_point h p) span (that_pass set) → SpanIsTrue (with_point h p) (after_disable span p) (that_pass set)

-- so does enabling
abbrev pub EnablingKeepsTrue : Type 0
EnablingKeepsTrue = (h : Timeline) (p : Point) (span : Span) (set : ℕ → Bool) → IsRising (with_point h p)
    → SpanIsTrue (with_point h p) span (that_pass set) → SpanIsTrue (with_point h p) (after_enable span p) (that_pass set)

-- the one set has each byte of the two others
abbrev pub HasBoth : (ℕ → Bool) → (ℕ → Bool) → (ℕ → Bool) → Type 0
HasBoth both one other = (x : ℕ) → in_either (that_pass one) (that_pass other) x → that_pass both x

-- merging at the last point makes a span that is true of any set that has both of the two spans' sets
abbrev pub MergingKeepsTrue : Type 0
MergingKeepsTrue = (h : Timeline) (p : Point) (target source : Span) (one other both : ℕ → Bool) → IsRising (with_point h p)
    → HasBoth both one other → SpanIsTrue (with_point h p) target (that_pass one) → SpanIsTrue (with_point h p) source (that_pass other)
    → SpanIsTrue (with_point h p) (after_merge target source p) (that_pass both)

-- at any moment a bitmap's span stays true where its successor's set is joined to its own
abbrev pub ReclaimKeepsTrue : Type 0
ReclaimKeepsTrue = (h : Timeline) (span : Span) (own successor joined : ℕ → Bool) → HasBoth joined own successor
    → SpanIsTrue h span (in_either (that_pass own) (that_pass successor)) → SpanIsTrue h span (that_pass joined)

-- At any moment after a job's point p the successor's set may take the place of a bitmap's own, with a span from p, where it
-- alone has each byte that was written since. Of a bitmap that isn't recording nothing is asked.
abbrev pub AbdicationMakesTrue : Type 0
AbdicationMakesTrue = (h : Timeline) (p : Point) (recording : Bool) (successor : ℕ → Bool) → IsTrue (stands p h)
    → (IsTrue recording → AllTouched (that_pass successor) h p Now) → SpanIsTrue h (after_clear recording p) (that_pass successor)

-- a span stays true at a write for which the set grows; where the span ends at now, by the write's bytes at least
abbrev pub WriteKeepsTrue : Type 0
WriteKeepsTrue = (h : Timeline) (e : Extent) (span : Span) (old new : ℕ → Bool) → ((x : ℕ) → that_pass old x → that_pass new x)
    → (IsTrue (ends_now span) → AllBytes (that_pass new) e) → SpanIsTrue h span (that_pass old) → SpanIsTrue (with_write h e) span (that_pass new)

-- a span stays true at a further point
abbrev pub PointKeepsTrue : Type 0
PointKeepsTrue = (h : Timeline) (q : Point) (span : Span) (set : ℕ → Bool)
    → SpanIsTrue h span (that_pass set) → SpanIsTrue (with_point h q) span (that_pass set)

-- where a backup at the last point p builds on a, the set of a true span has each byte that was written from a to p
abbrev pub BaseIsTrue : Type 0
BaseIsTrue = (h : Timeline) (p a : Point) (span : Span) (set : ℕ → Bool) → IsRising (with_point h p)
    → SpanIsTrue (with_point h p) span (that_pass set) → base_of span p ≡ Since a → SpanHolds (with_point h p) a (At p) (that_pass set)

-- a set of granules has each byte of a range where it has each granule that meets the range
abbrev pub GranulesCoverRange : Type 0
GranulesCoverRange = (size : ℕ) (e : Extent) (granules : ℕ → Bool) → 0 < size
    → ((k : ℕ) → Overlap e (granule size k) → that_pass granules k) → AllBytes (in_granules size (that_pass granules)) e
