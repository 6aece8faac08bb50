-- A true span stays true when the timeline goes on by a write or by a point, and of a larger set.
use Rattle.std.proofs.Common.{◌≡◌, ℕ, true, ◌∙◌, [], ◌∷◌, ◌++◌, rules, arith}
use Rattle.std.specs.Prelude.{IsTrue}
use Rattle.span_algebra.specs.declared.points.Point.{Point}
use Rattle.span_algebra.specs.declared.points.End.TheVariants.{Now, At}
use Rattle.span_algebra.specs.declared.spans.Span.{Span}
use Rattle.span_algebra.specs.declared.spans.Span.TheVariants.{Unknown, Known}
use Rattle.span_algebra.specs.Timelines.{Extent, Entry, Timeline, with_write, with_point, stands, touched}
use Rattle.span_algebra.specs.Spans.{AllBytes, SpanIsTrue, ends_now}
use Rattle.span_algebra.proofs.Touched.{has_point-more, writes-append, before_point-append, after_point-append, touched-point}
use Rattle.std.proofs.lemmas.Grind.{common_steps}

-- each byte that lies in the set lies in a larger one
pub wider : (set more : ℕ → Type 0) → ((x : ℕ) → set x → more x) → (e : Extent) → AllBytes set e → AllBytes more e
wider set more f e h = search rules

-- a span stays true of a larger set
pub larger : (h : Timeline) (span : Span) (set more : ℕ → Type 0) → ((x : ℕ) → set x → more x) → SpanIsTrue h span set → SpanIsTrue h span more
larger h Unknown set more f t = tt
larger h (Known a to) set more f t = search rules

closed-more : (h : Timeline) (a b : Point) (m : Entry) → stands b h ≡ true
    → touched (record { start = h.start; entries = h.entries ++ m ∷ [] }) a (At b) ≡ touched h a (At b)
closed-more h a b m there = grind (arith, common_steps, before_point-append)

open-write : (h : Timeline) (a : Point) (e : Extent) → stands a h ≡ true → touched (with_write h e) a Now ≡ touched h a Now ++ e ∷ []
open-write h a e here = grind (arith, common_steps, after_point-append, writes-append)

pub write_keeps : (h : Timeline) (e : Extent) (span : Span) (set : ℕ → Type 0) → (IsTrue (ends_now span) → AllBytes set e)
    → SpanIsTrue h span set → SpanIsTrue (with_write h e) span set
write_keeps h e Unknown set put t = tt
write_keeps h e (Known a Now) set put t = grind (arith, common_steps, has_point-more, open-write)
write_keeps h e (Known a (At b)) set put t = grind (arith, common_steps, has_point-more, closed-more)

pub point_keeps : (h : Timeline) (q : Point) (span : Span) (set : ℕ → Type 0) → SpanIsTrue h span set → SpanIsTrue (with_point h q) span set
point_keeps h q Unknown set t = tt
point_keeps h q (Known a Now) set t = grind (arith, common_steps, has_point-more, touched-point)
point_keeps h q (Known a (At b)) set t = grind (arith, common_steps, has_point-more, closed-more)
