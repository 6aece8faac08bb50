-- What a span claims, and how a change at a point p moves it.
use Rattle.std.specs.Prelude.{ℕ, ◌+◌, ◌*◌, ◌/◌, min, max, ◌<◌, ◌≤◌, ◌⊎◌, Bool, true, false, ◌&&◌, if◌then◌else◌, All, IsTrue}
use Rattle.span_algebra.specs.declared.points.Point.{Point}
use Rattle.span_algebra.specs.declared.points.End.{End}
use Rattle.span_algebra.specs.declared.points.End.TheVariants.{Now, At}
use Rattle.span_algebra.specs.declared.spans.Span.{Span}
use Rattle.span_algebra.specs.declared.spans.Span.TheVariants.{Unknown, Known}
use Rattle.span_algebra.specs.declared.spans.Base.{Base}
use Rattle.span_algebra.specs.declared.spans.Base.TheVariants.{Since, Loose}
use Rattle.span_algebra.specs.Points.{same_point, earlier, reaches, later_end, closed_by}
use Rattle.span_algebra.specs.Timelines.{Extent, Timeline, stands, end_stands, touched}

-- the bytes that pass a test
abbrev pub that_pass : (ℕ → Bool) → ℕ → Type 0
that_pass test x = IsTrue (test x)

-- granule k, of this size, as a range of bytes
abbrev pub granule : ℕ → ℕ → Extent
granule size k = record { at = k * size; size = size }

-- two ranges have a byte in common
abbrev pub Overlap : Extent → Extent → Type 0
Overlap e f = max e.at f.at < min (e.at + e.size) (f.at + f.size)

-- the bytes of a set of granules, each of this size
abbrev pub in_granules : ℕ → (ℕ → Type 0) → ℕ → Type 0
in_granules size granules x = granules (x / size)

-- the bytes in one of two sets
abbrev pub in_either : (ℕ → Type 0) → (ℕ → Type 0) → ℕ → Type 0
in_either one other x = one x ⊎ other x

-- each byte of the range lies in the set
abbrev pub AllBytes : (ℕ → Type 0) → Extent → Type 0
AllBytes set e = (x : ℕ) → e.at ≤ x → x < e.at + e.size → set x

-- each byte that was written after a point and before an end lies in the set
abbrev pub AllTouched : (ℕ → Type 0) → Timeline → Point → End → Type 0
AllTouched set h from to = All (AllBytes set) (touched h from to)

-- the ends stand in the timeline, in order, and what was written between them lies in the set
pub record SpanHolds (h : Timeline) (from : Point) (to : End) (set : ℕ → Type 0) : Type 0 where
  pub start : IsTrue (stands from h)
  pub stop : IsTrue (end_stands to h)
  pub order : IsTrue (reaches to from)
  pub covered : AllTouched set h from to

-- a span is true of a set of bytes; an unknown one claims nothing
abbrev pub SpanIsTrue : Timeline → Span → (ℕ → Type 0) → Type 0
SpanIsTrue h (Known from to) set = SpanHolds h from to set
SpanIsTrue h Unknown set = Unit {0}

abbrev pub ends_now : Span → Bool
ends_now (Known from Now) = true
ends_now (Known from (At to)) = false
ends_now Unknown = false

-- adding, clearing, and abdication at a job's point: from p to now where the bitmap records, else to p
abbrev pub after_clear : Bool → Point → Span
after_clear recording p = Known p (if recording then Now else At p)

-- an end `now` becomes p; any other span stays
abbrev pub after_disable : Span → Point → Span
after_disable (Known a Now) p = Known a (At p)
after_disable (Known a (At b)) p = Known a (At b)
after_disable Unknown p = Unknown

-- a span that ends at p goes on from its start; any other begins at p
abbrev pub after_enable : Span → Point → Span
after_enable (Known a (At b)) p = Known (if same_point b p then a else p) Now
after_enable (Known a Now) p = Known p Now
after_enable Unknown p = Known p Now

-- the span is closed where it begins
abbrev pub is_closed_at : Point → End → Bool
is_closed_at a Now = false
is_closed_at a (At b) = same_point a b

-- neither of two spans ends before the other begins
abbrev pub do_meet : Point → End → Point → End → Bool
do_meet a b c d = reaches b c && reaches d a

-- two spans are known and meet
abbrev pub spans_meet : Span → Span → Bool
spans_meet (Known a b) (Known c d) = do_meet a b c d
spans_meet (Known a b) Unknown = false
spans_meet Unknown source = false

-- A source's span merged into a target's at p, where the source counts up to p at most: in place of a target's that is
-- closed where it begins, joined to one that it meets, and else not at all.
abbrev pub after_merge : Span → Span → Point → Span
after_merge (Known a b) (Known c d) p =
    if is_closed_at a b then Known c (At (closed_by d p))
    else (if do_meet a b c d then Known (earlier a c) (later_end b (At (closed_by d p))) else Known a b)
after_merge (Known a b) Unknown p = Known a b
after_merge Unknown source p = Unknown

-- what a backup at p builds on: since a for a span from a to now or to p
abbrev pub base_of : Span → Point → Base
base_of (Known a Now) p = Since a
base_of (Known a (At b)) p = if same_point b p then Since a else Loose
base_of Unknown p = Loose
