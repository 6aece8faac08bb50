-- Points, in the order in which a disk's history draws them, and the ends of spans.
use Rattle.std.specs.Prelude.{Bool, true, not, ◌&&◌, ◌||◌, nat_lt, ◌==◌, if◌then◌else◌}
use Rattle.std.specs.Ordering.{nat_cmp, ordering_then}
use Rattle.std.specs.declared.cmp.Ordering.{Ordering}
use Rattle.span_algebra.specs.declared.points.Point.{Point}
use Rattle.span_algebra.specs.declared.points.End.{End}
use Rattle.span_algebra.specs.declared.points.End.TheVariants.{Now, At}

-- points are ordered by epoch, then by serial
abbrev pub point_cmp : Point → Point → Ordering
point_cmp p q = ordering_then (nat_cmp p.epoch q.epoch) (nat_cmp p.serial q.serial)

abbrev pub same_point : Point → Point → Bool
same_point p q = (p.epoch == q.epoch) && (p.serial == q.serial)

-- p stands before q
abbrev pub precedes : Point → Point → Bool
precedes p q = nat_lt p.epoch q.epoch || ((p.epoch == q.epoch) && nat_lt p.serial q.serial)

-- p stands where q does, or before it
abbrev pub not_after : Point → Point → Bool
not_after p q = not (precedes q p)

-- the earlier and the later of two points
abbrev pub earlier : Point → Point → Point
earlier p q = if precedes q p then q else p

abbrev pub later : Point → Point → Point
later p q = if precedes p q then q else p

-- the end isn't before the point; `now` is after every point
abbrev pub reaches : End → Point → Bool
reaches Now p = true
reaches (At q) p = not_after p q

-- the later of two ends
abbrev pub later_end : End → End → End
later_end Now e = Now
later_end (At p) Now = Now
later_end (At p) (At q) = At (later p q)

-- the end, or p where that is earlier
abbrev pub closed_by : End → Point → Point
closed_by Now p = p
closed_by (At q) p = earlier q p
