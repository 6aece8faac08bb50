-- The order of points is total.
use Rattle.std.proofs.Common.{◌≡◌, ◌<◌, true, false, rules}
use Rattle.std.specs.Ordering.{MatchOrdering, ordering_then}
use Rattle.std.specs.declared.cmp.Ordering.{Ordering}
use Rattle.std.specs.declared.cmp.Ordering.TheVariants.{Less, Equal, Greater}
use Rattle.span_algebra.specs.declared.points.Point.{Point}
use Rattle.span_algebra.specs.Points.{point_cmp, same_point, precedes, earlier, later}

pub precedes-itself : (p : Point) → precedes p p ≡ false
precedes-itself p = search rules

pub precedes-trans : (p q r : Point) → precedes p q ≡ true → precedes q r ≡ true → precedes p r ≡ true
precedes-trans p q r = search rules

pub same_point-true : (p q : Point) → same_point p q ≡ true → p ≡ q
same_point-true p q = search rules

pub same_point-itself : (p : Point) → same_point p p ≡ true
same_point-itself p = search rules

pub precedes-back : (p q : Point) → precedes q p ≡ true → precedes p q ≡ false
precedes-back p q = search rules

-- what isn't before the earlier of two, and is before the one, isn't before the other
pub from-earlier : (a c d : Point) → precedes d (earlier a c) ≡ false → precedes d a ≡ true → precedes d c ≡ false
from-earlier a c d = search rules

pub later-on : (l p q : Point) → precedes l p ≡ false → precedes l q ≡ true → precedes q p ≡ false
later-on l p q = search rules

pub precedes-other : (p q : Point) → precedes q p ≡ true → same_point p q ≡ false
precedes-other p q = search rules
