-- Timelines: what happened to a disk, without the bytes that were written.
use Rattle.std.specs.Prelude.{ℕ, ◌+◌, ◌≤◌, List, [], ◌∷◌, ◌++◌, Bool, true, false, if◌then◌else◌, All, IsTrue}
use Rattle.std.specs.List.{list_any}
use Rattle.span_algebra.specs.declared.points.Point.{Point}
use Rattle.span_algebra.specs.declared.points.End.{End}
use Rattle.span_algebra.specs.declared.points.End.TheVariants.{Now, At}
use Rattle.span_algebra.specs.Points.{same_point, precedes}

-- a range of bytes
pub record Extent : Type 0 where
  pub at : ℕ
  pub size : ℕ

pub data Entry : Type 0 where
  Wrote : (extent : Extent) → Entry
  Reached : (point : Point) → Entry

-- the length of the disk at the start, then what happened
pub record Timeline : Type 0 where
  pub start : ℕ
  pub entries : List Entry

-- a timeline that goes on by a write, or by a point
abbrev pub with_write : Timeline → Extent → Timeline
with_write h e = record { start = h.start; entries = h.entries ++ Wrote e ∷ [] }

abbrev pub with_point : Timeline → Point → Timeline
with_point h p = record { start = h.start; entries = h.entries ++ Reached p ∷ [] }

-- each write lies in a disk of this length
abbrev pub LieInside : ℕ → List Entry → Type 0
LieInside length [] = Unit {0}
LieInside length (Wrote e ∷ entries) = (e.at + e.size ≤ length) × LieInside length entries
LieInside length (Reached p ∷ entries) = LieInside length entries

abbrev pub StaysInside : Timeline → Type 0
StaysInside h = LieInside h.start h.entries

-- the point is one of the entries
abbrev pub is_point : Point → Entry → Bool
is_point p (Wrote e) = false
is_point p (Reached q) = same_point p q

abbrev pub has_point : Point → List Entry → Bool
has_point p entries = list_any (is_point p) entries

abbrev pub stands : Point → Timeline → Bool
stands p h = has_point p h.entries

-- an end `now` always stands; a point does where the timeline has it
abbrev pub end_stands : End → Timeline → Bool
end_stands Now h = true
end_stands (At p) h = stands p h

-- the entry isn't a point, or one after p
abbrev pub is_after : Point → Entry → Bool
is_after p (Wrote e) = true
is_after p (Reached q) = precedes p q

-- after each point stand later ones alone
abbrev pub Rise : List Entry → Type 0
Rise [] = Unit {0}
Rise (Wrote e ∷ entries) = Rise entries
Rise (Reached p ∷ entries) = All (λ m. IsTrue (is_after p m)) entries × Rise entries

-- the points strictly rise, so each stands once
abbrev pub IsRising : Timeline → Type 0
IsRising h = Rise h.entries

-- the entries after a point; none where it doesn't stand
abbrev pub after_point : Point → List Entry → List Entry
after_point p [] = []
after_point p (Wrote e ∷ entries) = after_point p entries
after_point p (Reached q ∷ entries) = if same_point p q then entries else after_point p entries

-- the entries before a point; all where it doesn't stand
abbrev pub before_point : Point → List Entry → List Entry
before_point p [] = []
before_point p (Wrote e ∷ entries) = Wrote e ∷ before_point p entries
before_point p (Reached q ∷ entries) = if same_point p q then [] else Reached q ∷ before_point p entries

abbrev pub before_end : End → List Entry → List Entry
before_end Now entries = entries
before_end (At p) entries = before_point p entries

-- the ranges of the writes
abbrev pub writes : List Entry → List Extent
writes [] = []
writes (Wrote e ∷ entries) = e ∷ writes entries
writes (Reached p ∷ entries) = writes entries

-- what was written after a point and before an end
abbrev pub touched : Timeline → Point → End → List Extent
touched h from to = writes (after_point from (before_end to h.entries))
