-- What happened to a disk: the bytes that it was opened with, and since then writes, and points that name moments.
use Rattle.std.specs.Prelude.{ℕ, List, [], ◌∷◌, ◌++◌, length, map, if◌then◌else◌}
use Rattle.disk_model.specs.Files.{overlay}
use Rattle.span_algebra.specs.declared.points.Point.{Point}
use Rattle.span_algebra.specs.Points.{same_point}
use Rattle.span_algebra.specs.Timelines.{Timeline, LieInside, IsRising}
use Rattle.span_algebra.specs.Timelines as timelines

pub data Entry : Type 0 where
  Wrote : (at : ℕ) (bytes : List ℕ) → Entry
  Reached : (point : Point) → Entry

pub record History : Type 0 where
  pub start : List ℕ
  pub entries : List Entry

-- the disk after these entries
abbrev pub disk_after : List ℕ → List Entry → List ℕ
disk_after disk [] = disk
disk_after disk (Wrote at bytes ∷ entries) = disk_after (overlay disk at bytes) entries
disk_after disk (Reached p ∷ entries) = disk_after disk entries

-- the disk now
abbrev pub now : History → List ℕ
now h = disk_after h.start h.entries

-- the entries before a point; all where it doesn't stand
abbrev pub entries_before : Point → List Entry → List Entry
entries_before p [] = []
entries_before p (Wrote at bytes ∷ entries) = Wrote at bytes ∷ entries_before p entries
entries_before p (Reached q ∷ entries) = if same_point p q then [] else Reached q ∷ entries_before p entries

-- the disk at a point
abbrev pub disk_at : History → Point → List ℕ
disk_at h p = disk_after h.start (entries_before p h.entries)

-- the history goes on
abbrev pub with_entry : History → Entry → History
with_entry h entry = record { start = h.start; entries = h.entries ++ entry ∷ [] }

-- the same without the bytes that were written
abbrev pub without_bytes : Entry → timelines.Entry
without_bytes (Wrote at bytes) = timelines.Wrote (record { at = at; size = length bytes })
without_bytes (Reached p) = timelines.Reached p

abbrev pub timeline_of : History → Timeline
timeline_of h = record { start = length h.start; entries = map without_bytes h.entries }

-- each write of the history lies in its disk
abbrev pub StaysInside : History → Type 0
StaysInside h = LieInside (length h.start) (timeline_of h).entries

-- each write lies in the disk, and the points rise
pub record IsHistory (h : History) : Type 0 where
  pub inside : StaysInside h
  pub rising : IsRising (timeline_of h)
