-- A backup file, as a plain value.
use Rattle.std.specs.Prelude.{ℕ, List, Bool}
use Rattle.span_algebra.specs.declared.points.Point.{Point}
use Rattle.span_algebra.specs.declared.spans.Base.{Base}

pub data BackupState : Type 0 where
  Blank : BackupState
  -- a backup was begun, and is not finished
  Begun : BackupState
  -- the disk at a point, or what changed of it since a base
  Sealed : (base : Base) (point : Point) → BackupState

-- a backup file: the disk's id, its size, the size of a unit, what its record says, which units are present, and what it reads as
pub record Backup : Type 0 where
  pub id : List ℕ
  pub size : ℕ
  pub unit : ℕ
  pub state : BackupState
  pub present : List Bool
  pub content : List ℕ
