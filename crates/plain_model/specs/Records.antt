-- What a backup file claims of a history, chains of backups, and what a chain gives.
use Rattle.std.specs.Prelude.{◌≡◌, ℕ, ◌+◌, ◌/◌, ◌<◌, List, [], ◌∷◌, length, map, Bool, true, false, not, ◌==◌, Option, Some, None, Result, Ok, Err, if◌then◌else◌, slice_index, IsTrue, bytes_eq}
use Rattle.std.specs.List.{range_with_len}
use Rattle.std.specs.Bool.{then_some}
use Rattle.span_algebra.specs.declared.points.Point.{Point}
use Rattle.span_algebra.specs.declared.points.End.TheVariants.{At}
use Rattle.span_algebra.specs.declared.spans.Base.{Base}
use Rattle.span_algebra.specs.declared.spans.Base.TheVariants.{Whole, Since, Loose}
use Rattle.span_algebra.specs.Points.{same_point, not_after}
use Rattle.span_algebra.specs.Timelines.{stands}
use Rattle.span_algebra.specs.Spans.{that_pass, AllTouched}
use Rattle.bitmap_model.specs.Granules.{is_in}
use Rattle.image_model.specs.Backups.{Backup, BackupState, Blank, Begun, Sealed}
use Rattle.plain_model.specs.History.{History, disk_at, timeline_of}
use Rattle.monitor_model.specs.Commands.{first_of}

abbrev pub is_present : Backup → ℕ → Bool
is_present b x = is_in b.present (x / b.unit)

-- ---- the truth of a record

-- each present unit reads as this disk
abbrev pub ReadsAs : Backup → List ℕ → Type 0
ReadsAs b disk = (x : ℕ) → x < length disk → IsTrue (is_present b x) → slice_index b.content x ≡ slice_index disk x

-- the backup has the disk's size, and what is present is the disk at the point
pub record HoldsPoint (h : History) (b : Backup) (p : Point) : Type 0 where
  pub drawn : IsTrue (stands p (timeline_of h))
  pub sized : b.size ≡ length h.start
  pub reads : ReadsAs b (disk_at h p)

-- what was written since the base, up to the point, is present
pub record HoldsChanges (h : History) (b : Backup) (a p : Point) : Type 0 where
  pub drawn : IsTrue (stands a (timeline_of h))
  pub order : IsTrue (not_after a p)
  pub changes : AllTouched (that_pass (is_present b)) (timeline_of h) a (At p)

abbrev pub BaseHolds : History → Backup → Base → Point → Type 0
BaseHolds h b Whole p = (x : ℕ) → x < length h.start → IsTrue (is_present b x)
BaseHolds h b (Since a) p = HoldsChanges h b a p
BaseHolds h b Loose p = Unit {0}

abbrev pub StateHolds : History → Backup → BackupState → Type 0
StateHolds h b Blank = (n : ℕ) → is_in b.present n ≡ false
StateHolds h b Begun = Unit {0}
StateHolds h b (Sealed base p) = HoldsPoint h b p × BaseHolds h b base p

-- the record is true for the history
abbrev pub RecordIsTrue : History → Backup → Type 0
RecordIsTrue h b = StateHolds h b b.state

-- ---- chains

-- the backups follow one another from a point on, and end at another
abbrev pub Follow : List ℕ → ℕ → Point → List Backup → Point → Type 0
Follow id size p [] end = p ≡ end
Follow id size p (b ∷ backups) end =
    (q : Point) × (b.state ≡ Sealed (Since p) q) × (b.id ≡ id) × (b.size ≡ size) × Follow id size q backups end

-- a full backup, and backups each since the one before it, of one disk, up to a point
abbrev pub IsChain : List Backup → Point → Type 0
IsChain [] end = ⊥
IsChain (b ∷ backups) end = (p : Point) × (b.state ≡ Sealed Whole p) × Follow b.id b.size p backups end

-- the byte of the last backup that has it, or else this one
abbrev pub topmost : ℕ → ℕ → List Backup → ℕ
topmost x byte [] = byte
topmost x byte (b ∷ backups) = topmost x (if is_present b x then slice_index b.content x else byte) backups

-- what backups give together: each byte from the last that has it, and zero where none has
unfoldable pub overlay_of : ℕ → List Backup → List ℕ
overlay_of size backups = map (λ x. topmost x 0 backups) (range_with_len 0 size)

-- ---- why backups are refused

pub data ChainFault : Type 0 where
  -- the file is no backup, for this reason
  NoBackup : (reason : List ℕ) → ChainFault
  NotSealed : ChainFault
  FirstNotFull : ChainFault
  NoBase : ChainFault
  OtherDisk : ChainFault
  OtherSize : ChainFault
  Gap : ChainFault

abbrev pub is_full : Base → Bool
is_full Whole = true
is_full (Since a) = false
is_full Loose = false

-- a base that is this point
abbrev pub is_since : Point → Base → Bool
is_since p Whole = false
is_since p (Since a) = same_point a p
is_since p Loose = false

abbrev pub has_base : Base → Bool
has_base Whole = false
has_base (Since a) = true
has_base Loose = false

-- what the files before have come to: the first one's disk, and the point of the last
pub record Link : Type 0 where
  pub id : List ℕ
  pub size : ℕ
  pub point : Point

abbrev pub first_fault : BackupState → Option ChainFault
first_fault Blank = Some NotSealed
first_fault Begun = Some NotSealed
first_fault (Sealed base p) = then_some (not (is_full base)) FirstNotFull

-- why a later file isn't taken, in the order of the tests
abbrev pub later_fault : Link → Backup → BackupState → Option ChainFault
later_fault link b Blank = Some NotSealed
later_fault link b Begun = Some NotSealed
later_fault link b (Sealed base p) = first_of (
    then_some (not (has_base base)) NoBase
    ∷ then_some (not (bytes_eq b.id link.id)) OtherDisk
    ∷ then_some (not (b.size == link.size)) OtherSize
    ∷ then_some (not (is_since link.point base)) Gap
    ∷ [])

abbrev pub point_in : Point → BackupState → Point
point_in p Blank = p
point_in p Begun = p
point_in p (Sealed base q) = q

-- a fault, and the number of the file that has it, from 0
pub record RefusedFile : Type 0 where
  pub file : ℕ
  pub fault : ChainFault

-- the first file from number k on that isn't taken
abbrev pub refused_from : ℕ → Link → List (Result Backup (List ℕ)) → Option RefusedFile
refused_from k link [] = None
refused_from k link (Err reason ∷ files) = Some (record { file = k; fault = NoBackup reason })
refused_from k link (Ok b ∷ files) = elim (later_fault link b b.state) [
  | Some fault ↦ Some (record { file = k; fault = fault })
  | None ↦ refused_from (k + 1) (record link { point = point_in link.point b.state }) files
]

-- the first of these files, read as backups or found to be none, that isn't taken
abbrev pub refused_file : List (Result Backup (List ℕ)) → Option RefusedFile
refused_file [] = None
refused_file (Err reason ∷ files) = Some (record { file = 0; fault = NoBackup reason })
refused_file (Ok b ∷ files) = elim (first_fault b.state) [
  | Some fault ↦ Some (record { file = 0; fault = fault })
  | None ↦ refused_from 1 (record { id = b.id; size = b.size; point = point_in (record { epoch = 0; serial = 0 }) b.state }) files
]
