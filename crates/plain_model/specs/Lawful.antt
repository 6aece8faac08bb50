-- Files that are lawful for a history, the writes that a crash settles, and what a crash keeps.
use Rattle.std.specs.Prelude.{◌≡◌, ℕ, ◌+◌, ◌/◌, ◌≤◌, ◌<◌, List, [], ◌∷◌, ◌++◌, length, take, drop, map, Bool, true, false, ◌&&◌, ◌==◌, if◌then◌else◌, All, Any, IsTrue, bytes_eq}
use Rattle.std.specs.List.{range_with_len}
use Rattle.span_algebra.specs.declared.lists.Run.{Run}
use Rattle.span_algebra.specs.Timelines as timelines
use Rattle.bitmap_model.specs.Runs.{runs_of}
use Rattle.bitmap_model.specs.Bitmap.{StoredBitmap, restored, IsTrueBitmap}
use Rattle.bitmap_model.specs.BitmapLaws.{IsRecordedToNow}
use Rattle.core_events.specs.declared.events.Work.{Work}
use Rattle.core_events.specs.declared.events.Work.TheVariants.{Read, Write, Zero, Flush, Status}
use Rattle.plain_model.specs.History.{History, IsHistory, Entry, Wrote, now, timeline_of}
use Rattle.plain_model.specs.Records.{StateHolds}
use Rattle.image_model.specs.Backups.{Backup, BackupState, Blank, Begun, Sealed}
use Rattle.plain_model.specs.Requests.{is_write}
use Rattle.plain_model.specs.Step.{sector}

-- ---- lawful files

-- a source, as its image gives it
pub record SourceFile : Type 0 where
  pub id : List ℕ
  pub epoch : ℕ
  pub disk : List ℕ
  -- the bitmaps that it stores, in the order of its directory
  pub entries : List StoredBitmap

-- a stored bitmap that can be trusted says a true thing of the history, and one that goes on to now belongs to a recording bitmap
pub record IsTrueEntry (h : History) (e : StoredBitmap) : Type 0 where
  pub span : IsTrueBitmap (timeline_of h) (restored e)
  pub recorded : IsRecordedToNow (restored e)

-- no point is of a later epoch
abbrev pub IsOfEpoch : ℕ → timelines.Entry → Type 0
IsOfEpoch epoch (timelines.Wrote extent) = Unit {0}
IsOfEpoch epoch (timelines.Reached p) = p.epoch ≤ epoch

pub record IsLawfulSource (h : History) (s : SourceFile) : Type 0 where
  pub disk_is : s.disk ≡ now h
  pub epochs : All (IsOfEpoch s.epoch) (timeline_of h).entries
  pub entries_hold : All (λ (e : StoredBitmap). IsTrue e.trusted → IsTrueEntry h e) s.entries

-- a blank record claims that nothing is present; a sealed one speaks of the disk whose id it carries; one that was begun claims nothing
abbrev pub IsLawfulState : List ℕ → History → Backup → BackupState → Type 0
IsLawfulState id h b Blank = StateHolds h b Blank
IsLawfulState id h b Begun = Unit {0}
IsLawfulState id h b (Sealed base p) = b.id ≡ id → StateHolds h b (Sealed base p)

-- image, stored bitmaps and records all say true things of the history
pub record Lawful (s : SourceFile) (backups : List Backup) (h : History) : Type 0 where
  pub history_is : IsHistory h
  pub source : IsLawfulSource h s
  pub records : All (λ (b : Backup). IsLawfulState s.id h b b.state) backups

-- ---- settling

-- the numbers of a disk's sectors
abbrev pub sectors : List ℕ → List ℕ
sectors disk = range_with_len 0 (length disk / 512)

-- 1 for each sector in which two disks differ
abbrev pub difference : List ℕ → List ℕ → List ℕ
difference a b = map (λ k. if bytes_eq (sector a k) (sector b k) then 0 else 1) (sectors a)

-- a write of the disk's bytes for each run, of those from byte `at` on, that is flagged
abbrev pub writes_of : List ℕ → ℕ → List Run → List Entry
writes_of disk at [] = []
writes_of disk at (r ∷ runs) =
    if r.flags == 1 then Wrote at (take r.length (drop at disk)) ∷ writes_of disk (at + r.length) runs
    else writes_of disk (at + r.length) runs

-- the history, and a write for each greatest run of sectors in which this disk differs from its own, rising
unfoldable pub settle : History → List ℕ → History
settle h disk = record { start = h.start; entries = h.entries ++ writes_of disk 0 (runs_of 512 (difference (now h) disk) (record { at = 0; size = length disk })) }

-- ---- what a crash keeps

-- the disk has as many bytes as each of these has, and each of its sectors is that of one of them
pub record Kept (disks : List (List ℕ)) (disk : List ℕ) : Type 0 where
  pub long : All (λ d. length disk ≡ length d) disks
  pub kept : (k : ℕ) → k < length disk / 512 → Any (λ d. sector d k ≡ sector disk k) disks

-- a request after whose Ok all that was written lasts
abbrev pub syncs : Work → Bool
syncs Read = false
syncs (Write fua) = fua
syncs (Zero fua no_hole) = fua
syncs Flush = true
syncs (Status context one) = false

-- The disks that a crash may mix, after a request, and the disk now: a sync that was answered leaves the last alone.
abbrev pub disks_after : List (List ℕ) → Work → Bool → List ℕ → List (List ℕ)
disks_after disks work ok disk = if syncs work && ok then disk ∷ [] else if is_write work then disks ++ disk ∷ [] else disks
