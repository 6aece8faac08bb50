-- Actions of a command, and all actions of a transaction at one point.
use Rattle.std.specs.Prelude.{ℕ, ◌+◌, List, [], ◌∷◌, ◌++◌, length, replicate, Bool, true, false, not, ◌&&◌, ◌||◌, nat_le, nat_lt, ◌==◌, Option, Some, None, is_some, is_none, unwrap_or, Result, Ok, Err, if◌then◌else◌, option_map, option_and_then, codes}
use Rattle.std.specs.List.{list_any}
use Rattle.std.specs.Bool.{then_some}
use Rattle.std.specs.Str.{is_utf8}
use Rattle.span_algebra.specs.declared.points.Point.{Point}
use Rattle.span_algebra.specs.declared.spans.Base.{Base}
use Rattle.span_algebra.specs.declared.spans.Base.TheVariants.{Whole}
use Rattle.bitmap_model.specs.Granules.{granules_in, none_of, merged}
use Rattle.bitmap_model.specs.Bitmap.{BitmapState, when_cleared, when_enabled, when_disabled, when_frozen, base_at}
use Rattle.bitmap_model.specs.Bitmaps.{BitmapFault, named, changed, default_granularity, use_fault, after_add, after_remove, after_change, after_merging}
use Rattle.bitmap_model.specs.Bitmaps as bitmaps
use Rattle.core_events.specs.declared.commands.SyncKind.{SyncKind}
use Rattle.core_events.specs.declared.commands.SyncKind.TheVariants.{Full, Incremental, Bitmap, Nothing}
use Rattle.core_events.specs.declared.commands.Mode.{Mode}
use Rattle.core_events.specs.declared.commands.Mode.TheVariants.{OnSuccess, Never}
use Rattle.core_events.specs.declared.commands.SourceName.{SourceName}
use Rattle.core_events.specs.declared.commands.BackupArgs.{BackupArgs}
use Rattle.core_events.specs.declared.commands.Action.{Action}
use Rattle.core_events.specs.declared.commands.Action.TheVariants.{Add, Remove, Clear, Enable, Disable, Merge, Backup, Abort}
use Rattle.core_events.specs.declared.refusals.Refusal.{Refusal}
use Rattle.core_events.specs.declared.refusals.Refusal.TheVariants.{SerialSpent, NodeUnknown, BadName, NameTaken, TooMany, BadGranularity, TooFine, NoSuchBitmap, Busy, Inconsistent, JobTaken, TooManyJobs, BitmapNeeded, BitmapForbidden, SourceBroken, TargetBusy, DeviceFailed, TargetMissing, TargetFault, TargetUsed, OtherSize, Aborted, OutOfMemory}
use Rattle.monitor_model.specs.Commands.{first_of}
use Rattle.script_model.specs.Lines.{drive}
use Rattle.script_model.specs.Recording.{is_drive}
use Rattle.plain_model.specs.History.{with_entry, Reached}
use Rattle.image_model.specs.Space.{Store}
use Rattle.plain_model.specs.Jobs.{Job, has_id}
use Rattle.plain_model.specs.Machine.{Machine, size_of, last_number, next_point, runners, has_target}

-- ---- what the start of a job meets

-- what the depot holds under a target's name
pub data Held : Type 0 where
  Absent : Held
  -- no backup file, or one that fails a rule, for this reason
  Faulty : (reason : List ℕ) → Held
  -- a backup file: whether its record is Blank, the size of its disk, its clusters
  Target : (blank : Bool) (size : ℕ) (store : Store) → Held

-- a file has a name of 1 to 4,096 bytes, which is text
abbrev pub is_file_name : List ℕ → Bool
is_file_name name = nat_lt 0 (length name) && (nat_le (length name) 4096 && is_utf8 name)

-- why a job can't start on this target, in the order of the tests: it is there, it is a backup file in order, it wasn't begun before,
-- and it has the disk's size
abbrev pub held_refusal : ℕ → List ℕ → Held → Option Refusal
held_refusal size target Absent = Some (TargetMissing target)
held_refusal size target (Faulty reason) = Some (TargetFault reason)
held_refusal size target (Target blank n store) = if not blank then Some (TargetUsed target) else if n == size then None else Some (OtherSize target)

-- a name that no file may have is that of no file
abbrev pub target_refusal : ℕ → List ℕ → Held → Option Refusal
target_refusal size target held = if is_file_name target then held_refusal size target held else Some (TargetMissing target)

-- what may come between in one command: a device call that fails while this target is opened; and want of memory at the action of
-- this number, from 0
pub record Hindrance : Type 0 where
  pub unread : List ℕ → Bool
  pub memory : Option ℕ

-- ---- actions on bitmaps

-- a bitmap's fault as it is named; the number is the granularity that was asked
abbrev pub bitmap_refusal : List ℕ → ℕ → BitmapFault → Refusal
bitmap_refusal name g bitmaps.BadName = BadName
bitmap_refusal name g bitmaps.NameTaken = NameTaken name
bitmap_refusal name g bitmaps.TooMany = TooMany bitmaps.most_bitmaps
bitmap_refusal name g bitmaps.BadGranularity = BadGranularity g
bitmap_refusal name g bitmaps.TooFine = TooFine g
bitmap_refusal name g bitmaps.NoSuchBitmap = NoSuchBitmap name
bitmap_refusal name g bitmaps.Busy = Busy name
bitmap_refusal name g bitmaps.Inconsistent = Inconsistent name

abbrev pub with_bitmaps : Machine → List ℕ → ℕ → Result (List BitmapState) BitmapFault → Result Machine Refusal
with_bitmaps m name g (Ok set) = Ok (record m { bitmaps = set })
with_bitmaps m name g (Err fault) = Err (bitmap_refusal name g fault)

-- the node has to be the drive
abbrev pub on_drive : List ℕ → Result Machine Refusal → Result Machine Refusal
on_drive node r = if is_drive node then r else Err (NodeUnknown node)

-- why a bitmap can't be used
abbrev pub unusable : List ℕ → Machine → Option Refusal
unusable name m = option_map (bitmap_refusal name 0) (use_fault (named name m.bitmaps))

-- why a source of a merge can't be used: the node that stands beside it is tested first
abbrev pub source_refusal : SourceName → Machine → Option Refusal
source_refusal s m = first_of (then_some (not (is_drive (unwrap_or s.node drive))) (NodeUnknown (unwrap_or s.node drive)) ∷ unusable s.name m ∷ [])

-- a merge's sources, one after another
abbrev pub merge_sources : List ℕ → Point → List SourceName → Machine → Result Machine Refusal
merge_sources target p [] m = Ok m
merge_sources target p (s ∷ sources) m = elim (source_refusal s m) [
  | Some refusal ↦ Err refusal
  | None ↦ elim (after_merging target s.name p m.bitmaps) [
    | Ok set ↦ merge_sources target p sources (record m { bitmaps = set })
    | Err fault ↦ Err (bitmap_refusal s.name 0 fault)
  ]
]

-- the target is tested before them
abbrev pub after_merge : List ℕ → Point → List SourceName → Machine → Result Machine Refusal
after_merge target p sources m = elim (unusable target m) [ Some refusal ↦ Err refusal | None ↦ merge_sources target p sources m ]

-- ---- backups

abbrev pub uses_bitmap : SyncKind → Bool
uses_bitmap Full = false
uses_bitmap Incremental = true
uses_bitmap Bitmap = true
uses_bitmap Nothing = false

abbrev pub is_incremental : SyncKind → Bool
is_incremental Full = false
is_incremental Incremental = true
is_incremental Bitmap = false
is_incremental Nothing = false

abbrev pub is_never : Option Mode → Bool
is_never None = false
is_never (Some OnSuccess) = false
is_never (Some Never) = true

-- a mode has an effect only where a bitmap is used
abbrev pub mode_of : BackupArgs → Mode
mode_of a = if uses_bitmap a.sync then unwrap_or a.mode OnSuccess else OnSuccess

-- how many jobs and live views there may be
abbrev pub most_jobs : ℕ
most_jobs = 8

-- the drive's own name is always busy
abbrev pub is_target_busy : List ℕ → Machine → Bool
is_target_busy target m = is_drive target || list_any (has_target target) (runners m)

-- the tests of a backup, in their order
abbrev pub backup_tests : (List ℕ → Held) → (List ℕ → Bool) → BackupArgs → Machine → List (Option Refusal)
backup_tests held unread a m =
    then_some (not (is_drive a.device)) (NodeUnknown a.device)
    ∷ then_some (list_any (has_id a.job) (runners m)) (JobTaken a.job)
    ∷ then_some (nat_le most_jobs (length (runners m))) (TooManyJobs most_jobs)
    ∷ then_some (uses_bitmap a.sync && is_none a.bitmap) BitmapNeeded
    ∷ then_some (not (uses_bitmap a.sync) && is_some a.bitmap) (BitmapForbidden (unwrap_or a.bitmap []))
    ∷ then_some (is_incremental a.sync && is_never a.mode) (BitmapForbidden (codes "never"))
    ∷ option_and_then (λ name. unusable name m) a.bitmap
    ∷ option_map SourceBroken m.broken
    ∷ then_some (is_target_busy a.target m) (TargetBusy a.target)
    ∷ then_some (is_file_name a.target && unread a.target) (DeviceFailed a.target)
    ∷ target_refusal (size_of m) a.target (held a.target)
    ∷ []

-- why a backup isn't started
unfoldable pub backup_refusal : (List ℕ → Held) → (List ℕ → Bool) → BackupArgs → Machine → Option Refusal
backup_refusal held unread a m = first_of (backup_tests held unread a m)

-- all units, or those that meet a granule of the bitmap
abbrev pub scope_for : ℕ → ℕ → Option BitmapState → List Bool
scope_for size unit None = replicate (granules_in size unit) true
scope_for size unit (Some b) = (merged (none_of size unit) b.bits).set

abbrev pub base_for : Point → Option BitmapState → Base
base_for p None = Whole
base_for p (Some b) = base_at p b

-- a job at the start: nothing is copied, and what is due is what the bitmap has then
abbrev pub new_job : ℕ → Point → BackupArgs → Option BitmapState → Store → Job
new_job size p a bitmap store = record {
  id = a.job;
  target = a.target;
  point = p;
  base = base_for p bitmap;
  scope = scope_for size store.cluster bitmap;
  copied = (none_of size store.cluster).set;
  bitmap = a.bitmap;
  mode = mode_of a;
  store = store;
}

abbrev pub with_job : SyncKind → Job → Machine → Machine
with_job Full j m = record m { jobs = m.jobs ++ j ∷ []; created = m.created ++ j.id ∷ [] }
with_job Incremental j m = record m { jobs = m.jobs ++ j ∷ []; created = m.created ++ j.id ∷ [] }
with_job Bitmap j m = record m { jobs = m.jobs ++ j ∷ []; created = m.created ++ j.id ∷ [] }
with_job Nothing j m = record m { views = m.views ++ j ∷ []; created = m.created ++ j.id ∷ [] }

abbrev pub freeze_bitmap : Option (List ℕ) → List BitmapState → List BitmapState
freeze_bitmap None set = set
freeze_bitmap (Some name) set = changed when_frozen name set

abbrev pub started_on : Point → BackupArgs → Held → Machine → Machine
started_on p a (Target blank n store) m =
    with_job a.sync (new_job (size_of m) p a (option_and_then (λ name. named name m.bitmaps) a.bitmap) store)
    (record m { bitmaps = freeze_bitmap a.bitmap m.bitmaps })
started_on p a Absent m = m
started_on p a (Faulty reason) m = m

abbrev pub after_backup : (List ℕ → Held) → (List ℕ → Bool) → Point → BackupArgs → Machine → Result Machine Refusal
after_backup held unread p a m = elim (backup_refusal held unread a m) [ Some refusal ↦ Err refusal | None ↦ Ok (started_on p a (held a.target) m) ]

-- ---- one action, and all of a transaction

abbrev pub granularity_for : Option ℕ → Machine → ℕ
granularity_for granularity m = unwrap_or granularity (default_granularity m.store.cluster)

-- one action, at the point
unfoldable pub act : (List ℕ → Held) → (List ℕ → Bool) → Point → Action → Machine → Result Machine Refusal
act held unread p (Add node name granularity persistent recording) m =
    on_drive node (with_bitmaps m name (granularity_for granularity m) (after_add (size_of m) name (granularity_for granularity m) recording persistent p m.bitmaps))
act held unread p (Remove node name) m = on_drive node (with_bitmaps m name 0 (after_remove name m.bitmaps))
act held unread p (Clear node name) m = on_drive node (with_bitmaps m name 0 (after_change (when_cleared p) name m.bitmaps))
act held unread p (Enable node name) m = on_drive node (with_bitmaps m name 0 (after_change (when_enabled p) name m.bitmaps))
act held unread p (Disable node name) m = on_drive node (with_bitmaps m name 0 (after_change (when_disabled p) name m.bitmaps))
act held unread p (Merge node target sources) m = on_drive node (after_merge target p sources m)
act held unread p (Backup a) m = after_backup held unread p a m
act held unread p Abort m = Err Aborted

-- a refusal, and the number of the action that met it
pub record RefusedAt : Type 0 where
  pub action : ℕ
  pub refusal : Refusal

abbrev pub is_at : Option ℕ → ℕ → Bool
is_at None k = false
is_at (Some n) k = n == k

-- all actions in order, from number k on, or the first that is refused
abbrev pub fold_actions : (List ℕ → Held) → Hindrance → Point → ℕ → List Action → Machine → Result Machine RefusedAt
fold_actions held h p k [] m = Ok m
fold_actions held h p k (a ∷ actions) m =
    if is_at h.memory k then Err (record { action = k; refusal = OutOfMemory })
    else elim (act held h.unread p a m) [
      | Ok next ↦ fold_actions held h p (k + 1) actions next
      | Err refusal ↦ Err (record { action = k; refusal = refusal })
    ]

-- the point is drawn
abbrev pub with_point : Point → Machine → Machine
with_point p m = record m { history = with_entry m.history (Reached p); serial = m.serial + 1 }

-- All actions at the next point, or none. A transaction without actions draws a point too.
unfoldable pub transact : (List ℕ → Held) → Hindrance → List Action → Machine → Result Machine RefusedAt
transact held h actions m =
    if m.serial == last_number then Err (record { action = 0; refusal = SerialSpent })
    else elim (fold_actions held h (next_point m) 0 actions m) [
      | Ok next ↦ Ok (with_point (next_point m) next)
      | Err refused ↦ Err refused
    ]
