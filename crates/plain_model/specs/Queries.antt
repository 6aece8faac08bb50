-- What the queries list, and exports.
use Rattle.std.specs.Prelude.{ℕ, ◌*◌, List, [], ◌∷◌, ◌++◌, map, filter, not, ◌&&◌, nat_le, length, Option, Some, None, is_none, bytes_eq}
use Rattle.std.specs.List.{list_any}
use Rattle.std.specs.Bool.{then_some}
use Rattle.bitmap_model.specs.Granules.{count_of}
use Rattle.bitmap_model.specs.Bitmap.{BitmapState, is_busy}
use Rattle.bitmap_model.specs.Bitmaps.{named}
use Rattle.core_events.specs.declared.commands.SourceName.{SourceName}
use Rattle.core_events.specs.declared.commands.ExportArgs.{ExportArgs}
use Rattle.core_events.specs.declared.infos.JobInfo.{JobInfo}
use Rattle.core_events.specs.declared.infos.BitmapInfo.{BitmapInfo}
use Rattle.core_events.specs.declared.infos.NodeInfo.{NodeInfo}
use Rattle.core_events.specs.declared.infos.ExportInfo.{ExportInfo}
use Rattle.core_events.specs.declared.refusals.Refusal.{Refusal}
use Rattle.core_events.specs.declared.refusals.Refusal.TheVariants.{NodeUnknown, ReadOnlyNode, ExportTaken, TooManyExports, NoSuchBitmap}
use Rattle.script_model.specs.Lines.{drive}
use Rattle.script_model.specs.Recording.{is_drive}
use Rattle.plain_model.specs.Jobs.{Job, total_of, progress_of}
use Rattle.plain_model.specs.Machine.{Machine, size_of, runners, live_view}
use Rattle.monitor_model.specs.Commands.{first_of}

-- ---- lists

abbrev pub job_info : ℕ → Job → JobInfo
job_info size j = record { id = j.id; current = progress_of size j; total = total_of size j }

-- push jobs in list order, then views
abbrev pub job_infos : Machine → List JobInfo
job_infos m = map (job_info (size_of m)) (runners m)

-- dirty granules count whole, past the disk's end too; those of a successor don't count
abbrev pub bitmap_info : BitmapState → BitmapInfo
bitmap_info b = record {
  name = b.name;
  granularity = b.bits.granularity;
  count = count_of b.bits.set * b.bits.granularity;
  span = b.span;
  recording = b.recording;
  persistent = b.persistent;
  busy = is_busy b;
  inconsistent = b.inconsistent;
}

abbrev pub drive_info : Machine → NodeInfo
drive_info m = record { name = drive; size = size_of m; bitmaps = Some (map bitmap_info m.bitmaps); broken_at = m.broken }

abbrev pub view_info : ℕ → Job → NodeInfo
view_info size j = record { name = j.target; size = size; bitmaps = None; broken_at = None }

-- the drive first, then views
abbrev pub node_infos : Machine → List NodeInfo
node_infos m = drive_info m ∷ map (view_info (size_of m)) m.views

-- ---- exports

-- how many exports there may be
abbrev pub most_exports : ℕ
most_exports = 8

-- the first bitmap that the drive doesn't have; a node that stands beside it isn't looked at
abbrev pub absent_bitmap : List SourceName → Machine → Option Refusal
absent_bitmap [] m = None
absent_bitmap (s ∷ sources) m = elim (named s.name m.bitmaps) [ None ↦ Some (NoSuchBitmap s.name) | Some b ↦ absent_bitmap sources m ]

-- the tests of an export, in their order
abbrev pub export_tests : ExportArgs → Machine → List (Option Refusal)
export_tests a m =
    then_some (not (is_drive a.node) && is_none (live_view a.node m)) (NodeUnknown a.node)
    ∷ then_some (not (is_drive a.node) && a.writable) (ReadOnlyNode a.node)
    ∷ then_some (list_any (λ (e : ExportArgs). bytes_eq a.id e.id) m.exports) (ExportTaken a.id)
    ∷ then_some (list_any (λ (e : ExportArgs). bytes_eq a.name e.name) m.exports) (ExportTaken a.name)
    ∷ then_some (nat_le most_exports (length m.exports)) (TooManyExports most_exports)
    ∷ absent_bitmap a.bitmaps m
    ∷ []

-- why an export isn't added
unfoldable pub export_refusal : ExportArgs → Machine → Option Refusal
export_refusal a m = first_of (export_tests a m)

abbrev pub with_export : ExportArgs → Machine → Machine
with_export a m = record m { exports = m.exports ++ a ∷ [] }

-- each name once, at its first place
abbrev pub once_each : List SourceName → List SourceName
once_each [] = []
once_each (s ∷ sources) = s ∷ filter (λ (other : SourceName). not (bytes_eq s.name other.name)) (once_each sources)

-- an export as clients may see it
abbrev pub export_info : ℕ → ExportArgs → ExportInfo
export_info size e = record { name = e.name; size = size; writable = e.writable; contexts = once_each e.bitmaps }

abbrev pub export_infos : Machine → List ExportInfo
export_infos m = map (export_info (size_of m)) m.exports
