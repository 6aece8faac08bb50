-- Guest requests: where they lead, why they are denied, and what they are answered.
use Rattle.std.specs.Prelude.{◌≡◌, ℕ, ◌+◌, ◌^◌, ◌≤◌, List, [], ◌∷◌, length, take, drop, map, Bool, true, false, not, ◌&&◌, ◌||◌, nat_lt, nat_eq, ◌==◌, Option, Some, None, is_some, if◌then◌else◌, codes, find, bytes_eq}
use Rattle.std.specs.List.{starts_with}
use Rattle.std.specs.Bool.{then_some}
use Rattle.span_algebra.specs.declared.lists.Run.{Run}
use Rattle.span_algebra.specs.Timelines.{Extent}
use Rattle.bitmap_model.specs.Runs.{runs_of, reply_runs, dirty_runs}
use Rattle.bitmap_model.specs.Bitmap.{BitmapState}
use Rattle.bitmap_model.specs.Bitmaps.{named}
use Rattle.core_events.specs.Events.{Request}
use Rattle.core_events.specs.declared.events.Way.{Way}
use Rattle.core_events.specs.declared.events.Way.TheVariants.{Node, Export}
use Rattle.core_events.specs.declared.events.Work.{Work}
use Rattle.core_events.specs.declared.events.Work.TheVariants.{Read, Write, Zero, Flush, Status}
use Rattle.core_events.specs.declared.commands.ExportArgs.{ExportArgs}
use Rattle.core_events.specs.declared.answers.Errno.{Errno}
use Rattle.core_events.specs.declared.answers.Errno.TheVariants.{Perm, Io, Invalid, Shutdown}
use Rattle.core_events.specs.Answers.{Reply, Done, Content, Flags}
use Rattle.monitor_model.specs.Commands.{first_of}
use Rattle.script_model.specs.Recording.{is_drive}
use Rattle.plain_model.specs.History.{now, disk_at}
use Rattle.image_model.specs.Space.{need, allocation_flags}
use Rattle.plain_model.specs.Jobs.{Job}
use Rattle.plain_model.specs.Machine.{Machine, GoneView, size_of, live_view}

-- ---- where a request leads

-- what a node's name stands for
pub data Place : Type 0 where
  Drive : Place
  Live : (job : Job) → Place
  -- a view that ended or broke at this event
  Gone : (event : ℕ) → Place
  Nowhere : Place

-- the event at which the last view of this name went
abbrev pub last_gone : List ℕ → List GoneView → Option ℕ
last_gone name [] = None
last_gone name (v ∷ views) = elim (last_gone name views) [ Some event ↦ Some event | None ↦ if bytes_eq name v.target then Some v.event else None ]

-- the live view of a name, or else the last that is gone
abbrev pub view_place : Option Job → Option ℕ → Place
view_place (Some job) last = Live job
view_place None (Some event) = Gone event
view_place None None = Nowhere

abbrev pub node_place : List ℕ → Machine → Place
node_place node m = if is_drive node then Drive else view_place (live_view node m) (last_gone node m.gone)

abbrev pub export_of : List ℕ → Machine → Option ExportArgs
export_of name m = find (λ (e : ExportArgs). bytes_eq name e.name) m.exports

-- an export stands for its node, which is looked up at each request
abbrev pub export_place : Option ExportArgs → Machine → Place
export_place None m = Nowhere
export_place (Some e) m = node_place e.node m

abbrev pub place_of : Way → Machine → Place
place_of (Node name) m = node_place name m
place_of (Export name) m = export_place (export_of name m) m

abbrev pub is_view : Place → Bool
is_view Drive = false
is_view (Live job) = true
is_view (Gone event) = true
is_view Nowhere = false

abbrev pub is_drive_place : Place → Bool
is_drive_place Drive = true
is_drive_place (Live job) = false
is_drive_place (Gone event) = false
is_drive_place Nowhere = false

abbrev pub is_gone : Place → Bool
is_gone Drive = false
is_gone (Live job) = false
is_gone (Gone event) = true
is_gone Nowhere = false

abbrev pub is_nowhere : Place → Bool
is_nowhere Drive = false
is_nowhere (Live job) = false
is_nowhere (Gone event) = false
is_nowhere Nowhere = true

abbrev pub is_read_only_export : Option ExportArgs → Bool
is_read_only_export None = false
is_read_only_export (Some e) = not e.writable

-- nothing may be written this way
abbrev pub is_read_only : Way → Machine → Bool
is_read_only (Node name) m = is_view (node_place name m)
is_read_only (Export name) m = is_read_only_export (export_of name m) || is_view (place_of (Export name) m)

-- ---- what a request asks

abbrev pub range_of : Request → Extent
range_of r = record { at = r.offset; size = r.length }

abbrev pub is_write : Work → Bool
is_write Read = false
is_write (Write fua) = true
is_write (Zero fua no_hole) = true
is_write Flush = false
is_write (Status context one) = false

-- a write stores its range; so does a zero that may leave no hole
abbrev pub stores : Work → Bool
stores Read = false
stores (Write fua) = true
stores (Zero fua no_hole) = no_hole
stores Flush = false
stores (Status context one) = false

abbrev pub is_flush : Work → Bool
is_flush Read = false
is_flush (Write fua) = false
is_flush (Zero fua no_hole) = false
is_flush Flush = true
is_flush (Status context one) = false

-- the longest read or write, in bytes
abbrev pub longest : ℕ
longest = 2 ^ 25

-- what a write brings is as long as its range, where it isn't too long; no other request's bytes are looked at
abbrev pub HasBytes : Request → Work → Type 0
HasBytes r Read = Unit {0}
HasBytes r (Write fua) = r.length ≤ longest → length r.bytes ≡ r.length
HasBytes r (Zero fua no_hole) = Unit {0}
HasBytes r Flush = Unit {0}
HasBytes r (Status context one) = Unit {0}

-- what a status asks about
pub data Context : Type 0 where
  Allocation : Context
  Dirty : (bitmap : BitmapState) → Context
  NoContext : Context

abbrev pub allocation_name : List ℕ
allocation_name = codes "base:allocation"

abbrev pub bitmap_prefix : List ℕ
bitmap_prefix = codes "qemu:dirty-bitmap:"

abbrev pub dirty_context : Option BitmapState → Context
dirty_context None = NoContext
dirty_context (Some b) = if b.inconsistent then NoContext else Dirty b

abbrev pub context_of : List ℕ → Machine → Context
context_of name m =
    if bytes_eq name allocation_name then Allocation
    else if starts_with nat_eq name bitmap_prefix then dirty_context (named (drop (length bitmap_prefix) name) m.bitmaps)
    else NoContext

abbrev pub is_context : Context → Bool
is_context Allocation = true
is_context (Dirty b) = true
is_context NoContext = false

-- ---- why a request is denied

abbrev pub leaves_disk : Request → Machine → Bool
leaves_disk r m = nat_lt (size_of m) (r.offset + r.length)

abbrev pub is_too_long : Request → Bool
is_too_long r = nat_lt longest r.length

-- the range leaves the disk or is too long, or the status asks nothing
abbrev pub is_invalid : Request → Work → Machine → Bool
is_invalid r Read m = leaves_disk r m || is_too_long r
is_invalid r (Write fua) m = leaves_disk r m || is_too_long r
is_invalid r (Zero fua no_hole) m = leaves_disk r m
is_invalid r Flush m = false
is_invalid r (Status context one) m = leaves_disk r m || ((r.length == 0) || not (is_context (context_of context m)))

-- why a request is denied before anything is looked up for it, in the order of the tests
unfoldable pub denial : Request → Machine → Option Errno
denial r m = let place = place_of r.way m in first_of (
    then_some (is_write r.work && is_read_only r.way m) Perm
    ∷ then_some (is_nowhere place || is_invalid r r.work m) Invalid
    ∷ then_some (is_gone place) Shutdown
    ∷ then_some (is_drive_place place && is_some m.broken) Io
    ∷ [])

-- a write that needs more clusters than there is room for
unfoldable pub lacks_room : Request → Machine → Bool
lacks_room r m = stores r.work && nat_lt m.store.room (need m.store (range_of r))

-- ---- what a request is answered

abbrev pub bytes_at : List ℕ → Request → List ℕ
bytes_at disk r = take r.length (drop r.offset disk)

-- a view has the disk of its point
abbrev pub read_at : Place → Request → Machine → List ℕ
read_at Drive r m = bytes_at (now m.history) r
read_at (Live job) r m = bytes_at (disk_at m.history job.point) r
read_at (Gone event) r m = []
read_at Nowhere r m = []

-- how the drive is stored; of a view nothing is told
abbrev pub allocation_runs : Place → Request → Machine → List Run
allocation_runs Drive r m = runs_of m.store.cluster (map allocation_flags m.store.kinds) (range_of r)
allocation_runs (Live job) r m = runs_of (size_of m) (0 ∷ []) (range_of r)
allocation_runs (Gone event) r m = []
allocation_runs Nowhere r m = []

-- what a bitmap of the drive has, on the way of a view too; a successor isn't looked at
abbrev pub status_runs : Context → Place → Request → Machine → List Run
status_runs Allocation place r m = allocation_runs place r m
status_runs (Dirty b) place r m = dirty_runs b.bits (range_of r)
status_runs NoContext place r m = []

-- the reply to a request that goes well
abbrev pub granted : Request → Work → Machine → Reply
granted r Read m = Content (read_at (place_of r.way m) r m)
granted r (Write fua) m = Done
granted r (Zero fua no_hole) m = Done
granted r Flush m = Done
granted r (Status context one) m = Flags (reply_runs one (status_runs (context_of context m) (place_of r.way m) r m))
