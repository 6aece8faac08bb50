-- Why an event met a fault, as the counts of any depot show it, whether it tells its files or not.
use Rattle.std.specs.Prelude.{◌≡◌, ◌⊎◌, List, ℕ, ◌+◌, ◌-◌, ◌^◌, min, false, find, bytes_eq, Option, Some, None, IsSome, IsTrue, Contains}
use Rattle.disk_model.specs.World.{World, Rose, FileFailed}
use Rattle.core_events.specs.Events.{Event, Guest, Monitor, Tick}
use Rattle.core_events.specs.declared.events.Way.{Way}
use Rattle.core_events.specs.declared.events.Way.TheVariants.{Node, Export}
use Rattle.core_events.specs.declared.commands.ExportArgs.{ExportArgs}
use Rattle.core_events.specs.declared.answers.Notice.{Notice}
use Rattle.core_events.specs.declared.answers.JobFault.TheVariants.{SourceBroken}
use Rattle.core_events.specs.declared.answers.Notice.TheVariants.{Completed, Cancelled}
use Rattle.core_events.specs.declared.refusals.Refusal.TheVariants.{DeviceFailed}
use Rattle.core_events.specs.Answers.{Reply, Refused, Answer}
use Rattle.script_model.specs.Recording.{is_drive}
use Rattle.plain_model.specs.Faults.{is_failure, is_io}
use Rattle.core_node.specs.Standing.{Shown, ShownJob, ShownView, TargetFile}

-- ---- of a request

-- a call on the file of this target failed
abbrev pub TargetFailed : Shown → World → World → List ℕ → Type 0
TargetFailed before old new name = (t : TargetFile) × Contains before.targets t × (t.name ≡ name) × FileFailed t.file old new

-- for a request to a node: one on the source's file, or, of a view, which has its target's name, on its target
abbrev pub NodeFailed : Shown → World → World → List ℕ → Type 0
NodeFailed before old new node = FileFailed before.file old new ⊎ ((is_drive node ≡ false) × TargetFailed before old new node)

abbrev pub ExportFailed : Shown → World → World → Option ExportArgs → Type 0
ExportFailed before old new None = ⊥
ExportFailed before old new (Some e) = NodeFailed before old new e.node

abbrev pub WayFailed : Shown → World → World → Way → Type 0
WayFailed before old new (Node name) = NodeFailed before old new name
WayFailed before old new (Export name) = ExportFailed before old new (find (λ (e : ExportArgs). bytes_eq name e.name) before.exports)

abbrev pub RequestFailed : Shown → World → World → Event → Type 0
RequestFailed before old new (Guest r) = WayFailed before old new r.way
RequestFailed before old new (Monitor c) = ⊥
RequestFailed before old new Tick = ⊥

-- ---- of a job or view

-- the job or view of this id has this target
abbrev pub HasTarget : Shown → List ℕ → List ℕ → Type 0
HasTarget before id target = ((j : ShownJob) × Contains before.jobs j × (j.id ≡ id) × (j.target ≡ target)) ⊎ ((v : ShownView) × Contains before.views v × (v.id ≡ id) × (v.target ≡ target))

abbrev pub ended_id : Notice → List ℕ
ended_id (Completed id total progress fault) = id
ended_id (Cancelled id total progress) = id

-- a call on its own files failed: the source's, or its target's
abbrev pub CopyFailed : Shown → World → World → List ℕ → Type 0
CopyFailed before old new id = FileFailed before.file old new ⊎ ((target : List ℕ) × HasTarget before id target × TargetFailed before old new target)

-- a device failed under an action
abbrev pub IsDeviceFailed : Reply → Type 0
IsDeviceFailed (Refused action (DeviceFailed name)) = Unit {0}
IsDeviceFailed reply = ⊥

-- the job or view ended with its source
abbrev pub IsBreakEnd : Notice → Type 0
IsBreakEnd (Completed id total progress (Some SourceBroken)) = Unit {0}
IsBreakEnd notice = ⊥

-- a refused command
abbrev pub IsRefusal : Reply → Type 0
IsRefusal (Refused action refusal) = Unit {0}
IsRefusal reply = ⊥

-- all that a core shows but for its event's number, and clusters that came free and moved into its room
abbrev pub ShowsSame : Shown → Shown → Type 0
ShowsSame before after = after ≡ record before { event = after.event; room = after.room }

pub record Causes (before after : Shown) (old new : World) (event : Event) (answer : Answer) : Type 0 where
  -- a source breaks only where a write or a sync of it failed
  pub break : before.broken ≡ None → IsSome after.broken → Rose old.faults.shared new.faults.shared × Rose (old.faults.writes before.file) (new.faults.writes before.file)
  -- on one that wasn't broken a request is answered EIO, and a job or a view fails, only where a call on a file of its own failed
  pub io : before.broken ≡ None → IsTrue (is_io answer.reply) → RequestFailed before old new event
  pub failed : (n : Notice) → Contains answer.notices n → IsTrue (is_failure n) → CopyFailed before old new (ended_id n)
  -- they end with the source only where it broke in this event, whose number it keeps
  pub broke : (n : Notice) → Contains answer.notices n → IsBreakEnd n → (before.broken ≡ None) × (after.broken ≡ Some after.event)
  -- each event has the next number, which stays at its last; a refused command changes nothing else
  pub event_is : after.event ≡ min (before.event + 1) (2 ^ 64 - 1)
  pub refused : IsRefusal answer.reply → ShowsSame before after
  -- a command is refused for a failed device only where a call failed
  pub device : IsDeviceFailed answer.reply → Rose old.faults.shared new.faults.shared
