-- What an event may touch.
use Rattle.std.specs.Prelude.{◌≡◌, ◌⊎◌, ℕ, ◌<◌, List, Bool, true, false, not, ◌&&◌, ◌||◌, nat_lt, Option, Some, None, is_none, IsTrue, All, Contains, bytes_eq}
use Rattle.std.specs.List.{list_any}
use Rattle.disk_model.specs.World.{World, Parts}
use Rattle.core_events.specs.Events.{Event, Guest, Monitor, Tick}
use Rattle.core_events.specs.declared.answers.Errno.{Errno}
use Rattle.core_events.specs.declared.answers.Errno.TheVariants.{Perm, Io, NoMemory, Invalid, NoSpace, Shutdown}
use Rattle.core_events.specs.declared.answers.JobFault.{JobFault}
use Rattle.core_events.specs.declared.answers.JobFault.TheVariants.{Failed, NoRoom, SourceBroken}
use Rattle.core_events.specs.declared.answers.Notice.{Notice}
use Rattle.core_events.specs.declared.answers.Notice.TheVariants.{Completed, Cancelled}
use Rattle.core_events.specs.Answers.{Reply, Done, Content, Flags, Fault, Jobs, Nodes, Refused, Answer}
use Rattle.plain_model.specs.Requests.{is_write, is_flush}
use Rattle.core_node.specs.Files.{event_starts_on}
use Rattle.core_node.specs.Standing.{Shown, ShownJob, ShownView, TargetFile, has_copied}

-- the source and its disk stay the same
pub record SameSource (before after : Shown) : Type 0 where
  pub file_stays : after.file ≡ before.file
  pub id_stays : after.id ≡ before.id
  pub size_stays : after.size ≡ before.size
  pub epoch_stays : after.epoch ≡ before.epoch
  pub directory_stays : after.directory ≡ before.directory

-- a new target is one into which the event begins a backup
abbrev pub AddsTargets : Shown → Shown → Event → Type 0
AddsTargets before after event = All (λ (t : TargetFile). Contains before.targets t ⊎ IsTrue (event_starts_on t.name event)) after.targets

-- for these reasons a request is denied before anything is done; for want of room clusters may move that came free
abbrev pub denies_all : Errno → Bool
denies_all Perm = true
denies_all Invalid = true
denies_all Shutdown = true
denies_all Io = false
denies_all NoMemory = false
denies_all NoSpace = false

abbrev pub is_denied : Reply → Bool
is_denied Done = false
is_denied (Content bytes) = false
is_denied (Flags runs) = false
is_denied (Fault errno) = denies_all errno
is_denied (Jobs jobs) = false
is_denied (Nodes nodes) = false
is_denied (Refused action refusal) = false

-- on a broken source nothing is written, nor for a request that is denied
abbrev pub may_write : Shown → Answer → Bool
may_write before answer = is_none before.broken && not (is_denied answer.reply)

-- requests that write or flush may write the source
abbrev pub writes_source : Event → Bool
writes_source (Guest r) = is_write r.work || is_flush r.work
writes_source (Monitor c) = false
writes_source Tick = false

-- writes and ticks copy, and ticks seal
abbrev pub writes_targets : Event → Bool
writes_targets (Guest r) = is_write r.work
writes_targets (Monitor c) = false
writes_targets Tick = true

-- the job or view of this id is there, and has copied something
abbrev pub job_has_copied : List ℕ → ShownJob → Bool
job_has_copied id j = bytes_eq id j.id && has_copied j.copied

abbrev pub view_has_copied : List ℕ → ShownView → Bool
view_has_copied id v = bytes_eq id v.id && has_copied v.copied

abbrev pub copies_after : Shown → List ℕ → Bool
copies_after after id = list_any (job_has_copied id) after.jobs || list_any (view_has_copied id) after.views

-- an end at a copy or a seal, and not with the source
abbrev pub is_own_end : Option JobFault → Bool
is_own_end None = true
is_own_end (Some Failed) = true
is_own_end (Some NoRoom) = true
is_own_end (Some SourceBroken) = false

-- the notice tells that it ended so, or after it had copied something
abbrev pub tells_of_copies : List ℕ → Notice → Bool
tells_of_copies id (Completed other total progress fault) = bytes_eq id other && (is_own_end fault || nat_lt 0 progress)
tells_of_copies id (Cancelled other total progress) = false

-- A target is written in an event that copies only where its job or view has copied something when the event is over, or ended in it.
abbrev pub works_for : Shown → Answer → List ℕ → Bool
works_for after answer id = copies_after after id || list_any (tells_of_copies id) answer.notices

abbrev pub job_works_on : Shown → Answer → List ℕ → ShownJob → Bool
job_works_on after answer target j = bytes_eq target j.target && works_for after answer j.id

abbrev pub view_works_on : Shown → Answer → List ℕ → ShownView → Bool
view_works_on after answer target v = bytes_eq target v.target && works_for after answer v.id

abbrev pub may_write_target : Shown → Shown → Event → Answer → List ℕ → Bool
may_write_target before after event answer target =
    writes_targets event && (list_any (job_works_on after answer target) before.jobs || list_any (view_works_on after answer target) before.views)

-- the file of a target that may be written
abbrev pub IsWorkedOn : Shown → Shown → Event → Answer → ℕ → Type 0
IsWorkedOn before after event answer f =
    (t : TargetFile) × Contains before.targets t × IsTrue (may_write_target before after event answer t.name) × (f ≡ t.file)

-- the file of a job's or a view's target
abbrev pub IsOfTarget : Shown → ℕ → Type 0
IsOfTarget before f = (t : TargetFile) × Contains before.targets t × (f ≡ t.file)

-- the depot gave the number for a name on which the event begins a backup
abbrev pub IsBegunOn : World → Event → ℕ → Type 0
IsBegunOn w event f = (f < w.given) × IsTrue (event_starts_on (w.named f) event)

-- Calls that write the source's file or those of targets, as the event may, and that read these and the files on which it begins a backup. A target
-- that a command names is read and not written.
abbrev pub works_on : Shown → Shown → World → Event → Answer → Parts
works_on before after new event answer = record {
  files = λ f. IsTrue (may_write before answer) × ((IsTrue (writes_source event) × (f ≡ before.file)) ⊎ IsWorkedOn before after event answer f);
  reads = λ f. (f ≡ before.file) ⊎ (IsOfTarget before f ⊎ IsBegunOn new event f);
  names = λ name. ⊥;
  text = ⊥;
  wire = ⊥;
}

-- ---- want of memory

abbrev pub is_command : Event → Bool
is_command (Guest r) = false
is_command (Monitor c) = true
is_command Tick = false
