-- How many failures an event may show, and to which files each is tied.
use Rattle.std.specs.Prelude.{◌≡◌, ℕ, ◌+◌, ◌<◌, ◌≤◌, List, count_by, Bool, true, false, ◌&&◌, Some, None, is_none, if◌then◌else◌, IsTrue, ◌⊎◌}
use Rattle.core_events.specs.Events.{Event, Guest, Monitor, Tick}
use Rattle.core_events.specs.declared.answers.Errno.TheVariants.{Io}
use Rattle.core_events.specs.declared.answers.Errno.{Errno}
use Rattle.core_events.specs.declared.answers.Errno.TheVariants as errno
use Rattle.core_events.specs.declared.answers.JobFault.TheVariants.{Failed, NoRoom, SourceBroken}
use Rattle.core_events.specs.declared.answers.Notice.{Notice}
use Rattle.core_events.specs.declared.answers.Notice.TheVariants.{Completed, Cancelled}
use Rattle.core_events.specs.Answers.{Reply, Done, Content, Flags, Fault, Jobs, Nodes, Refused, Answer}
use Rattle.plain_model.specs.Jobs.{Job}
use Rattle.plain_model.specs.Machine.{Machine, runners, job_of}
use Rattle.plain_model.specs.Requests.{Place, Drive, Live, Gone, Nowhere, place_of}
use Rattle.plain_model.specs.Outcome.{RequestEnd, Well, Untouched, Torn, Trouble, fate, breaks_by, numbered}

-- how far the shared count of faults rose in an event, and each file's counts of failed reads and failed writes
pub record Rise : Type 0 where
  pub shared : ℕ
  pub reads : List ℕ → ℕ
  pub writes : List ℕ → ℕ

-- a call on the file of this name failed
abbrev pub HasFailed : Rise → List ℕ → Type 0
HasFailed rise file = 0 < rise.reads file + rise.writes file

-- ---- how many

abbrev pub is_failure : Notice → Bool
is_failure (Completed job n at (Some Failed)) = true
is_failure (Completed job n at (Some NoRoom)) = false
is_failure (Completed job n at (Some SourceBroken)) = false
is_failure (Completed job n at None) = false
is_failure (Cancelled job n at) = false

abbrev pub is_io_errno : Errno → Bool
is_io_errno errno.Perm = false
is_io_errno Io = true
is_io_errno errno.NoMemory = false
is_io_errno errno.Invalid = false
is_io_errno errno.NoSpace = false
is_io_errno errno.Shutdown = false

abbrev pub is_io : Reply → Bool
is_io Done = false
is_io (Content bytes) = false
is_io (Flags runs) = false
is_io (Fault e) = is_io_errno e
is_io (Jobs jobs) = false
is_io (Nodes nodes) = false
is_io (Refused action refusal) = false

-- No more jobs and views end with a failure than the shared count rose. One more is counted for a request that is answered with EIO on a
-- source that wasn't broken before, whether it breaks in this event or not.
abbrev pub IsBounded : Rise → Machine → Answer → Type 0
IsBounded rise old answer = count_by is_failure answer.notices + (if is_none old.broken && is_io answer.reply then 1 else 0) ≤ rise.shared

-- ---- of which files

-- a fault of a request is one of the source's file, or on a view's way of its target's
abbrev pub IsTiedAt : Rise → List ℕ → Place → Type 0
IsTiedAt rise source Drive = HasFailed rise source
IsTiedAt rise source (Live job) = HasFailed rise source ⊎ HasFailed rise job.target
IsTiedAt rise source (Gone event) = ⊥
IsTiedAt rise source Nowhere = ⊥

abbrev pub is_well : RequestEnd → Bool
is_well Well = true
is_well Untouched = false
is_well (Torn bytes) = false

abbrev pub IsRequestTied : Rise → List ℕ → Trouble → Machine → Event → Type 0
IsRequestTied rise source t old (Guest r) = is_well t.request ≡ false → IsTiedAt rise source (place_of r.way old)
IsRequestTied rise source t old (Monitor c) = Unit {0}
IsRequestTied rise source t old Tick = Unit {0}

-- a fault of a job or view is one of the source's file or its target's
abbrev pub AreCopiesTied : Rise → List ℕ → Trouble → Machine → Type 0
AreCopiesTied rise source t old =
    (id : List ℕ) (n : ℕ) (j : Job) → t.failing id ≡ Some n → job_of id (runners old) ≡ Some j → HasFailed rise source ⊎ HasFailed rise j.target

-- a source breaks only by a failed write or sync of its own
abbrev pub IsBreakTied : Rise → List ℕ → Trouble → Machine → Event → Type 0
IsBreakTied rise source t old (Guest r) = IsTrue (breaks_by (fate t r (numbered old)) t r.work) → 0 < rise.writes source
IsBreakTied rise source t old (Monitor c) = Unit {0}
IsBreakTied rise source t old Tick = Unit {0}

-- the faults of one event
pub record StepFaults (source : List ℕ) (rise : Rise) (t : Trouble) (old : Machine) (event : Event) (answer : Answer) : Type 0 where
  pub bound : IsBounded rise old answer
  pub request : IsRequestTied rise source t old event
  pub copies : AreCopiesTied rise source t old
  pub break : IsBreakTied rise source t old event
  -- a target that couldn't be read raised the count
  pub starts : (name : List ℕ) → IsTrue (t.hindrance.unread name) → 0 < rise.shared
