-- What one event does to a core that knows of its files, for each state of the plain machine for which it stands.
use Rattle.std.specs.Prelude.{◌≡◌, ◌⊎◌, ℕ, ◌+◌, ◌-◌, ◌^◌, ◌<◌, ◌≤◌, List, [], ◌∷◌, ◌++◌, length, map, Bool, true, false, Option, Some, None, IsTrue, Contains, if◌then◌else◌}
use Rattle.disk_model.specs.Files.{byte, reading}
use Rattle.disk_model.specs.World.{World, EachNow, EachSince, Leads}
use Rattle.span_algebra.specs.declared.points.Point.{Point}
use Rattle.span_algebra.specs.declared.spans.Base.{Base}
use Rattle.core_events.specs.Events.{Event, Guest, Monitor, Tick}
use Rattle.core_events.specs.declared.answers.Errno.{Errno}
use Rattle.core_events.specs.Answers.{Reply, Done, Content, Flags, Fault, Jobs, Nodes, Refused, Answer}
use Rattle.core_events.specs.declared.answers.JobFault.TheVariants.{Failed}
use Rattle.qc_layout.specs.declared.header.Header.{Header}
use Rattle.qc_layout.specs.declared.header.Own.TheVariants as owns
use Rattle.qc_layout.specs.declared.header.Part.TheVariants as parts
use Rattle.qc_layout.specs.Spelling.{IsHeaderOf}
use Rattle.qc_layout.specs.Disks.{bits_of}
use Rattle.plain_model.specs.History.{now}
use Rattle.image_model.specs.Space.{Store}
use Rattle.plain_model.specs.Machine.{Machine, size_of}
use Rattle.plain_model.specs.Jobs.{Job, next_unit, completion}
use Rattle.plain_model.specs.Requests.{is_write, denial}
use Rattle.plain_model.specs.Actions.{Held}
use Rattle.plain_model.specs.Outcome.{Trouble, numbered, outcome}
use Rattle.plain_model.specs.Faults.{Rise, StepFaults}
use Rattle.plain_model.specs.Step.{StepContents, StepSpace}
use Rattle.image_model.specs.Backups.{Backup, Sealed}
use Rattle.plain_model.specs.Lawful.{disks_after}
use Rattle.plain_model.specs.Laws.{sealed_by, HoldsCopies}
use Rattle.core_node.specs.Files.{Reading, AreHeld, IsLawfulTarget}
use Rattle.image_model.specs.Images.{IsBackupOf, IsTargetOf}
use Rattle.core_node.specs.Standing.{Shown, SameNumbers, SameBitmaps, shown_view}
use Rattle.core_node.specs.Rest.{State, session_directory, IsSafe}

-- ---- how counts rose

-- a count rose by so much; where it stands at its last value now, or past it, any number may be said
abbrev pub IsRiseOf : ℕ → ℕ → ℕ → Type 0
IsRiseOf old new rise = (rise ≡ new - old) ⊎ (2 ^ 64 - 1 ≤ new)

-- of the file of a name, where it is there
abbrev pub IsRiseAt : (ℕ → ℕ) → (ℕ → ℕ) → Option ℕ → ℕ → Type 0
IsRiseAt old new None rise = rise ≡ 0
IsRiseAt old new (Some f) rise = IsRiseOf (old f) (new f) rise

pub record IsRise (old new : World) (rise : Rise) : Type 0 where
  pub shared : IsRiseOf old.faults.shared new.faults.shared rise.shared
  pub reads : (name : List ℕ) → IsRiseAt old.faults.reads new.faults.reads (old.found name) (rise.reads name)
  pub writes : (name : List ℕ) → IsRiseAt old.faults.writes new.faults.writes (old.found name) (rise.writes name)

-- ---- the disks that a crash may mix

abbrev pub is_done : Reply → Bool
is_done Done = true
is_done (Content bytes) = false
is_done (Flags runs) = false
is_done (Fault errno) = false
is_done (Jobs jobs) = false
is_done (Nodes nodes) = false
is_done (Refused action refusal) = false

-- within an event: a write in progress joins them
abbrev pub kept_during : List (List ℕ) → Event → List ℕ → List (List ℕ)
kept_during disks (Guest r) disk = if is_write r.work then disks ++ disk ∷ [] else disks
kept_during disks (Monitor c) disk = disks
kept_during disks Tick disk = disks

-- and after it: a sync that was answered leaves the last alone
abbrev pub kept_after : List (List ℕ) → Event → Answer → List ℕ → List (List ℕ)
kept_after disks (Guest r) answer disk = disks_after disks r.work (is_done answer.reply) disk
kept_after disks (Monitor c) answer disk = disks
kept_after disks Tick answer disk = disks

-- within an event that leads to this disk, history and directory are those before it
abbrev pub during : State → Event → List ℕ → State
during s event disk = record s { disks = kept_during s.disks event disk }

-- events that may reach the files before they are answered: after a crash within them either state may count
abbrev pub may_land : Event → Bool
may_land (Guest r) = false
may_land (Monitor c) = true
may_land Tick = true

-- ---- a step

-- the state after the event that had this trouble, with a space of the source
abbrev pub next_state : (List ℕ → Held) → Trouble → Event → Store → ℕ → Machine → Machine
next_state held t event store freed m = record ((outcome held t event m).machine) { store = store; freed = freed }

abbrev pub next_of : (List ℕ → Held) → Trouble → Event → Answer → Store → ℕ → State → State
next_of held t event answer store freed s = record {
  machine = next_state held t event store freed s.machine;
  disks = kept_after s.disks event answer (now (next_state held t event store freed s.machine).history);
  entries = s.entries;
}

-- the file of a target's name is the backup that the seal of this job made, as reads give it and in each crash
abbrev pub SealedIn : World → List ℕ → Machine → Job → Option ℕ → Type 0
SealedIn w id m j None = ⊥
SealedIn w id m j (Some f) = (content : List ℕ) × IsBackupOf (w.seen f) (sealed_by id (size_of m) content j)
    × EachNow w f (λ c. IsBackupOf c (sealed_by id (size_of m) content j)) × HoldsCopies m.history j j.copied content

-- no call makes a blank target of a file
abbrev pub NoNewBlanks : World → World → Type 0
NoNewBlanks old new = (f size : ℕ) (store : Store) → IsTargetOf (new.seen f) true size store → (others : ℕ) × (other : Store) × IsTargetOf (old.seen f) true others other

-- The job into this file ended in the event when nothing was missing, as it completed or as a call of its seal failed, and these bytes are the backup that its seal
-- makes. Only so is a target sealed: for want of room, with the source or by a command none is.
pub record IsSealOf (id : List ℕ) (m : Machine) (w : World) (answer : Answer) (f : ℕ) (file : List ℕ) : Type 0 where
  pub job : Job
  pub among : Contains m.jobs job
  pub target : w.found job.target ≡ Some f
  pub whole : next_unit job ≡ None
  pub ended : Contains answer.notices (completion (size_of m) None job) ⊎ Contains answer.notices (completion (size_of m) (Some Failed) job)
  pub content : List ℕ
  pub is : IsBackupOf file (sealed_by id (size_of m) content job)
  pub holds : HoldsCopies m.history job job.copied content

-- ---- first clusters

-- the file begins with these bytes
abbrev pub HasHead : List ℕ → List ℕ → Type 0
HasHead start file = reading file 0 (length start) ≡ start

-- it does, but for the record's 64 bytes at this place
abbrev pub HasHeadBut : ℕ → List ℕ → List ℕ → Type 0
HasHeadBut at start file = (i : ℕ) → i < length start → (i < at) ⊎ (at + 64 ≤ i) → byte file i ≡ byte start i

-- the file is a target, and its record stands at this place
abbrev pub HasRecordAt : ℕ → List ℕ → Type 0
HasRecordAt at file = (h : Header) × (bytes : List ℕ) × IsHeaderOf parts.Target file h × (h.own ≡ owns.Target bytes) × (h.own_at ≡ at)

-- One event. `keeps` is what the core knew of the files before it, for a state, and `keeping` what it knows after it. What went wrong, what the
-- depot held and the clusters of the source's file are the same for all these states; how many came free is counted from each state's own number.
pub record Goes (held : List ℕ → Held) (rise : Rise) (t : Trouble) (store : Store) (freed : State → ℕ) (before : Shown)
    (keeps keeping : State → Type 0) (old new : World) (event : Event) (answer : Answer) : Type 0 where
  pub contents : (s : State) → keeps s → StepContents held t s.machine event answer (next_of held t event answer store (freed s) s).machine
  pub space : (s : State) → keeps s → StepSpace t s.machine event (next_of held t event answer store (freed s) s).machine
  pub faults : (s : State) → keeps s → StepFaults (old.named before.file) rise t s.machine event answer
  -- it goes on so
  pub keeps_on : (s : State) → keeps s → keeping (next_of held t event answer store (freed s) s)
  -- each crash within the event leaves the source safe for the state before it, or, where the event may land, for the one after it
  pub crashes : (s : State) → keeps s → (let d = during s event (now (next_of held t event answer store (freed s) s).machine.history) in
      let n = next_of held t event answer store (freed s) s in
      EachSince new old.now before.file (λ c. IsSafe (session_directory d ∷ []) before.id d.machine.history d.disks c
      ⊎ (IsTrue (may_land event) × IsSafe (session_directory n ∷ []) before.id n.machine.history n.disks c)))
  -- and each backup file lawful, if it was, for both; after the event it is so for the history after it
  pub lawful : (s : State) (f : ℕ) → keeps s
      → Leads f (IsLawfulTarget before.id s.machine.history) (IsLawfulTarget before.id s.machine.history)
      (λ c. IsLawfulTarget before.id s.machine.history c × (IsTrue (may_land event) → IsLawfulTarget before.id (next_of held t event answer store (freed s) s).machine.history c))
      (IsLawfulTarget before.id (next_of held t event answer store (freed s) s).machine.history) (IsLawfulTarget before.id (next_of held t event answer store (freed s) s).machine.history) old new
  pub blanks : (s : State) → keeps s → NoNewBlanks old new
  -- the source keeps its first cluster, as reads give it and in each crash; a target keeps what of its own isn't its record
  pub source_head : (s : State) (start : List ℕ) → keeps s → length start ≤ s.machine.store.cluster
      → Leads before.file (HasHead start) (HasHead start) (HasHead start) (HasHead start) (HasHead start) old new
  pub target_heads : (s : State) (f at : ℕ) (start : List ℕ) → keeps s → HasRecordAt at (old.seen f) → length start ≤ 2 ^ bits_of (old.seen f)
      → Leads f (HasHeadBut at start) (HasHeadBut at start) (HasHeadBut at start) (HasHeadBut at start) (HasHeadBut at start) old new
  -- a job that completed has sealed its target
  pub sealed : (s : State) (j : Job) → keeps s → Contains s.machine.jobs j → Contains answer.notices (completion (size_of s.machine) None j)
      → SealedIn new before.id s.machine j (new.found j.target)
  -- a file that reads as sealed was so before, or its job's seal made it; and a crash leaves one so only where one might have left it so before, or a seal made it
  pub seals : (s : State) (f : ℕ) (b : Backup) (base : Base) (p : Point) → keeps s → b.state ≡ Sealed base p → IsBackupOf (new.seen f) b
      → IsBackupOf (old.seen f) b ⊎ IsSealOf before.id s.machine new answer f (new.seen f)
  pub sealing : (s : State) (f : ℕ) (b : Backup) (base : Base) (p : Point) → keeps s → b.state ≡ Sealed base p → EachNow old f (λ c. IsBackupOf c b → ⊥)
      → EachSince new old.now f (λ c. IsBackupOf c b → IsSealOf before.id s.machine new answer f c)
  -- and what is sealed stays so, as reads give it and in each crash
  pub stays : (s : State) (f : ℕ) (b : Backup) (base : Base) (p : Point) → keeps s → b.state ≡ Sealed base p
      → Leads f (λ c. IsBackupOf c b) (λ c. IsBackupOf c b) (λ c. IsBackupOf c b) (λ c. IsBackupOf c b) (λ c. IsBackupOf c b) old new

-- One event, where files are told.
pub record NodeSteps (reading : Reading) (before : Shown) (keeps keeping : State → Type 0) (old new : World) (event : Event) (answer : Answer) : Type 0 where
  pub held : List ℕ → Held
  pub held_are : AreHeld reading old event held
  pub rise : Rise
  pub trouble : Trouble
  pub store : Store
  pub freed : State → ℕ
  pub rises : IsRise old new rise
  pub goes : Goes held rise trouble store freed before keeps keeping old new event answer

-- ---- denials

-- A request that is denied is so on any depot, whatever files hold.
abbrev pub DeniesAs : Shown → Event → Answer → Type 0
DeniesAs before (Guest r) answer =
    (m : Machine) (errno : Errno) → SameNumbers before m → SameBitmaps before m → before.views ≡ map shown_view m.views → before.gone ≡ m.gone
    → denial r (numbered m) ≡ Some errno → answer ≡ record { reply = Fault errno; notices = [] }
DeniesAs before (Monitor c) answer = Unit {0}
DeniesAs before Tick answer = Unit {0}
