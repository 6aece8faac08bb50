-- The laws, as statements.
use Rattle.std.specs.Prelude.{◌≡◌, ◌≢◌, ℕ, ◌+◌, ◌*◌, ◌/◌, ◌<◌, ◌≤◌, List, [], ◌∷◌, length, map, Bool, Option, Some, None, Ok, if◌then◌else◌, slice_index, All, IsTrue, Contains}
use Rattle.span_algebra.specs.declared.points.Point.{Point}
use Rattle.bitmap_model.specs.Granules.{IsAllowed, is_in}
use Rattle.bitmap_model.specs.Bitmap.{StoredBitmap, restored}
use Rattle.bitmap_model.specs.Bitmaps.{most_bitmaps, AreApart, IsShapedEntry}
use Rattle.bitmap_model.specs.Copies.{CopyTruth}
use Rattle.core_events.specs.Events.{Request, Event, Guest, Monitor}
use Rattle.core_events.specs.declared.commands.Action.{Action}
use Rattle.core_events.specs.declared.commands.Command.{Command}
use Rattle.core_events.specs.declared.commands.Command.TheVariants.{Transaction}
use Rattle.core_events.specs.declared.answers.Errno.{Errno}
use Rattle.core_events.specs.declared.answers.Errno.TheVariants.{Io}
use Rattle.core_events.specs.declared.refusals.Refusal.{Refusal}
use Rattle.core_events.specs.declared.refusals.Refusal.TheVariants.{OutOfMemory}
use Rattle.core_events.specs.Answers.{Reply, Done, Fault, Refused, Answer}
use Rattle.plain_model.specs.History.{History, Entry, Reached, IsHistory, now, disk_at, with_entry, timeline_of}
use Rattle.image_model.specs.Space.{IsShapedStore}
use Rattle.plain_model.specs.Jobs.{Job, unit_of, next_unit}
use Rattle.plain_model.specs.Machine.{Machine, Opening, opened, size_of, last_number, next_point}
use Rattle.plain_model.specs.Ending.{closed}
use Rattle.plain_model.specs.Closing.{lasting, stored_by}
use Rattle.plain_model.specs.Actions.{Held, Absent, Faulty, Target}
use Rattle.plain_model.specs.Outcome.{Trouble, no_trouble, Outcome, Denied, fate, numbered, outcome}
use Rattle.plain_model.specs.Faults.{Rise}
use Rattle.plain_model.specs.Step.{Step, StepSpace, IsWhole}
use Rattle.plain_model.specs.Records.{RecordIsTrue, IsChain, overlay_of, refused_file}
use Rattle.image_model.specs.Backups.{Backup, Sealed}
use Rattle.plain_model.specs.Lawful.{IsTrueEntry, IsOfEpoch, Kept, settle}
use Rattle.plain_model.specs.Sound.{IsSound}

-- ---- soundness

-- what a depot holds under a name is in shape
abbrev pub IsFit : Held → Type 0
IsFit Absent = Unit {0}
IsFit (Faulty reason) = Unit {0}
IsFit (Target blank size store) = IsShapedStore size store × IsAllowed size store.cluster

-- each event takes a sound state to a sound state
abbrev pub SoundnessIsKept : Type 0
SoundnessIsKept = (source : List ℕ) (held : List ℕ → Held) (rise : Rise) (old : Machine) (event : Event) (answer : Answer) (new : Machine)
    → IsSound old → IsWhole event → ((name : List ℕ) → IsFit (held name)) → Step source held rise old event answer new → IsSound new

-- what an opening finds is in shape and true for the history
pub record IsLawfulOpening (h : History) (o : Opening) : Type 0 where
  pub shapes : All (IsShapedEntry (length h.start)) o.entries
  pub apart : AreApart (map restored o.entries)
  pub few : length o.entries ≤ most_bitmaps
  pub truths : All (λ (e : StoredBitmap). IsTrue e.trusted → IsTrueEntry h e) o.entries
  pub epochs : All (IsOfEpoch o.epoch) (timeline_of h).entries
  pub store_shape : IsShapedStore (length h.start) o.store

-- a session begins in a sound state
abbrev pub OpeningIsSound : Type 0
OpeningIsSound = (h : History) (o : Opening) → IsHistory h → IsLawfulOpening h o → IsSound (opened h o)

-- a closing leaves a sound state
abbrev pub ClosingIsSound : Type 0
ClosingIsSound = (m : Machine) → IsSound m → IsSound (closed m).machine

-- what a closing stores is what the next opening restores, and it is true for the history
pub record StoresLasting (m : Machine) : Type 0 where
  pub same : map restored (stored_by m) ≡ lasting m
  pub truths : All (IsTrueEntry m.history) (stored_by m)

abbrev pub ClosingStoresLasting : Type 0
ClosingStoresLasting = (m : Machine) → IsSound m → StoresLasting m

-- ---- answers

-- no count rose
pub record IsQuiet (rise : Rise) : Type 0 where
  pub shared : rise.shared ≡ 0
  pub reads : (name : List ℕ) → rise.reads name ≡ 0
  pub writes : (name : List ℕ) → rise.writes name ≡ 0

-- the event went as where nothing goes wrong: its answer, the next state, and the space of the source up to clusters that became room
pub record WentWell (held : List ℕ → Held) (old : Machine) (event : Event) (answer : Answer) (new : Machine) : Type 0 where
  pub answer_is : answer ≡ (outcome held no_trouble event old).answer
  pub state_is : new ≡ record ((outcome held no_trouble event old).machine) { store = new.store; freed = new.freed }
  pub space_is : StepSpace no_trouble old event new

-- a command was refused for want of memory
abbrev pub IsForMemory : Answer → Type 0
IsForMemory answer = (number : Option ℕ) × (answer.reply ≡ Refused number OutOfMemory)

-- Where no fault rises and nothing is refused for want of memory, the answer is a function of state and event, and so is the next state up
-- to freed clusters that became room.
abbrev pub QuietAnswersAreOwed : Type 0
QuietAnswersAreOwed = (source : List ℕ) (held : List ℕ → Held) (rise : Rise) (old : Machine) (event : Event) (answer : Answer) (new : Machine)
    → Step source held rise old event answer new → IsQuiet rise → (IsForMemory answer → ⊥) → WentWell held old event answer new

-- an event was answered so, without notices, and the machine is as it was but for the event's number
pub record IsUnmoved (m : Machine) (reply : Reply) (o : Outcome) : Type 0 where
  pub reply_is : o.answer.reply ≡ reply
  pub notices_are : o.answer.notices ≡ []
  pub machine_is : o.machine ≡ numbered m

-- a request that is denied, for want of room too, changes nothing, whatever went wrong
abbrev pub DenialsChangeNothing : Type 0
DenialsChangeNothing = (held : List ℕ → Held) (t : Trouble) (r : Request) (m : Machine) (errno : Errno) → fate t r (numbered m) ≡ Denied errno
    → IsUnmoved m (Fault errno) (outcome held t (Guest r) m)

-- a command that is refused changes nothing, whatever went wrong
abbrev pub RefusalsChangeNothing : Type 0
RefusalsChangeNothing = (held : List ℕ → Held) (t : Trouble) (c : Command) (m : Machine) (number : Option ℕ) (refusal : Refusal)
    → (outcome held t (Monitor c) m).answer.reply ≡ Refused number refusal → IsUnmoved m (Refused number refusal) (outcome held t (Monitor c) m)

-- an event was answered as done, without notices, and the history has reached the next point
pub record DrawsAPoint (m : Machine) (o : Outcome) : Type 0 where
  pub reply_is : o.answer.reply ≡ Done
  pub notices_are : o.answer.notices ≡ []
  pub machine_is : o.machine ≡ record (numbered m) { history = with_entry m.history (Reached (next_point m)); serial = m.serial + 1 }

-- a transaction without actions draws a point, whatever went wrong, unless no serial is left
abbrev pub EmptyTransactionDrawsAPoint : Type 0
EmptyTransactionDrawsAPoint = (held : List ℕ → Held) (t : Trouble) (m : Machine) → m.serial ≢ last_number → DrawsAPoint m (outcome held t (Monitor (Transaction [])) m)

-- where memory is wanting for a transaction, one of its actions is named
abbrev pub OutOfMemoryNumbersAnAction : Type 0
OutOfMemoryNumbersAnAction = (held : List ℕ → Held) (t : Trouble) (actions : List Action) (m : Machine) (number : Option ℕ)
    → (outcome held t (Monitor (Transaction actions)) m).answer.reply ≡ Refused number OutOfMemory → (k : ℕ) × (number ≡ Some k) × (k < length actions)

-- a request was answered with EIO, and no job or view is left
pub record AnswersIo (event : Event) (o : Outcome) : Type 0 where
  pub request : Request
  pub event_is : event ≡ Guest request
  pub reply_is : o.answer.reply ≡ Fault Io
  pub no_jobs : o.machine.jobs ≡ []
  pub no_views : o.machine.views ≡ []

-- where the source breaks, it does so in a request, which is answered with EIO
abbrev pub BreakAnswersIo : Type 0
BreakAnswersIo = (held : List ℕ → Held) (t : Trouble) (event : Event) (m : Machine) (n : ℕ) → m.broken ≡ None → (outcome held t event m).machine.broken ≡ Some n
    → AnswersIo event (outcome held t event m)

-- ---- records and chains

-- a record that is true for a history is true for it as it goes on, by a write or by a point
abbrev pub RecordStaysTrue : Type 0
RecordStaysTrue = (h : History) (entry : Entry) (b : Backup) → RecordIsTrue h b → RecordIsTrue (with_entry h entry) b

-- where the records of a chain are true, what it gives is the disk at the last point
abbrev pub ChainGivesDisk : Type 0
ChainGivesDisk = (h : History) (backups : List Backup) (p : Point) → IsHistory h → IsChain backups p → All (RecordIsTrue h) backups
    → overlay_of (length h.start) backups ≡ disk_at h p

-- files that are backups are taken exactly where they are a chain
pub record TakenAreChains (backups : List Backup) : Type 0 where
  pub taken : backups ≢ [] → refused_file (map Ok backups) ≡ None → (p : Point) × IsChain backups p
  pub chains : (p : Point) → IsChain backups p → refused_file (map Ok backups) ≡ None

abbrev pub TakenExactlyAsChains : Type 0
TakenExactlyAsChains = (backups : List Backup) → TakenAreChains backups

-- a target has what a job copied, as the disk was at its point
pub record HoldsCopies (h : History) (j : Job) (present : List Bool) (content : List ℕ) : Type 0 where
  pub exactly : present ≡ j.copied
  pub reads : (x : ℕ) → x < length h.start → IsTrue (is_in j.copied (x / unit_of j)) → slice_index content x ≡ slice_index (disk_at h j.point) x

-- the backup that a job's seal makes of its target
abbrev pub sealed_by : List ℕ → ℕ → List ℕ → Job → Backup
sealed_by id size content j = record { id = id; size = size; unit = unit_of j; state = Sealed j.base j.point; present = j.copied; content = content }

-- the record is true, and exactly the units of the scope are present
pub record Completes (m : Machine) (j : Job) (id : List ℕ) (present : List Bool) (content : List ℕ) : Type 0 where
  pub holds : RecordIsTrue m.history (sealed_by id (size_of m) content j)
  pub exactly : present ≡ j.scope

-- where nothing of a job is missing, its record is true
abbrev pub CompletedRecordIsTrue : Type 0
CompletedRecordIsTrue = (m : Machine) (j : Job) (id content : List ℕ) (present : List Bool) → IsSound m → Contains m.jobs j → next_unit j ≡ None
    → HoldsCopies m.history j present content → Completes m j id present content

-- where a copy is true, each byte of the point is the copy's where its unit was copied, and else the disk's
abbrev pub CopiesReadAsPoint : Type 0
CopiesReadAsPoint = (unit : ℕ) (scope copied present : List Bool) (at_point disk copy : List ℕ) (x : ℕ) → CopyTruth unit scope copied at_point disk present copy
    → x < length at_point → IsTrue (is_in scope (x / unit)) → (if is_in copied (x / unit) then slice_index copy x else slice_index disk x) ≡ slice_index at_point x

-- ---- settling

-- the disk is as long as that of the history, in whole sectors
pub record IsLikeDisk (h : History) (disk : List ℕ) : Type 0 where
  pub long : length disk ≡ length h.start
  pub whole : (n : ℕ) × (length disk ≡ n * 512)

-- the settled history leads to the disk, is a history, and keeps true records true
pub record SettlesTo (h : History) (disk : List ℕ) : Type 0 where
  pub leads : now (settle h disk) ≡ disk
  pub is_history : IsHistory (settle h disk)
  pub records : (b : Backup) → RecordIsTrue h b → RecordIsTrue (settle h disk) b

abbrev pub SettlingLeadsToDisk : Type 0
SettlingLeadsToDisk = (h : History) (disk : List ℕ) → IsHistory h → IsLikeDisk h disk → SettlesTo h disk

-- a history whose disk is there already has nothing to settle
abbrev pub NothingToSettle : Type 0
NothingToSettle = (h : History) → settle h (now h) ≡ h

-- ---- what a crash keeps

-- after a sync that was answered a crash leaves the disk itself
abbrev pub LastDiskIsKept : Type 0
LastDiskIsKept = (n : ℕ) (last disk : List ℕ) → length last ≡ n * 512 → Kept (last ∷ []) disk → disk ≡ last
