-- What the promises refuse, as statements.
use Rattle.std.specs.Prelude.{◌≡◌, ℕ, List, [], length, Bool, ◌&&◌, Some, IsTrue, Contains, bytes_eq}
use Rattle.std.specs.List.{list_any}
use Rattle.disk_model.specs.Files.{IsOutcome}
use Rattle.disk_model.specs.World.{World, versions, Runs, only_file, Holds}
use Rattle.span_algebra.specs.declared.points.Point.{Point}
use Rattle.span_algebra.specs.declared.spans.Base.{Base}
use Rattle.bitmap_model.specs.Bitmap.{BitmapState, StoredBitmap, restored}
use Rattle.core_events.specs.Events.{Event}
use Rattle.core_events.specs.Answers.{Answer}
use Rattle.qc_layout.specs.Room.{HasRoom}
use Rattle.qc_layout.specs.Directory.{stored_in}
use Rattle.plain_model.specs.History.{History, IsHistory}
use Rattle.image_model.specs.Space.{Store}
use Rattle.plain_model.specs.Closing.{stored_by}
use Rattle.plain_model.specs.Records.{StateHolds}
use Rattle.image_model.specs.Backups.{Backup, Sealed}
use Rattle.core_node.specs.Files.{Reading, IsLawfulTarget}
use Rattle.image_model.specs.Images.{IsSourceOf, IsBackupFile, IsBackupOf}
use Rattle.image_model.specs.Refusals.{FileFault, EpochSpent, IsSourceFault}
use Rattle.core_node.specs.Standing.{Shown}
use Rattle.core_node.specs.Rest.{Directory, State, Allows, unused, IsReady, IsSafe}
use Rattle.core_node.specs.Step.{NodeSteps, IsSealOf}
use Rattle.core_node.specs.Ends.{Opened, Closed}

-- ---- files

-- no file is both a source and a backup
abbrev pub OneKind : Type 0
OneKind = (file disk id bytes : List ℕ) (epoch : ℕ) (store other : Store) → IsSourceOf file disk id epoch store → IsBackupFile file bytes other → ⊥

-- what dropped a bitmap that each allowed directory stores is not safe
abbrev pub DroppedIsNotSafe : Type 0
DroppedIsNotSafe = (allows : List Directory) (id : List ℕ) (h : History) (disks : List (List ℕ)) (file : List ℕ) (e : StoredBitmap)
    → ((d : Directory) → Allows allows d → Contains d.entries e) → (Contains (stored_in file) e → ⊥) → IsSafe allows id h disks file → ⊥

-- an image that is refused isn't ready for any history, unless its last epoch is used
abbrev pub RefusedIsNotReady : Type 0
RefusedIsNotReady = (allows : List Directory) (id : List ℕ) (h : History) (file : List ℕ) (fault : FileFault) → IsSourceFault file fault → IsReady allows id h file → fault ≡ EpochSpent

-- ---- openings

-- A core was opened on an image that is ready for a history.
pub record OpensReady (allows : List Directory) (file : ℕ) (shown : Shown) (keeps : State → Type 0) (id : List ℕ) (h : History) (disks : List (List ℕ))
    (old new : World) : Type 0 where
  pub opened : Opened file shown keeps old new
  pub run : Runs (only_file file) old new
  pub told : IsTrue old.tells
  pub found : old.found (old.named file) ≡ Some file
  pub history_is : IsHistory h
  pub holds : Holds file (IsReady allows id h) (IsSafe allows id h disks) old

-- it shows the disk's id
abbrev pub OpenedShowsId : {Core : Type 0} → (Core → Shown) → (Core → World → State → Type 0) → Type 0
OpenedShowsId {Core} shown keeps = (core : Core) (allows : List Directory) (file : ℕ) (id : List ℕ) (h : History) (disks : List (List ℕ)) (old new : World)
    → OpensReady allows file (shown core) (keeps core new) id h disks old new → (shown core).id ≡ id

-- each bitmap that was stored it has, and the image stores it still, in use
abbrev pub OpenedHasBitmaps : {Core : Type 0} → (Core → Shown) → (Core → World → State → Type 0) → Type 0
OpenedHasBitmaps {Core} shown keeps = (core : Core) (allows : List Directory) (file : ℕ) (id : List ℕ) (h : History) (disks : List (List ℕ)) (old new : World) (e : StoredBitmap)
    → OpensReady allows file (shown core) (keeps core new) id h disks old new → Contains (stored_in (old.seen file)) e
    → Contains (shown core).bitmaps (restored e) × Contains (stored_in (new.seen file)) (unused e)

-- where none is stored it has the image's room
abbrev pub OpenedHasRoom : {Core : Type 0} → (Core → Shown) → (Core → World → State → Type 0) → Type 0
OpenedHasRoom {Core} shown keeps = (core : Core) (allows : List Directory) (file : ℕ) (id : List ℕ) (h : History) (disks : List (List ℕ)) (old new : World)
    → OpensReady allows file (shown core) (keeps core new) id h disks old new → stored_in (old.seen file) ≡ [] → HasRoom (old.seen file) (shown core).room

-- and it knows of a state
abbrev pub OpenedKnows : {Core : Type 0} → (Core → Shown) → (Core → World → State → Type 0) → Type 0
OpenedKnows {Core} shown keeps = (core : Core) (allows : List Directory) (file : ℕ) (id : List ℕ) (h : History) (disks : List (List ℕ)) (old new : World)
    → OpensReady allows file (shown core) (keeps core new) id h disks old new → (s : State) × keeps core new s

-- ---- events

-- a core that knew of a state knows of one after each event
abbrev pub StepsKnow : {Core : Type 0} → Reading → (Core → Shown) → (Core → World → State → Type 0) → Type 0
StepsKnow {Core} reading shown keeps = (before after : Core) (old new : World) (event : Event) (answer : Answer) (s : State)
    → NodeSteps reading (shown before) (keeps before old) (keeps after new) old new event answer → keeps before old s → (next : State) × keeps after new next

-- what a lawful target reads as sealed after an event says a true thing of the disk whose id it carries, whatever its job came to
abbrev pub SealsAreTrue : {Core : Type 0} → Reading → (Core → Shown) → (Core → World → State → Type 0) → Type 0
SealsAreTrue {Core} reading shown keeps = (before after : Core) (old new : World) (event : Event) (answer : Answer) (s : State) (f : ℕ) (b : Backup) (base : Base) (p : Point)
    → NodeSteps reading (shown before) (keeps before old) (keeps after new) old new event answer → keeps before old s → IsTrue new.tells
    → Holds f (IsLawfulTarget (shown before).id s.machine.history) (IsLawfulTarget (shown before).id s.machine.history) old
    → IsBackupOf (new.seen f) b → length b.content ≡ b.size → b.state ≡ Sealed base p → b.id ≡ (shown before).id
    → (next : State) × keeps after new next × StateHolds next.machine.history b (Sealed base p)

-- a file that reads as sealed after an event, and wasn't so before it, is the target of a job that ended at its seal: no other end seals one
abbrev pub SealsComeAtEnds : {Core : Type 0} → Reading → (Core → Shown) → (Core → World → State → Type 0) → Type 0
SealsComeAtEnds {Core} reading shown keeps = (before after : Core) (old new : World) (event : Event) (answer : Answer) (s : State) (f : ℕ) (b : Backup) (base : Base) (p : Point)
    → NodeSteps reading (shown before) (keeps before old) (keeps after new) old new event answer → keeps before old s → b.state ≡ Sealed base p
    → IsBackupOf (new.seen f) b → (IsBackupOf (old.seen f) b → ⊥) → IsSealOf (shown before).id s.machine new answer f (new.seen f)

-- ---- closings

abbrev pub is_persistent : List ℕ → BitmapState → Bool
is_persistent name b = bytes_eq name b.name && b.persistent

abbrev pub is_entry_of : List ℕ → StoredBitmap → Bool
is_entry_of name e = bytes_eq name e.name

-- one that was answered Ok stores each persistent bitmap
abbrev pub ClosedStoresBitmaps : Type 0
ClosedStoresBitmaps = (file : ℕ) (id : List ℕ) (s : State) (old new : World) (answer : Answer) (name : List ℕ) → Closed file id s old new answer
    → IsTrue (list_any (is_persistent name) s.machine.bitmaps) → IsTrue (list_any (is_entry_of name) (stored_in (new.seen file)))

-- and after a closing that was answered Ok, of a state with a lasting bitmap, no crash leaves an image that stores none
abbrev pub ClosedKeepsBitmaps : Type 0
ClosedKeepsBitmaps = (file : ℕ) (id : List ℕ) (s : State) (old new : World) (answer : Answer) (c : List ℕ) → Closed file id s old new answer → IsOutcome (versions new file) c
    → (stored_by s.machine ≡ [] → ⊥) → stored_in c ≡ [] → ⊥
