-- One event of the machine, in its three parts, and a run.
use Rattle.std.specs.Prelude.{◌≡◌, ◌⊎◌, ℕ, ◌+◌, ◌-◌, ◌*◌, ◌≤◌, List, [], ◌∷◌, length, take, drop, true, false}
use Rattle.disk_model.specs.Files.{overlay}
use Rattle.core_events.specs.Events.{Request, Event, Guest, Monitor, Tick}
use Rattle.core_events.specs.declared.events.Work.{Work}
use Rattle.core_events.specs.declared.events.Work.TheVariants.{Read, Write, Zero, Flush, Status}
use Rattle.core_events.specs.Answers.{Answer}
use Rattle.plain_model.specs.History.{now}
use Rattle.image_model.specs.Space.{Change, store_written, freed_by_write, store_zeroed, freed_by_zero, AreEither}
use Rattle.plain_model.specs.Machine.{Machine, size_of}
use Rattle.plain_model.specs.Requests.{HasBytes, range_of}
use Rattle.plain_model.specs.Actions.{Held}
use Rattle.plain_model.specs.Outcome.{RequestEnd, Well, Untouched, Torn, Trouble, Fate, Denied, Lost, Carried, CarriedInPart, fate, bytes_of, numbered, outcome}
use Rattle.plain_model.specs.Faults.{Rise, StepFaults}

-- ---- contents: the answer, and all of the state but the space of the source

abbrev pub sector : List ℕ → ℕ → List ℕ
sector disk k = take 512 (drop (512 * k) disk)

-- what a write left that met a fault: a range as long as was asked, with each sector of the disk as before or as it would have become
pub record IsTorn (disk : List ℕ) (at : ℕ) (wanted left : List ℕ) : Type 0 where
  pub long : length left ≡ length wanted
  pub sectors : (k : ℕ) → (sector (overlay disk at left) k ≡ sector disk k) ⊎ (sector (overlay disk at left) k ≡ sector (overlay disk at wanted) k)

abbrev pub IsLeft : RequestEnd → Request → Machine → Type 0
IsLeft Well r m = Unit {0}
IsLeft Untouched r m = Unit {0}
IsLeft (Torn bytes) r m = IsTorn (now m.history) r.offset (bytes_of r r.work) bytes

abbrev pub HasLeft : Trouble → Event → Machine → Type 0
HasLeft t (Guest r) m = IsLeft t.request r m
HasLeft t (Monitor c) m = Unit {0}
HasLeft t Tick m = Unit {0}

pub record StepContents (held : List ℕ → Held) (t : Trouble) (old : Machine) (event : Event) (answer : Answer) (new : Machine) : Type 0 where
  pub torn : HasLeft t event old
  pub answer_is : answer ≡ (outcome held t event old).answer
  pub state_is : new ≡ record ((outcome held t event old).machine) { store = new.store; freed = new.freed }

-- ---- space: kinds, tables, room and what is freed

-- what a request does to the space where all goes well
abbrev pub change_by : Request → Work → Machine → Change
change_by r Read m = record { store = m.store; freed = 0 }
change_by r (Write fua) m = record { store = store_written m.store (range_of r); freed = freed_by_write m.store (range_of r) }
change_by r (Zero fua true) m = record { store = store_written m.store (range_of r); freed = freed_by_write m.store (range_of r) }
change_by r (Zero fua false) m = record { store = store_zeroed (size_of m) m.store (range_of r); freed = freed_by_zero (size_of m) m.store (range_of r) }
change_by r Flush m = record { store = m.store; freed = 0 }
change_by r (Status context one) m = record { store = m.store; freed = 0 }

abbrev pub no_change : Machine → Change
no_change m = record { store = m.store; freed = 0 }

-- the change was made, and then some freed clusters became room again
pub record IsChanged (old : Machine) (change : Change) (new : Machine) : Type 0 where
  pub moved : ℕ
  pub store_is : new.store ≡ record (change.store) { room = change.store.room + moved }
  pub freed_is : new.freed + moved ≡ old.freed + change.freed

-- A part of the change was made: no more room was taken than by the whole, and no more was freed than by the whole and what was taken.
pub record IsChangedInPart (old : Machine) (change : Change) (new : Machine) : Type 0 where
  pub taken : ℕ
  pub given : ℕ
  pub moved : ℕ
  pub either : AreEither old.store change.store new.store
  pub taken_most : taken ≤ old.store.room - change.store.room
  pub given_most : given ≤ change.freed + taken
  pub room_is : new.store.room + taken ≡ old.store.room + moved
  pub freed_is : new.freed + moved ≡ old.freed + given
  pub cluster : new.store.cluster ≡ old.store.cluster
  pub kind_count : length new.store.kinds ≡ length old.store.kinds
  pub table_count : length new.store.tables ≡ length old.store.tables

abbrev pub SpaceBy : Fate → Request → Machine → Machine → Type 0
SpaceBy (Denied errno) r old new = IsChanged old (no_change old) new
SpaceBy Lost r old new = IsChanged old (no_change old) new
SpaceBy Carried r old new = IsChanged old (change_by r r.work old) new
SpaceBy (CarriedInPart bytes) r old new = IsChangedInPart old (change_by r r.work old) new

abbrev pub StepSpace : Trouble → Machine → Event → Machine → Type 0
StepSpace t old (Guest r) new = SpaceBy (fate t r (numbered old)) r old new
StepSpace t old (Monitor c) new = IsChanged old (no_change old) new
StepSpace t old Tick new = IsChanged old (no_change old) new

-- ---- a step

-- the event has what its kind brings
abbrev pub IsWhole : Event → Type 0
IsWhole (Guest r) = HasBytes r r.work
IsWhole (Monitor c) = Unit {0}
IsWhole Tick = Unit {0}

-- One event on a machine whose source has this name: what the depot held at its start and how the counts rose in it, what was
-- answered, and the machine after it. All that went wrong is one trouble.
pub record Step (source : List ℕ) (held : List ℕ → Held) (rise : Rise) (old : Machine) (event : Event) (answer : Answer) (new : Machine) : Type 0 where
  pub trouble : Trouble
  pub contents : StepContents held trouble old event answer new
  pub space : StepSpace trouble old event new
  pub faults : StepFaults source rise trouble old event answer

-- what the depot held at the start of an event, and how the counts rose in it
pub record Seen : Type 0 where
  pub held : List ℕ → Held
  pub rise : Rise

-- These events are answered one after another. After one that ended the machine no more are taken.
abbrev pub Run : List ℕ → Machine → List Seen → List Event → List Answer → Machine → Type 0
Run source old [] [] [] new = new ≡ old
Run source old (seen ∷ more) (event ∷ events) (answer ∷ answers) new =
    (old.ended ≡ false) × ((mid : Machine) × Step source seen.held seen.rise old event answer mid × Run source mid more events answers new)
Run source old [] (event ∷ events) answers new = ⊥
Run source old [] [] (answer ∷ answers) new = ⊥
Run source old (seen ∷ more) [] answers new = ⊥
Run source old (seen ∷ more) (event ∷ events) [] new = ⊥
