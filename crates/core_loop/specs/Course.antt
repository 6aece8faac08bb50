-- How a session went: the state after each event, the world at it, and what is to be printed by then.
use Rattle.std.specs.Prelude.{◌≡◌, ◌⊎◌, ℕ, suc, ◌-◌, ◌^◌, ◌<◌, ◌≤◌, min, List, [], ◌∷◌, ◌++◌, length, map, Bool, true, false, IsTrue, Option, Contains}
use Rattle.disk_model.specs.World.{World, Parts, Runs, EachNow, EachSince, Leads, IsLeftAt}
use Rattle.span_algebra.specs.declared.points.Point.{Point}
use Rattle.span_algebra.specs.declared.spans.Base.{Base}
use Rattle.core_events.specs.Events.{Event}
use Rattle.core_events.specs.Answers.{Answer}
use Rattle.core_events.specs.declared.infos.ExportInfo.{ExportInfo}
use Rattle.qc_layout.specs.Disks.{bits_of}
use Rattle.image_model.specs.Backups.{Backup, Sealed}
use Rattle.image_model.specs.Images.{IsBackupOf}
use Rattle.plain_model.specs.History.{IsHistory, now}
use Rattle.plain_model.specs.Machine.{size_of}
use Rattle.plain_model.specs.Queries.{export_info}
use Rattle.plain_model.specs.Step.{Seen, Step}
use Rattle.core_node.specs.Files.{Reading, AreHeld}
use Rattle.core_node.specs.Standing.{Shown, StandsFor}
use Rattle.core_node.specs.Touches.{SameSource, IsBegunOn, works_on}
use Rattle.core_node.specs.Causes.{Causes}
use Rattle.core_node.specs.Rest.{Files, State, LeftIn}
use Rattle.core_node.specs.Step.{IsRise, HasHead, HasHeadBut, HasRecordAt, IsSealOf, may_land, kept_after, during}

-- ---- parts

-- calls that print, send and take what was sent
abbrev pub any_talk : Parts
any_talk = record { files = λ f. ⊥; reads = λ f. ⊥; names = λ name. ⊥; text = Unit {0}; wire = Unit {0} }

-- these, and calls on files of its own, by their numbers
abbrev pub talk_with : (ℕ → Type 0) → Parts
talk_with own = record { files = own; reads = own; names = λ name. ⊥; text = Unit {0}; wire = Unit {0} }

-- these, and calls that read any files
abbrev pub reads_and_talk : (ℕ → Type 0) → Parts
reads_and_talk own = record { files = own; reads = λ f. Unit {0}; names = λ name. ⊥; text = Unit {0}; wire = Unit {0} }

-- one of these events begins a backup on the file of this number
abbrev pub AreBegunOn : World → List Event → ℕ → Type 0
AreBegunOn w events f = (event : Event) × Contains events event × IsBegunOn w event f

-- Calls of a run of events: on the source, on these targets and those on which the events begin backups, and on files of its giver's own.
abbrev pub run_parts : ℕ → (ℕ → Type 0) → (ℕ → Type 0) → List Event → World → Parts
run_parts source targets own events w = record {
  files = λ f. (f ≡ source) ⊎ (targets f ⊎ (own f ⊎ AreBegunOn w events f));
  reads = λ f. (f ≡ source) ⊎ (targets f ⊎ (own f ⊎ AreBegunOn w events f));
  names = λ name. ⊥;
  text = Unit {0};
  wire = Unit {0};
}

-- ---- a course

-- an event that was given, what was printed before it, since the answer to the one before it, and how its answer is told: by its number
pub record Given : Type 0 where
  pub said : List ℕ
  pub event : Event
  pub tell : ℕ → Answer → List ℕ

-- what its giver was shown and told: the exports, at each look for an event, and the answers, with whether telling it ended well
pub data Heard : Type 0 where
  Exports : (exports : List ExportInfo) → Heard
  Answered : (answer : Answer) (well : Bool) → Heard

abbrev pub asked : List Given → List Event
asked given = map (λ (g : Given). g.event) given

-- these events, with nothing said before any, whose answers have this text
abbrev pub given_unsaid : (ℕ → Event → Answer → List ℕ) → Event → Given
given_unsaid text event = record { said = []; event = event; tell = λ number answer. text number event answer }

abbrev pub unsaid : (ℕ → Event → Answer → List ℕ) → List Event → List Given
unsaid text events = map (given_unsaid text) events

-- A moment between two events, before the answer to the first of them is told: the state, what the core shows, the world, what is to be printed before the
-- next event, and the number of the event before it, which stays at its last value.
pub record Cut : Type 0 where
  pub state : State
  pub shown : Shown
  pub world : World
  pub told : List ℕ
  pub number : ℕ

-- what was given, the world at its start, what it met, what it was answered, and the cut after it
pub record Move : Type 0 where
  pub given : Given
  pub start : World
  pub seen : Seen
  pub answer : Answer
  pub cut : Cut

abbrev pub last_number : ℕ
last_number = 2 ^ 64 - 1

-- The event was a step of the machine whose source has this name. Between the cut before it and its start no file is touched but those of what gives the events, and all
-- answers before it and what is said besides are printed; within it nothing is printed. What the depot held is what the reading of files gives at its start, and
-- counts rose from its start to its end. It works on files as an event may, and keeps the first clusters of images.
pub record IsMove (reading : Reading) (own : ℕ → Type 0) (source : List ℕ) (from : Cut) (move : Move) : Type 0 where
  pub between : Runs (talk_with own) from.world move.start
  pub printed : IsTrue from.world.prints → move.start.printed ≡ from.told ++ move.given.said
  pub work : Runs (works_on from.shown move.cut.shown move.cut.world move.given.event move.answer) move.start move.cut.world
  pub held_is : AreHeld reading move.start move.given.event move.seen.held
  pub rises : IsRise move.start move.cut.world move.seen.rise
  pub causes : Causes from.shown move.cut.shown move.start move.cut.world move.given.event move.answer
  pub running : from.state.machine.ended ≡ false
  pub step : Step source move.seen.held move.seen.rise from.state.machine move.given.event move.answer move.cut.state.machine
  pub disks_are : move.cut.state.disks ≡ kept_after from.state.disks move.given.event move.answer (now move.cut.state.machine.history)
  pub entries_are : move.cut.state.entries ≡ from.state.entries
  pub stands : StandsFor move.cut.shown move.cut.world move.cut.state.machine
  pub source_stays : SameSource from.shown move.cut.shown
  pub number_is : move.cut.number ≡ min (suc from.number) last_number
  pub told_is : move.cut.told ≡ from.told ++ (move.given.said ++ move.given.tell move.cut.number move.answer)
  pub history_is : IsHistory move.cut.state.machine.history
  -- what images keep in it, as reads give them and in each crash
  pub source_head : (start : List ℕ) → length start ≤ from.state.machine.store.cluster
      → Leads from.shown.file (HasHead start) (HasHead start) (HasHead start) (HasHead start) (HasHead start) move.start move.cut.world
  pub target_heads : (f at : ℕ) (start : List ℕ) → HasRecordAt at (move.start.seen f) → length start ≤ 2 ^ bits_of (move.start.seen f)
      → Leads f (HasHeadBut at start) (HasHeadBut at start) (HasHeadBut at start) (HasHeadBut at start) (HasHeadBut at start) move.start move.cut.world
  -- a target is sealed by its job's seal alone
  pub seals : (f : ℕ) (b : Backup) (base : Base) (p : Point) → b.state ≡ Sealed base p → IsBackupOf (move.cut.world.seen f) b
      → IsBackupOf (move.start.seen f) b ⊎ IsSealOf from.shown.id from.state.machine move.cut.world move.answer f (move.cut.world.seen f)
  pub sealing : (f : ℕ) (b : Backup) (base : Base) (p : Point) → b.state ≡ Sealed base p → EachNow move.start f (λ c. IsBackupOf c b → ⊥)
      → EachSince move.cut.world move.start.now f (λ c. IsBackupOf c b → IsSealOf from.shown.id from.state.machine move.cut.world move.answer f c)

abbrev pub AreMoves : Reading → (ℕ → Type 0) → List ℕ → Cut → List Move → Type 0
AreMoves reading own source from [] = Unit {0}
AreMoves reading own source from (move ∷ moves) = IsMove reading own source from move × AreMoves reading own source move.cut moves

-- what was heard in them, from a cut on
abbrev pub exports_at : Cut → Heard
exports_at from = Exports (map (export_info (size_of from.state.machine)) from.state.machine.exports)

abbrev pub heard_in : Cut → List Move → List Heard
heard_in from [] = []
heard_in from (move ∷ moves) = exports_at from ∷ (Answered move.answer true ∷ heard_in move.cut moves)

-- where the last answer wasn't told
abbrev pub heard_badly : Cut → List Move → List Heard
heard_badly from [] = []
heard_badly from (move ∷ []) = exports_at from ∷ (Answered move.answer false ∷ [])
heard_badly from (move ∷ (next ∷ moves)) = exports_at from ∷ (Answered move.answer true ∷ heard_badly move.cut (next ∷ moves))

-- the cut after the last of them
abbrev pub last_cut : Cut → List Move → Cut
last_cut from [] = from
last_cut from (move ∷ moves) = last_cut move.cut moves

-- within an event counts the state before it, or, where the event may land, the state after it
abbrev pub IsWithin : Cut → Move → State → Type 0
IsWithin from move s = (s ≡ during from.state move.given.event (now move.cut.state.machine.history)) ⊎ (IsTrue (may_land move.given.event) × (s ≡ move.cut.state))

-- What a crash left at moment k is lawful for the history of the last cut before it. Within an event that is the history before the event,
-- and the write in progress may be on the disk in part, or the one after it.
abbrev pub LeftAt : Files → ℕ → (ℕ → Option (List ℕ)) → Cut → List Move → Type 0
LeftAt files k left from [] = LeftIn files from.state left
LeftAt files k left from (move ∷ moves) =
    ((k < move.cut.world.now) × ((s : State) × IsWithin from move s × LeftIn files s left))
    ⊎ ((move.cut.world.now ≤ k) × LeftAt files k left move.cut moves)

-- what was said before each, and the text of its answer
abbrev pub texts : List Move → List ℕ
texts [] = []
texts (move ∷ moves) = (move.given.said ++ move.given.tell move.cut.number move.answer) ++ texts moves

-- ---- crashes

-- At moment k this is the state that counts, with the disks that a crash then may mix.
abbrev pub StageAt : ℕ → State → Cut → List Move → Type 0
StageAt k s from [] = s ≡ from.state
StageAt k s from (move ∷ moves) =
    ((k < move.cut.world.now) × IsWithin from move s)
    ⊎ ((move.cut.world.now ≤ k) × StageAt k s move.cut moves)

-- each crash since the cut
abbrev pub CrashesAfter : Files → Cut → List Move → World → Type 0
CrashesAfter files from moves w = (k : ℕ) (left : ℕ → Option (List ℕ)) → from.world.now ≤ k → k ≤ w.now → IsLeftAt w k left → LeftAt files k left from moves
