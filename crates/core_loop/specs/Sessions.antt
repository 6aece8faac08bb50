-- What has to stand before a run of events, and what it leaves.
use Rattle.std.specs.Prelude.{◌≡◌, ◌⊎◌, ℕ, ◌+◌, ◌-◌, ◌^◌, ◌<◌, ◌≤◌, List, [], ◌∷◌, ◌++◌, length, take, map, Bool, true, false, Option, Some, None, Result, Ok, Err, IsOk, IsTrue, Contains}
use Rattle.disk_model.specs.World.{World, Parts, Runs, GoesOn, SameFile, SameText, only_file, PrintsPart, EachSince, Holds, IsLeftAt, Rose, FileFailed}
use Rattle.qc_layout.specs.Directory.{stored_in}
use Rattle.core_events.specs.Events.{Event}
use Rattle.core_events.specs.Answers.{Answer}
use Rattle.plain_model.specs.History.{History, now}
use Rattle.image_model.specs.Space.{Store}
use Rattle.plain_model.specs.Jobs.{Job, completion}
use Rattle.plain_model.specs.Machine.{Machine, Opening, size_of}
use Rattle.plain_model.specs.Laws.{sealed_by, HoldsCopies}
use Rattle.core_node.specs.Files.{event_starts_on, IsLawfulTarget, Reading}
use Rattle.image_model.specs.Images.{IsBackupFile, IsTargetOf, IsBackupOf}
use Rattle.core_node.specs.Standing.{Shown, StandsFor}
use Rattle.core_node.specs.Rest.{FindsOpening, Directory, Files, State, first_state, directory_of, or_marked, in_closing, when_closed, Allows, AreLawful, LeftLawful, StaysSealed}
use Rattle.core_loop.specs.Course.{Given, Heard, Cut, Move, AreMoves, exports_at, heard_in, heard_badly, last_cut, texts, LeftAt, CrashesAfter, talk_with, reads_and_talk}
use Rattle.core_node.specs.Step.{NoNewBlanks}
use Rattle.image_model.specs.declared.refusals.CloseRefusal.{CloseRefusal}
use Rattle.image_model.specs.declared.refusals.CloseRefusal.TheVariants as unclosed
use Rattle.core_node.specs.Ends.{OpensWithin, TakesAndGives, RewritesHeader, KeepsHeader, IsHeadKnown, Closed, NotOpenedFor, NotClosedFor}
use Rattle.core_loop.specs.declared.events.Halt.{Halt}
use Rattle.core_loop.specs.declared.events.Halt.TheVariants.{Memory, Fault, Lost}
use Rattle.core_loop.specs.declared.session.Stop.{Stop}
use Rattle.core_loop.specs.declared.session.Stop.TheVariants.{NotOpened, Halted, NotClosed}

-- each file with a blank record into which the events begin a backup is among those that are spoken of
abbrev pub Covers : Files → List Event → World → Type 0
Covers files events w = (event : Event) (name : List ℕ) (f size : ℕ) (store : Store) → Contains events event → IsTrue (event_starts_on name event) → w.found name ≡ Some f
    → IsTargetOf (w.seen f) true size store → Contains files.backups f

-- the backup files are lawful for the history of this state, as reads give them and in each crash
abbrev pub BackupsHold : Files → Machine → World → Type 0
BackupsHold files m w = (f : ℕ) → Contains files.backups f → Holds f (IsLawfulTarget files.id m.history) (IsLawfulTarget files.id m.history) w

-- a node knows of the files that it stands for a state, the backup files are lawful for its history, and the events name no others
pub record Starts (files : Files) (shown : Shown) (knows : State → Type 0) (events : List Event) (s : State) (w : World) : Type 0 where
  pub file_is : files.source ≡ shown.file
  pub id_is : files.id ≡ shown.id
  pub keeps : knows s
  pub backups : BackupsHold files s.machine w
  pub covers : Covers files events w

-- the cut at which a run begins: nothing is printed yet
abbrev pub start_cut : State → Shown → World → Cut
start_cut s shown w = record { state = s; shown = shown; world = w; told = w.printed; number = 0 }

abbrev pub givens_of : List Move → List Given
givens_of moves = map (λ (move : Move). move.given) moves

-- What its giver heard in these moves, each answer told well, and perhaps at one look more.
abbrev pub HasHeard : (List Heard → Type 0) → Cut → List Move → Type 0
HasHeard told from moves = told (heard_in from moves) ⊎ told (heard_in from moves ++ exports_at (last_cut from moves) ∷ [])

-- or the last answer wasn't told
abbrev pub HasHeardSome : (List Heard → Type 0) → Cut → List Move → Type 0
HasHeardSome told from moves = HasHeard told from moves ⊎ told (heard_badly from moves)

-- The target's file of a job was sealed before this moment, and each crash since then leaves it so.
pub record SealedSince (w : World) (id : List ℕ) (m : Machine) (j : Job) (moment : ℕ) : Type 0 where
  pub file : ℕ
  pub content : List ℕ
  pub is : w.found j.target ≡ Some file
  pub holds : HoldsCopies m.history j j.copied content
  pub seen : IsBackupOf (w.seen file) (sealed_by id (size_of m) content j)
  pub since : EachSince w moment file (λ c. IsBackupOf c (sealed_by id (size_of m) content j))

-- each job that completed without a fault has a target that lasts
abbrev pub SealsLast : World → List ℕ → Cut → List Move → Type 0
SealsLast w id from [] = Unit {0}
SealsLast w id from (move ∷ moves) =
    ((j : Job) → Contains from.state.machine.jobs j → Contains move.answer.notices (completion (size_of from.state.machine) None j) → SealedSince w id from.state.machine j move.cut.world.now)
    × SealsLast w id move.cut moves

-- A file of its own is no backup.
abbrev pub IsNoBackup : List ℕ → Type 0
IsNoBackup file = (bytes : List ℕ) (store : Store) → IsBackupFile file bytes store → ⊥

-- These files of its own aren't the source's, nor backups.
pub record AreApart (own : ℕ → Type 0) (source : ℕ) (w : World) : Type 0 where
  pub source_isnt : own source → ⊥
  pub no_backup : (f : ℕ) → own f → IsNoBackup (w.seen f)

-- calls of others: none on its own files, and nothing is printed or sent
pub record IsCalm (own : ℕ → Type 0) (old new : World) : Type 0 where
  pub goes : GoesOn old new
  pub files : (f : ℕ) → own f → SameFile f old new
  pub quiet : SameText old new
  pub unsent : new.wire ≡ old.wire

-- calls on them leave them so
abbrev pub StayApart : (ℕ → Type 0) → World → World → Type 0
StayApart own old new = (f : ℕ) → own f → IsNoBackup (old.seen f) → IsNoBackup (new.seen f)

-- These events were carried out as the plain machine does, and each crash since the start left the files lawful for the history before it.
-- The node stands for the state after them, and so it can go on. From the last cut on there were calls on these parts alone.
pub record Ran (reading : Reading) (own : ℕ → Type 0) (files : Files) (name : List ℕ) (first : Cut) (keeping : State → Type 0) (parts : Parts) (given : List Given) (w : World) : Type 0 where
  pub moves : List Move
  pub steps : AreMoves reading own name first moves
  pub given_are : givens_of moves ≡ given
  pub keeps : keeping (last_cut first moves).state
  pub backups : BackupsHold files (last_cut first moves).state.machine w
  pub crashes : CrashesAfter files first moves w
  pub sealed : SealsLast w files.id first moves
  pub stays : StaysSealed first.world w
  pub blanks : NoNewBlanks first.world w
  pub apart : AreApart own first.shown.file w
  pub reached : Runs parts (last_cut first moves).world w

-- ---- what was printed

-- where it is told, this text was printed
pub record Says (text : List ℕ) (old new : World) : Type 0 where
  pub printed : IsTrue old.prints → new.printed ≡ old.printed ++ text

-- a print failed
abbrev pub PrintFailed : World → World → Type 0
PrintFailed old new = Rose old.faults.shared new.faults.shared × Rose old.faults.prints new.faults.prints

-- ---- a run of events

-- all answers are owed unless a print failed
abbrev pub OwesAll : {T : Type 0} → Result T Halt → Type 0
OwesAll (Ok x) = Unit {0}
OwesAll (Err Memory) = Unit {0}
OwesAll (Err Fault) = ⊥
OwesAll (Err Lost) = Unit {0}

-- a print failed; another call of what gives the events failed
abbrev pub HaltedFor : Halt → World → World → Type 0
HaltedFor Memory old new = Unit {0}
HaltedFor Fault old new = PrintFailed old new
HaltedFor Lost old new = Rose old.faults.shared new.faults.shared

-- and it did so outside of events: since some moment of the call there was no event
pub record HaltedOutside (own : ℕ → Type 0) (why : Halt) (old new : World) : Type 0 where
  pub since : World
  pub before : GoesOn old since
  pub calls : Runs (talk_with own) since new
  pub halted : HaltedFor why since new

-- it failed after the last event
abbrev pub HaltedIn : {T : Type 0} → Result T Halt → World → World → Type 0
HaltedIn (Ok x) last new = Unit {0}
HaltedIn (Err why) last new = HaltedFor why last new

-- ---- what gives events

-- one more was given
pub record GivesOne (gives : Event → Type 0) (gave more : List Given) (held : Option Given) (before after : ℕ) (old new : World) : Type 0 where
  pub given : Given
  pub more_is : more ≡ gave ++ given ∷ []
  pub held_is : held ≡ Some given
  pub may : gives given.event
  pub fewer : after < before
  pub said : Says given.said old new

-- nothing more comes, after this was printed
pub record GivesNone (over : List ℕ → Type 0) (gave more : List Given) (old new : World) : Type 0 where
  pub rest : List ℕ
  pub more_is : more ≡ gave
  pub is_over : over rest
  pub said : Says rest old new

-- what a look for the next event came to: whether there is one
pub record Gives (there : Bool) (gives : Event → Type 0) (over : List ℕ → Type 0) (gave more : List Given) (held : Option Given) (before after : ℕ) (old new : World) : Type 0 where
  pub one : IsTrue there → GivesOne gives gave more held before after old new
  pub none : there ≡ false → GivesNone over gave more old new

-- ---- the events of a run

-- It ended since nothing more came, after this was printed, or since an event ended the machine.
abbrev pub IsAtEnd : (List ℕ → Type 0) → Bool → List ℕ → Type 0
IsAtEnd over ended rest = over rest ⊎ (IsTrue ended × (rest ≡ []))

-- Events were carried out from a state on: the first n of those that were given. All but one were, and all of them where the run ended well. What gives them was told the
-- answers, and after their texts a rest was printed.
pub record RanEvents {T : Type 0} (reading : Reading) (own : ℕ → Type 0) (files : Files) (name : List ℕ) (s : State) (shown : Shown) (keeping : State → Type 0)
    (result : Result T Halt) (ended : Bool) (over : List ℕ → Type 0) (told : List Heard → Type 0) (given : List Given) (old new : World) : Type 0 where
  pub n : ℕ
  pub ran : Ran reading own files name (start_cut s shown old) keeping (reads_and_talk own) (take n given) new
  pub most : length given ≤ n + 1
  pub heard : HasHeardSome told (start_cut s shown old) ran.moves
  pub well : IsOk result → HasHeard told (start_cut s shown old) ran.moves
  pub rest : List ℕ
  pub in_part : PrintsPart (texts ran.moves ++ rest) old new
  pub printed : OwesAll result → Says (texts ran.moves ++ rest) old new
  pub between : IsOk result → Runs (talk_with own) (last_cut (start_cut s shown old) ran.moves).world new
  pub all : IsOk result → (n ≡ length given) × IsAtEnd over ended rest
  pub halted : HaltedIn result (last_cut (start_cut s shown old) ran.moves).world new

-- ---- a whole session

-- all answers are owed unless a print failed, after a closing that was refused too
abbrev pub OwesTexts : {T : Type 0} → Result T Stop → Type 0
OwesTexts (Ok x) = Unit {0}
OwesTexts (Err (NotOpened why)) = Unit {0}
OwesTexts (Err (Halted Memory)) = Unit {0}
OwesTexts (Err (Halted Fault)) = ⊥
OwesTexts (Err (Halted Lost)) = Unit {0}
OwesTexts (Err (NotClosed why)) = Unit {0}

-- the image wasn't opened
abbrev pub IsNotOpened : {T : Type 0} → Result T Stop → Type 0
IsNotOpened (Ok x) = ⊥
IsNotOpened (Err (NotOpened why)) = Unit {0}
IsNotOpened (Err (Halted why)) = ⊥
IsNotOpened (Err (NotClosed why)) = ⊥

-- the closing of a broken source writes nothing; one fails by a call of its file
abbrev pub ClosingEnds : CloseRefusal → ℕ → World → World → Type 0
ClosingEnds (unclosed.Broken event) f old new = SameFile f old new
ClosingEnds unclosed.NoRoom f old new = Unit {0}
ClosingEnds unclosed.Failed f old new = FileFailed f old new
ClosingEnds unclosed.Memory f old new = Unit {0}

-- in a session that wasn't closed for the reason that a call failed, one of its file did
abbrev pub ClosingFailed : CloseRefusal → ℕ → World → World → Type 0
ClosingFailed (unclosed.Broken event) f old new = Unit {0}
ClosingFailed unclosed.NoRoom f old new = Unit {0}
ClosingFailed unclosed.Failed f old new = FileFailed f old new
ClosingFailed unclosed.Memory f old new = Unit {0}

-- It stopped in this state, whose cut is at this world, after events that were over at that one: a print failed after the last event, or the
-- closing was refused, for a reason that the state or the counts within the closing show.
abbrev pub StoppedIn : {T : Type 0} → Result T Stop → ℕ → List ℕ → State → World → World → World → Type 0
StoppedIn (Ok x) f id s last over new = Unit {0}
StoppedIn (Err (NotOpened why)) f id s last over new = ⊥
StoppedIn (Err (Halted why)) f id s last over new = HaltedFor why last over
StoppedIn (Err (NotClosed why)) f id s last over new = NotClosedFor why f id s new × ClosingEnds why f over new

-- why a session stopped
abbrev pub StoppedFor : (ℕ → Type 0) → Stop → ℕ → World → World → Type 0
StoppedFor own (NotOpened why) f old new = NotOpenedFor why f old new
StoppedFor own (Halted why) f old new = HaltedOutside own why old new
StoppedFor own (NotClosed why) f old new = ClosingFailed why f old new

-- The image wasn't opened. Nothing was done but calls on its file. Files stay at rest, and each crash left them lawful for the history.
pub record NotBegun {T : Type 0} (allows : List Directory) (files : Files) (h : History) (disks : List (List ℕ)) (result : Result T Stop) (told : List Heard → Type 0) (old new : World) : Type 0 where
  pub refused : IsNotOpened result
  pub run : Runs (only_file files.source) old new
  pub opens : (d : Directory) × Allows allows d × OpensWithin files.source d files.id h old new
  pub crashes : (k : ℕ) (left : ℕ → Option (List ℕ)) → old.now ≤ k → k ≤ new.now → IsLeftAt new k left → LeftLawful (or_marked allows) files h disks left
  pub stays : StaysSealed old new
  pub blanks : NoNewBlanks old new
  pub heard : told []
  pub rest : AreLawful (or_marked allows) files h disks new

-- A session was begun for a history, and events were carried out, the first n of those that were given. Each crash left the files lawful for the history that
-- the events before it extend, settled, and each sector of the disk is that of a disk since the last sync that was answered. What jobs sealed
-- lasts. At its end files are at rest again: another session may begin, of the history that all of the events extend.
pub record Begun {T : Type 0} (reading : Reading) (own : ℕ → Type 0) (allows : List Directory) (files : Files) (name : List ℕ) (h : History) (disks : List (List ℕ))
    (result : Result T Stop) (left : Bool) (over : List ℕ → Type 0) (told : List Heard → Type 0) (given : List Given) (answer : Answer) (old new : World) : Type 0 where
  -- the opening
  pub opening : Opening
  pub taken : ℕ
  pub freed : ℕ
  pub finds : FindsOpening (old.seen files.source) files.id h opening
  pub entries_are : opening.entries ≡ stored_in (old.seen files.source)
  pub allowed : Allows allows (directory_of opening)
  pub epoch_left : opening.epoch < 2 ^ 64 - 1
  pub enough : taken ≤ opening.store.room
  pub nothing_taken : opening.entries ≡ [] → taken ≡ 0
  pub nothing_given : opening.entries ≡ [] → freed ≡ 0
  pub begun : World
  pub clusters : (opening.entries ≡ [] → ⊥) → TakesAndGives (old.seen files.source) (begun.seen files.source) taken freed
  pub open_header : RewritesHeader (old.seen files.source) (begun.seen files.source)
  pub head : IsHeadKnown files.source begun
  pub open_run : Runs (only_file files.source) old begun
  pub opens : (d : Directory) × Allows allows d × OpensWithin files.source d files.id h old begun
  -- the events
  pub shown : Shown
  pub first : Cut
  pub first_is : first ≡ start_cut (first_state h (record opening { taken = taken; given = freed })) shown begun
  pub stands : StandsFor shown begun first.state.machine
  pub n : ℕ
  pub moves : List Move
  pub steps : AreMoves reading own name first moves
  pub given_are : givens_of moves ≡ take n given
  pub most : length given ≤ n + 1
  pub heard : HasHeardSome told first moves
  pub well : IsOk result → HasHeard told first moves
  pub last_said : List ℕ
  pub done : World
  pub reached : Runs (reads_and_talk own) (last_cut first moves).world done
  -- and the closing
  pub close_run : Runs (only_file files.source) done new
  pub printed : PrintsPart (texts moves ++ last_said) old new
  pub owed : OwesTexts result → Says (texts moves ++ last_said) old new
  pub crashes : (k : ℕ) (left : ℕ → Option (List ℕ)) → old.now ≤ k → k ≤ new.now → IsLeftAt new k left
      → ((k < first.world.now) × LeftLawful (or_marked allows) files h disks left)
      ⊎ (((first.world.now ≤ k) × (k ≤ done.now) × LeftAt files k left first moves)
      ⊎ ((done.now < k) × LeftLawful (in_closing (last_cut first moves).state) files (last_cut first moves).state.machine.history (last_cut first moves).state.disks left))
  pub sealed : SealsLast new files.id first moves
  pub stays : StaysSealed old new
  pub blanks : NoNewBlanks old new
  pub apart : AreApart own files.source new
  pub close_headers : IsHeadKnown files.source done → EachSince new done.now files.source (KeepsHeader (done.seen files.source)) × KeepsHeader (done.seen files.source) (new.seen files.source)
  pub rest : AreLawful (in_closing (last_cut first moves).state) files (last_cut first moves).state.machine.history (last_cut first moves).state.disks new
  -- where it was left without a closing, nothing was done after the last event and what its giver did then
  pub unclosed : IsOk result → IsTrue left → new ≡ done
  -- where it was closed, nothing but prints followed the last event, each crash leaves the very disk, and what lasts of the bitmaps is stored
  pub between : IsOk result → Runs (talk_with own) (last_cut first moves).world done
  pub all : IsOk result → (n ≡ length given) × IsAtEnd over (last_cut first moves).state.machine.ended last_said
  pub closed : IsOk result → left ≡ false → Closed files.source files.id (last_cut first moves).state done new answer
  pub rest_closed : IsOk result → left ≡ false → AreLawful (when_closed (last_cut first moves).state) files (last_cut first moves).state.machine.history (now (last_cut first moves).state.machine.history ∷ []) new
  pub stopped : StoppedIn result files.source files.id (last_cut first moves).state (last_cut first moves).world done new

abbrev pub Session : {T : Type 0} → Reading → (ℕ → Type 0) → List Directory → Files → List ℕ → History → List (List ℕ) → Result T Stop → Bool → (List ℕ → Type 0) → (List Heard → Type 0) → List Given → Answer → World → World → Type 0
Session reading own allows files name h disks result left over told given answer old new =
    NotBegun allows files h disks result told old new ⊎ Begun reading own allows files name h disks result left over told given answer old new
