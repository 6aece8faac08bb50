-- All that lies outside of the program, as contracts see it.
use Rattle.std.specs.Prelude.{◌≡◌, ◌⊎◌, ℕ, ◌+◌, ◌-◌, ◌^◌, ◌<◌, ◌≤◌, ◌++◌, min, Bool, IsTrue, List, [], ◌∷◌, length, take, Option, Some, None, IsSome, if◌then◌else◌, Result, OnErr}
use Rattle.disk_model.specs.declared.depot.Made.{Made}
use Rattle.disk_model.specs.declared.depot.Made.TheVariants.{New, Exists}
use Rattle.disk_model.specs.Files.{IsOutcome, IsGrown, IsLatest, IsTold, IsTorn, overlay, after_write, after_sync, MayWrite, MaySync}

-- what a host gave: a connection was opened at the monitor's door or another, bytes came, one was closed, nothing was ready, the end
pub data Taking : Type 0 where
  Opened : (connection : ℕ) (monitor : Bool) → Taking
  Bytes : (connection : ℕ) (bytes : List ℕ) → Taking
  Closed : (connection : ℕ) → Taking
  Idle : Taking
  Stopped : Taking

-- a byte that was sent, and how many takings were given before it
pub record Sent : Type 0 where
  pub byte : ℕ
  pub turn : ℕ

-- the connections of a host, and its clock
pub record Wire : Type 0 where
  -- whether it tells takings, hang-ups, the bytes sent and the numbers of the clock; whether the turns of the bytes sent
  pub tells : Bool
  pub turns : Bool
  -- the takings given, in order
  pub takings : List Taking
  -- the bytes sent on a connection, in order
  pub sent : ℕ → List Sent
  -- how many takings were given before a connection was hung up, if it was
  pub hung_up : ℕ → Option ℕ
  -- the numbers that the clock gave, in order
  pub clock : List ℕ
  -- how often a send failed
  pub faults : ℕ

-- how often calls failed
pub record Faults : Type 0 where
  -- how often a call failed, a send apart
  pub shared : ℕ
  -- how often a read of a file, or of its size, failed; how often a write or a sync of it did; how often a print did
  pub reads : ℕ → ℕ
  pub writes : ℕ → ℕ
  pub prints : ℕ

pub record World : Type 0 where
  -- whether it tells its files; whether it tells what a crash may leave of them
  pub tells : Bool
  pub outcomes : Bool
  -- the number of the file of a name
  pub found : List ℕ → Option ℕ
  -- the numbers that may be handed to a call are those below this one; the name of each
  pub given : ℕ
  pub named : ℕ → List ℕ
  -- the bytes of a file, as reads give them
  pub seen : ℕ → List ℕ
  -- the moment, a number that doesn't fall, the same for all files
  pub now : ℕ
  -- the versions of a file at a moment; none where outcomes are not told, or the file was not there
  pub past : ℕ → ℕ → List (List ℕ)
  -- whether it tells the text printed; that text
  pub prints : Bool
  pub printed : List ℕ
  pub faults : Faults
  pub wire : Wire

-- the versions of a file
abbrev pub versions : World → ℕ → List (List ℕ)
versions w f = w.past w.now f

-- a file of no name
abbrev pub IsNameless : World → ℕ → Type 0
IsNameless w f = (name : List ℕ) → w.found name ≡ Some f → ⊥

-- what is true of each depot
pub record IsSound (w : World) : Type 0 where
  pub grown : (k f : ℕ) → IsGrown (w.past k f)
  pub latest : (f : ℕ) → IsLatest (w.seen f) (versions w f)
  -- it tells what a crash may leave only of files that it tells
  pub told : (k f : ℕ) → IsTold w.tells (w.past k f)
  -- a file that has a name is there, and one that has none isn't
  pub there : (name : List ℕ) (f : ℕ) → IsTrue w.outcomes → w.found name ≡ Some f → 0 < length (versions w f)
  pub absent : (f : ℕ) → IsTrue w.outcomes → IsNameless w f → versions w f ≡ []
  -- different names name different files
  pub apart : (a b : List ℕ) (f : ℕ) → w.found a ≡ Some f → w.found b ≡ Some f → a ≡ b

-- ---- what a run of calls may touch

pub record Parts : Type 1 where
  -- files whose bytes may change, and whose count of failed writes may rise
  pub files : ℕ → Type 0
  -- files whose count of failed reads may rise
  pub reads : ℕ → Type 0
  -- names that may appear
  pub names : List ℕ → Type 0
  -- the printed text
  pub text : Type 0
  -- connections and the clock
  pub wire : Type 0

abbrev pub nothing : Parts
nothing = record { files = λ g. ⊥; reads = λ g. ⊥; names = λ name. ⊥; text = ⊥; wire = ⊥ }

-- calls that read this file
abbrev pub reads_of : ℕ → Parts
reads_of f = record { files = λ g. ⊥; reads = λ g. g ≡ f; names = λ name. ⊥; text = ⊥; wire = ⊥ }

-- calls that write or sync this file
abbrev pub writes_of : ℕ → Parts
writes_of f = record { files = λ g. g ≡ f; reads = λ g. ⊥; names = λ name. ⊥; text = ⊥; wire = ⊥ }

-- calls on this file
abbrev pub only_file : ℕ → Parts
only_file f = record { files = λ g. g ≡ f; reads = λ g. g ≡ f; names = λ name. ⊥; text = ⊥; wire = ⊥ }

-- calls that print
abbrev pub only_text : Parts
only_text = record { files = λ g. ⊥; reads = λ g. ⊥; names = λ name. ⊥; text = Unit {0}; wire = ⊥ }

-- calls on this file, and calls that print
abbrev pub file_and_text : ℕ → Parts
file_and_text f = record { files = λ g. g ≡ f; reads = λ g. g ≡ f; names = λ name. ⊥; text = Unit {0}; wire = ⊥ }

-- calls that make a file of this name and number
abbrev pub making : List ℕ → ℕ → Parts
making name f = record { files = λ g. g ≡ f; reads = λ g. ⊥; names = λ other. other ≡ name; text = ⊥; wire = ⊥ }

-- no count falls
pub record Counts (old new : Faults) : Type 0 where
  pub shared : old.shared ≤ new.shared
  pub reads : (f : ℕ) → old.reads f ≤ new.reads f
  pub writes : (f : ℕ) → old.writes f ≤ new.writes f
  pub prints : old.prints ≤ new.prints

-- What no call undoes: what is past stays as it was, a file that was there lasts, numbers that were given stay, and no count falls.
pub record GoesOn (old new : World) : Type 0 where
  pub later : old.now ≤ new.now
  pub kept : (k f : ℕ) → k ≤ old.now → new.past k f ≡ old.past k f
  pub lasts : (k f : ℕ) → old.now ≤ k → k ≤ new.now → 0 < length (versions old f) → 0 < length (new.past k f)
  pub tells : new.tells ≡ old.tells
  pub outcomes : new.outcomes ≡ old.outcomes
  pub prints : new.prints ≡ old.prints
  pub given : old.given ≤ new.given
  pub named : (f : ℕ) → f < old.given → new.named f ≡ old.named f
  pub counts : Counts old.faults new.faults
  pub send_faults : old.wire.faults ≤ new.wire.faults

-- a file is the same at each moment, and none of its writes failed
pub record SameFile (g : ℕ) (old new : World) : Type 0 where
  pub seen : new.seen g ≡ old.seen g
  pub moments : (k : ℕ) → old.now ≤ k → k ≤ new.now → new.past k g ≡ versions old g
  pub unwritten : new.faults.writes g ≡ old.faults.writes g

-- nothing was printed, and no print failed
pub record SameText (old new : World) : Type 0 where
  pub printed : new.printed ≡ old.printed
  pub unprinted : new.faults.prints ≡ old.faults.prints

-- A run of calls that touches nothing but these parts.
pub record Runs (parts : Parts) (old new : World) : Type 0 where
  pub goes : GoesOn old new
  pub files : (g : ℕ) → (parts.files g → ⊥) → SameFile g old new
  pub unread : (g : ℕ) → (parts.reads g → ⊥) → new.faults.reads g ≡ old.faults.reads g
  pub found : (name : List ℕ) → (parts.names name → ⊥) → new.found name ≡ old.found name
  pub text : (parts.text → ⊥) → SameText old new
  pub wire : (parts.wire → ⊥) → new.wire ≡ old.wire

-- Calls of others, prints and look-ups spared the file: it is as it was, in reads and in each crash.
pub record IsSpared (old new : World) (f : ℕ) : Type 0 where
  pub later : old.now ≤ new.now
  pub tells : new.tells ≡ old.tells
  pub outcomes : new.outcomes ≡ old.outcomes
  pub given : old.given ≤ new.given
  pub named : (g : ℕ) → g < old.given → new.named g ≡ old.named g
  pub seen : new.seen f ≡ old.seen f
  pub versions : versions new f ≡ versions old f

-- the number was given for this name
pub record IsGiven (f : ℕ) (name : List ℕ) (w : World) : Type 0 where
  pub below : f < w.given
  pub named : w.named f ≡ name

-- ---- calls on one file

-- until the call was done, a crash left of the file what it may leave before the call, or after it
abbrev pub StepsWithin : World → World → ℕ → Type 0
StepsWithin old new f = (k : ℕ) → old.now ≤ k → k < new.now → (new.past k f ≡ versions old f) ⊎ (new.past k f ≡ versions new f)

-- until the call was done the file had the old versions
abbrev pub StepsBefore : World → World → ℕ → Type 0
StepsBefore old new f = (k : ℕ) → old.now ≤ k → k < new.now → new.past k f ≡ versions old f

-- a write, whatever it answered
pub record Writes (f place : ℕ) (bytes : List ℕ) (old new : World) : Type 0 where
  pub run : Runs (writes_of f) old new
  pub steps : StepsWithin old new f
  pub may : MayWrite place bytes (versions old f) (versions new f)
  pub torn : IsTrue old.tells → IsTorn place bytes (old.seen f) (new.seen f)

-- one that succeeded
pub record HasWritten (f place : ℕ) (bytes : List ℕ) (old new : World) : Type 0 where
  pub seen : IsTrue old.tells → new.seen f ≡ overlay (old.seen f) place bytes
  pub versions : versions new f ≡ after_write place bytes (versions old f)

-- a sync, whatever it answered
pub record Syncs (f : ℕ) (old new : World) : Type 0 where
  pub run : Runs (writes_of f) old new
  pub steps : StepsBefore old new f
  pub may : MaySync (versions old f) (versions new f)
  pub seen : new.seen f ≡ old.seen f

-- one that succeeded
pub record HasSynced (f : ℕ) (old new : World) : Type 0 where
  pub versions : versions new f ≡ after_sync (versions old f)

-- a file of this name and number was made, or not: no other name and no other file changes, and this file had no name
pub record MayMake (name : List ℕ) (f : ℕ) (old new : World) : Type 0 where
  pub run : Runs (making name f) old new
  -- a number that was given before is this name's
  pub named : f < old.given → old.named f ≡ name
  pub nameless : IsTrue old.tells → IsNameless old f
  pub absent : (k : ℕ) → old.now ≤ k → k < new.now → new.past k f ≡ []
  pub empty : IsTrue old.tells → new.seen f ≡ []
  pub versions : (versions new f ≡ []) ⊎ (versions new f ≡ [] ∷ [])
  pub found : IsTrue old.tells → (new.found name ≡ old.found name) ⊎ ((old.found name ≡ None) × (new.found name ≡ Some f))

-- it was made, empty, and a crash leaves it so
pub record HasMade (name : List ℕ) (f : ℕ) (old new : World) : Type 0 where
  pub call : MayMake name f old new
  pub given : IsGiven f name new
  pub was_free : IsTrue old.tells → old.found name ≡ None
  pub is_found : IsTrue old.tells → new.found name ≡ Some f
  pub versions : versions new f ≡ if old.outcomes then [] ∷ [] else []

-- what `make` answered
abbrev pub IsMade : Made → List ℕ → World → World → Type 0
IsMade (New file) name old new = HasMade name file.0 old new
IsMade Exists name old new = Runs nothing old new × (IsTrue old.tells → IsSome (old.found name))

-- ---- what a crash leaves

-- the files that a crash at a moment may leave: each file that was there has an outcome, and no other file is there
pub record IsLeftAt (w : World) (k : ℕ) (left : ℕ → Option (List ℕ)) : Type 0 where
  pub there : (f : ℕ) (file : List ℕ) → left f ≡ Some file → IsOutcome (w.past k f) file
  pub absent : (f : ℕ) → left f ≡ None → w.past k f ≡ []

-- each crash at a moment from this one on leaves this file with P
abbrev pub EachSince : World → ℕ → ℕ → (List ℕ → Type 0) → Type 0
EachSince w from f P = (k : ℕ) → from ≤ k → k ≤ w.now → (c : List ℕ) → IsOutcome (w.past k f) c → P c

-- each crash now leaves this file with P
abbrev pub EachNow : World → ℕ → (List ℕ → Type 0) → Type 0
EachNow w f P = (c : List ℕ) → IsOutcome (versions w f) c → P c

-- Where each crash left the file with P, each crash since leaves it with R, and each crash now with Q.
pub record Leaves (f : ℕ) (P R Q : List ℕ → Type 0) (old new : World) : Type 0 where
  pub since : EachNow old f P → EachSince new old.now f R
  pub after : EachNow old f P → EachNow new f Q

-- up to some moment the file has its versions from the start, and each crash from then on leaves it with P
pub record EachSinceSync (old new : World) (f : ℕ) (P : List ℕ → Type 0) : Type 0 where
  pub moment : ℕ
  pub from : old.now ≤ moment
  pub to : moment ≤ new.now + 1
  pub before : (k : ℕ) → old.now ≤ k → k < moment → k ≤ new.now → new.past k f ≡ versions old f
  pub since : EachSince new moment f P

-- where files are told, reads give a file with S; and each crash now leaves one with P
pub record Holds (f : ℕ) (S P : List ℕ → Type 0) (w : World) : Type 0 where
  pub seen : IsTrue w.tells → S (w.seen f)
  pub each : EachNow w f P

-- Where reads gave S and each crash left P, each crash since leaves R; and now reads give T and each crash leaves Q.
pub record Leads (f : ℕ) (S P R T Q : List ℕ → Type 0) (old new : World) : Type 0 where
  pub since : Holds f S P old → EachSince new old.now f R
  pub after : Holds f S P old → Holds f T Q new

-- A world begins with what a crash left of an earlier one: reads give that, where files are told, under the names that they had; nothing is
-- left to be lost, and no other file is there.
pub record BeginsWith (old : World) (left : ℕ → Option (List ℕ)) (w : World) : Type 0 where
  pub seen : (f : ℕ) (c : List ℕ) → IsTrue w.tells → left f ≡ Some c → w.seen f ≡ c
  pub settled : (f : ℕ) (c : List ℕ) → left f ≡ Some c → versions w f ≡ if w.outcomes then c ∷ [] else []
  pub absent : (f : ℕ) → left f ≡ None → versions w f ≡ []
  pub found : (name : List ℕ) (f : ℕ) (c : List ℕ) → IsTrue w.tells → left f ≡ Some c → old.found name ≡ Some f → w.found name ≡ Some f

-- ---- faults

-- no call failed
pub record IsQuiet (old new : World) : Type 0 where
  pub shared : new.faults.shared ≡ old.faults.shared
  pub reads : (f : ℕ) → new.faults.reads f ≡ old.faults.reads f
  pub writes : (f : ℕ) → new.faults.writes f ≡ old.faults.writes f
  pub prints : new.faults.prints ≡ old.faults.prints

-- a count rose, or stands at its end
abbrev pub Rose : ℕ → ℕ → Type 0
Rose before now = min (before + 1) (2 ^ 64 - 1) ≤ now

-- a call that looks up or makes a name fails only where the shared count rose
abbrev pub FindCause : {T E : Type 0} → World → World → Result T E → Type 0
FindCause old new result = OnErr result (Rose old.faults.shared new.faults.shared)

-- one that reads a file, only where its count of failed reads rose too
abbrev pub ReadCause : {T E : Type 0} → World → World → ℕ → Result T E → Type 0
ReadCause old new f result = OnErr result (Rose old.faults.shared new.faults.shared × Rose (old.faults.reads f) (new.faults.reads f))

-- one that writes or syncs a file, only where its count of failed writes rose too
abbrev pub WriteCause : {T E : Type 0} → World → World → ℕ → Result T E → Type 0
WriteCause old new f result = OnErr result (Rose old.faults.shared new.faults.shared × Rose (old.faults.writes f) (new.faults.writes f))

-- one that prints, only where the count of failed prints rose too
abbrev pub PrintCause : {T E : Type 0} → World → World → Result T E → Type 0
PrintCause old new result = OnErr result (Rose old.faults.shared new.faults.shared × Rose old.faults.prints new.faults.prints)

-- a call on the file failed: a read of it, or a write or a sync
pub record FileFailed (f : ℕ) (old new : World) : Type 0 where
  pub shared : Rose old.faults.shared new.faults.shared
  pub own : Rose (old.faults.reads f) (new.faults.reads f) ⊎ Rose (old.faults.writes f) (new.faults.writes f)

-- where it is told, a part of this text was printed, from its start on
abbrev pub PrintsPart : List ℕ → World → World → Type 0
PrintsPart text old new = IsTrue old.prints → (n : ℕ) × (new.printed ≡ old.printed ++ take n text)
