-- `create-source` and `create-target`: which end is due, and what is left.
use Rattle.std.specs.Prelude.{◌≡◌, ◌⊎◌, ◌<◌, ℕ, List, ◌++◌, IsTrue, IsSome, Some, None, codes}
use Rattle.disk_model.specs.World.{World, Runs, IsGiven, IsNameless, Holds, PrintsPart}
use Rattle.backup_file.specs.Made.{IsNewSource, IsNewTarget}
use Rattle.qback_top.specs.declared.words.Task.{Task}
use Rattle.qback_top.specs.declared.words.Task.TheVariants.{CreateSource, CreateTarget}
use Rattle.qback_top.specs.Words.{IsTask}
use Rattle.qback_top.specs.Endings.{Ending, Exists, Made, creates}

-- the task makes a file of this name
abbrev pub Makes : Task → List ℕ → Type 0
Makes (CreateSource file size bits id) name = name ≡ file
Makes (CreateTarget file size bits under) name = name ≡ file
Makes task name = ⊥

-- and this is what it is
abbrev pub IsMadeBy : Task → List ℕ → Type 0
IsMadeBy (CreateSource file size bits id) content = IsNewSource bits size id content
IsMadeBy (CreateTarget file size bits under) content = IsNewTarget bits size under content
IsMadeBy task content = ⊥

abbrev pub MakeDue : List (List ℕ) → World → Ending → Type 0
MakeDue words w (Exists name) = (task : Task) × IsTask words task × Makes task name × IsSome (w.found name)
MakeDue words w (Made task) = IsTask words task × ((name : List ℕ) × Makes task name × (w.found name ≡ None))
MakeDue words w ending = ⊥

-- what is printed of it
abbrev pub made_line : List ℕ → List ℕ
made_line name = codes "made " ++ name ++ codes "\n"

-- The file of this name was made: reads give it whole, and so does each crash. Its line was printed, and nothing else was touched.
pub record Created (task : Task) (name : List ℕ) (f : ℕ) (old new : World) : Type 0 where
  pub makes : Makes task name
  pub fresh : IsTrue old.tells → IsNameless old f
  pub named : f < old.given → old.named f ≡ name
  pub run : Runs (creates name f) old new
  pub given : IsGiven f name new
  pub found : IsTrue old.tells → new.found name ≡ Some f
  pub holds : Holds f (IsMadeBy task) (IsMadeBy task) new
  pub printed : IsTrue old.prints → new.printed ≡ old.printed ++ made_line name

-- A file of this name may have been begun, where none was there; the name is free still, or is that file's. A part of its line was printed, none before it was whole.
pub record CreatedInPart (task : Task) (name : List ℕ) (f : ℕ) (old new : World) : Type 0 where
  pub makes : Makes task name
  pub fresh : IsTrue old.tells → IsNameless old f
  pub named : f < old.given → old.named f ≡ name
  pub found : IsTrue old.tells → (new.found name ≡ old.found name) ⊎ ((old.found name ≡ None) × (new.found name ≡ Some f))
  pub run : Runs (creates name f) old new
  pub printed : PrintsPart (made_line name) old new
  pub first : IsTrue old.prints → (new.printed ≡ old.printed) ⊎ Holds f (IsMadeBy task) (IsMadeBy task) new

-- while the file was made that is due
abbrev pub StopsCreating : List (List ℕ) → World → World → Type 0
StopsCreating words old new = (task : Task) × (name : List ℕ) × (f : ℕ) × MakeDue words old (Made task) × CreatedInPart task name f old new
