-- Calls that make a file.
use Rattle.std.specs.Prelude.{◌≡◌, ◌⊎◌, ◌<◌, ℕ, List, [], IsTrue, IsSome, Some, None}
use Rattle.disk_model.specs.declared.depot.Made.{Made}
use Rattle.disk_model.specs.declared.depot.Made.TheVariants.{New, Exists}
use Rattle.disk_model.specs.World.{World, Runs, nothing, making, IsGiven, IsNameless, IsQuiet, Rose}
use Rattle.file_device.specs.File.{file_of, Is}

-- The file was made under this name, which wasn't there, and no call failed: reads give it with P, and so does each crash. Nothing else was touched.
pub record HasCreated (P : List ℕ → Type 0) (name : List ℕ) (f : ℕ) (old new : World) : Type 0 where
  pub run : Runs (making name f) old new
  pub fresh : IsTrue old.tells → IsNameless old f
  -- a number that was given before is this name's
  pub named : f < old.given → old.named f ≡ name
  pub given : IsGiven f name new
  pub was_free : IsTrue old.tells → old.found name ≡ None
  pub found : IsTrue old.tells → new.found name ≡ Some f
  pub holds : Is P (file_of new f)
  pub quiet : IsQuiet old new

-- Calls that made a file of this name, perhaps in part, which was that of no name before; the name is as it was, or is that file's.
pub record HasBegun (name : List ℕ) (f : ℕ) (old new : World) : Type 0 where
  pub run : Runs (making name f) old new
  pub fresh : IsTrue old.tells → IsNameless old f
  pub named : f < old.given → old.named f ≡ name
  pub found : IsTrue old.tells → (new.found name ≡ old.found name) ⊎ ((old.found name ≡ None) × (new.found name ≡ Some f))

-- what making an empty file answered
abbrev pub IsMadeEmpty : Made → List ℕ → World → World → Type 0
IsMadeEmpty (New file) name old new = HasCreated (λ c. c ≡ []) name file.0 old new
IsMadeEmpty Exists name old new = Runs nothing old new × (IsTrue old.tells → IsSome (old.found name)) × IsQuiet old new

-- Making a file failed: a count rose, and a file of the name may have been begun.
pub record MakingFailed (name : List ℕ) (old new : World) : Type 0 where
  pub rose : Rose old.faults.shared new.faults.shared
  pub file : ℕ
  pub begun : HasBegun name file old new
