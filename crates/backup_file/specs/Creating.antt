-- What a call leaves that makes a file, where it is refused.
use Rattle.std.specs.Prelude.{◌⊎◌, ℕ, List, IsTrue, IsSome}
use Rattle.disk_model.specs.World.{World, Runs, nothing, IsQuiet, Rose}
use Rattle.file_device.specs.Names.{HasBegun}
use Rattle.backup_file.specs.declared.create.CreateRefusal.{CreateRefusal}
use Rattle.backup_file.specs.declared.create.CreateRefusal.TheVariants.{Exists, Failed, Memory}

-- calls that made a file of this name, perhaps in part, which wasn't that of any name before
abbrev pub Begins : List ℕ → World → World → Type 0
Begins name old new = (f : ℕ) × HasBegun name f old new

-- A name that was there was found, nothing was touched and no call failed; or a call failed, and nothing was touched but a new file that was
-- begun under this name, nor that where the name was there; or there was no memory, and nothing was touched.
abbrev pub Refuses : List ℕ → World → World → CreateRefusal → Type 0
Refuses name old new Exists = Runs nothing old new × (IsTrue old.tells → IsSome (old.found name)) × IsQuiet old new
Refuses name old new Failed = (Runs nothing old new ⊎ Begins name old new) × Rose old.faults.shared new.faults.shared × (IsTrue old.tells → IsSome (old.found name) → Runs nothing old new)
Refuses name old new Memory = Runs nothing old new
