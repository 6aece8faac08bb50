-- Calls on two files.
use Rattle.std.specs.Prelude.{◌≡◌, ◌⊎◌, ℕ, List, length, Result, OnOk, OnErr, IsErr}
use Rattle.disk_model.specs.Files.{reading}
use Rattle.disk_model.specs.World.{World, Parts, Runs, reads_of, FileFailed, IsQuiet}
use Rattle.file_device.specs.File.{file_of, Gives}
use Rattle.file_device.specs.Calls.{Wrote}

-- calls on these two files
abbrev pub two_files : ℕ → ℕ → Parts
two_files f g = record { files = λ h. (h ≡ f) ⊎ (h ≡ g); reads = λ h. (h ≡ f) ⊎ (h ≡ g); names = λ name. ⊥; text = ⊥; wire = ⊥ }

-- A run of calls on two files: nothing else was touched, no count rose where it ended well, and where it failed one of the files' own did.
pub record BothCalls {T E : Type 0} (f g : ℕ) (old new : World) (result : Result T E) : Type 0 where
  pub run : Runs (two_files f g) old new
  pub cause : OnErr result (FileFailed f old new ⊎ FileFailed g old new)
  pub quiet : OnOk result (IsQuiet old new)

-- the bytes that one file gave there were written to the other, whatever the write answered
pub record CopiesBytes {T E : Type 0} (from at to place n : ℕ) (old new : World) (result : Result T E) : Type 0 where
  pub between : World
  pub bytes : List ℕ
  pub read : Gives (file_of old from) (λ c. bytes ≡ reading c at n)
  pub long : length bytes ≡ n
  pub reads : Runs (reads_of from) old between
  pub write : Wrote to place bytes between new result

-- A range of n bytes of one file was copied to a place of another. The first stays as it was; the second was written with what the first gave
-- there, whatever the write answered, or it was not touched since the read failed.
pub record Copied {T E : Type 0} (from at to place n : ℕ) (old new : World) (result : Result T E) : Type 0 where
  pub calls : BothCalls from to old new result
  pub same : file_of new from ≡ file_of old from
  pub wrote : (IsErr result × (file_of new to ≡ file_of old to)) ⊎ CopiesBytes from at to place n old new result
