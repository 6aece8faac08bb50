-- What failed in a run of calls on an image.
use Rattle.std.specs.Prelude.{◌≡◌, ◌≢◌, ℕ, Option, Some, None, Result, Ok, Err}
use Rattle.disk_model.specs.World.{World, Runs, only_file, IsQuiet, Rose, FileFailed}
use Rattle.qc_map.specs.declared.failures.Failing.{Failing}
use Rattle.qc_map.specs.declared.failures.Failing.TheVariants.{Tables}
use Rattle.qc_map.specs.declared.failures.NotWritten.{NotWritten}
use Rattle.qc_map.specs.declared.failures.NotWritten.TheVariants.{NoRoom, Failed}

-- what failed, if a call did
abbrev pub failure : {T : Type 0} → Result T NotWritten → Option Failing
failure (Ok value) = None
failure (Err NoRoom) = None
failure (Err (Failed what)) = Some what

abbrev pub failure_of : {T : Type 0} → Result T Failing → Option Failing
failure_of (Ok value) = None
failure_of (Err what) = Some what

-- A run of calls on a file, in which this failed: no count rose where nothing did, else the file's own did, and that of its writes where a
-- write of tables or a sync failed.
pub record Went (f : ℕ) (old new : World) (failed : Option Failing) : Type 0 where
  pub run : Runs (only_file f) old new
  pub quiet : failed ≡ None → IsQuiet old new
  pub cause : failed ≢ None → FileFailed f old new
  pub tables : failed ≡ Some Tables → Rose old.faults.shared new.faults.shared × Rose (old.faults.writes f) (new.faults.writes f)
