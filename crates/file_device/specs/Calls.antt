-- Calls on one file.
use Rattle.std.specs.Prelude.{◌≡◌, ℕ, List, Result, OnOk, OnErr, IfOk}
use Rattle.disk_model.specs.World.{World, Runs, reads_of, writes_of, only_file, EachSince, FileFailed, IsQuiet, ReadCause, WriteCause, IsSound, Writes, HasWritten, Syncs, HasSynced}
use Rattle.file_device.specs.File.{File, file_of}

-- A run of calls on it: nothing else was touched, no count rose where it ended well, and where it failed the file's own did.
pub record Calls {T E : Type 0} (f : ℕ) (old new : World) (result : Result T E) : Type 0 where
  pub run : Runs (only_file f) old new
  pub cause : OnErr result (FileFailed f old new)
  pub quiet : OnOk result (IsQuiet old new)

-- A run of calls that reads it.
pub record Looks {T E : Type 0} (f : ℕ) (old new : World) (result : Result T E) : Type 0 where
  pub calls : Calls f old new result
  pub reads : Runs (reads_of f) old new
  pub cause : ReadCause old new f result
  pub same : file_of new f ≡ file_of old f

-- A run of calls that writes and syncs it.
pub record Puts {T E : Type 0} (f : ℕ) (old new : World) (result : Result T E) : Type 0 where
  pub calls : Calls f old new result
  pub writes : Runs (writes_of f) old new
  pub cause : WriteCause old new f result

-- What it goes through in a run of calls on it. Where it was as I says, each crash since the start leaves it with R,
-- at the end it is as J says, and after Ok as K says.
pub record Goes {T E : Type 0} (f : ℕ) (I : File → Type 0) (R : List ℕ → Type 0) (J : File → Type 0) (K : T → File → Type 0) (old new : World) (result : Result T E) : Type 0 where
  pub since : I (file_of old f) → EachSince new old.now f R
  pub after : I (file_of old f) → J (file_of new f)
  pub done : IfOk result (λ value. I (file_of old f) → K value (file_of new f))

-- ---- single calls

-- A write, whatever it answered.
pub record Wrote {T E : Type 0} (f place : ℕ) (bytes : List ℕ) (old new : World) (result : Result T E) : Type 0 where
  pub puts : Puts f old new result
  pub sound : IsSound old
  pub sound_on : IsSound new
  pub call : Writes f place bytes old new
  pub done : OnOk result (HasWritten f place bytes old new)

-- A sync, whatever it answered. One that failed changes nothing that a crash may leave.
pub record Synced {T E : Type 0} (f : ℕ) (old new : World) (result : Result T E) : Type 0 where
  pub puts : Puts f old new result
  pub sound : IsSound old
  pub sound_on : IsSound new
  pub call : Syncs f old new
  pub done : OnOk result (HasSynced f old new)
  pub failed : OnErr result (file_of new f ≡ file_of old f)
