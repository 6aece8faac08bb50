-- What becomes of what a host holds at each call.
use Rattle.std.specs.Prelude.{◌≡◌, ◌⊎◌, ℕ, ◌+◌, ◌-◌, ◌^◌, Bool, List, [], ◌∷◌, ◌++◌, length, get_or, set, min, max, Option, Some, None, if◌then◌else◌}
use Rattle.disk_model.specs.Files.{overlay}
use Rattle.disk_model.specs.World.{World, versions, Runs, making, StepsBefore, IsQuiet}
use Rattle.disk_memory.specs.Held.{Held, Change, FilePut, BytesWritten, UnderWay, FileSynced}

-- a count that rose, up to the largest; it never falls
abbrev pub raised : ℕ → ℕ
raised count = max count (min (count + 1) (2 ^ 64 - 1))

-- these changes, where calls are kept
abbrev pub noted : Bool → List Change → List Change
noted keep changes = if keep then changes else []

-- a file more
abbrev pub with_file : List ℕ → List ℕ → Held → Held
with_file name bytes h = record h {
  names = h.names ++ name ∷ [];
  contents = h.contents ++ bytes ∷ [];
  reads = h.reads ++ 0 ∷ [];
  writes = h.writes ++ 0 ∷ [];
  changes = h.changes ++ noted h.keep (FilePut (length h.names) bytes ∷ []);
}

-- a write that was done
abbrev pub with_bytes : ℕ → ℕ → List ℕ → Held → Held
with_bytes f at bytes h = record h {
  contents = set h.contents f (overlay (get_or h.contents f []) at bytes);
  changes = h.changes ++ noted h.keep (BytesWritten f at bytes ∷ UnderWay ∷ []);
}

-- a sync that was done
abbrev pub with_sync : ℕ → Held → Held
with_sync f h = record h { changes = h.changes ++ noted h.keep (FileSynced f ∷ []) }

-- a text that was printed
abbrev pub with_text : List ℕ → Held → Held
with_text text h = record h { printed = h.printed ++ text }

-- a call on a name that failed
abbrev pub failed_find : Held → Held
failed_find h = record h { faults = raised h.faults }

-- a read that failed
abbrev pub failed_read : ℕ → Held → Held
failed_read f h = record h { faults = raised h.faults; reads = set h.reads f (raised (get_or h.reads f 0)) }

-- a write or a sync that failed
abbrev pub failed_write : ℕ → Held → Held
failed_write f h = record h { faults = raised h.faults; writes = set h.writes f (raised (get_or h.writes f 0)) }

-- a print that failed
abbrev pub failed_print : Held → Held
failed_print h = record h { faults = raised h.faults; print_faults = raised h.print_faults }

-- another content of a file, all of it synced
abbrev pub with_content : ℕ → List ℕ → Held → Held
with_content f bytes h = record h { contents = set h.contents f bytes; changes = h.changes ++ noted h.keep (FilePut f bytes ∷ []) }

-- a host with no files
abbrev pub no_files : Bool → Held
no_files keep = record { keep = keep; names = []; contents = []; reads = []; writes = []; changes = []; printed = []; faults = 0; print_faults = 0 }

-- a file of this name and number was put, with these bytes, all of it synced: a new one, or another content of one that was there
pub record HasPut (name bytes : List ℕ) (f : ℕ) (old new : World) : Type 0 where
  pub run : Runs (making name f) old new
  pub steps : StepsBefore old new f
  pub number : (old.found name ≡ Some f) ⊎ ((old.found name ≡ None) × (f ≡ old.given))
  pub found : new.found name ≡ Some f
  pub seen : new.seen f ≡ bytes
  pub versions : versions new f ≡ if old.outcomes then bytes ∷ [] else []
  pub quiet : IsQuiet old new

-- a file more, if there is one
abbrev pub with_some : List ℕ → Option (List ℕ) → Held → Held
with_some name None h = h
with_some name (Some bytes) h = with_file name bytes h
