-- What a host in memory holds, as plain values, and what it tells of them.
use Rattle.std.specs.Prelude.{◌≡◌, ℕ, ◌<◌, ◌≤◌, ◌^◌, Bool, true, false, List, [], ◌∷◌, length, get_or, take, map, Option, Some, None, string_bytes, if◌then◌else◌, ◌==◌}
use Rattle.std.specs.List.{position}
use Rattle.std.specs.Str.{bytes_eq}
use Rattle.disk_model.specs.Files.{after_write, after_sync, latest}
use Rattle.disk_model.specs.World.{World, Wire}
use Rattle.disk_memory.specs.declared.files.File.{File}
use Rattle.disk_memory.specs.declared.log.Call.{Call}
use Rattle.disk_memory.specs.declared.log.Call.TheVariants.{Put, Write, Inside, Sync}

-- what a call did to files: a file was put, with these bytes; bytes were written; a write was under way; a file was synced
pub data Change : Type 0 where
  FilePut : (file : ℕ) (bytes : List ℕ) → Change
  BytesWritten : (file at : ℕ) (bytes : List ℕ) → Change
  UnderWay : Change
  FileSynced : (file : ℕ) → Change

-- the versions of file f after one change more
abbrev pub step : Change → ℕ → List (List ℕ) → List (List ℕ)
step (FilePut file bytes) f vs = if file == f then bytes ∷ [] else vs
step (BytesWritten file at bytes) f vs = if file == f then after_write at bytes vs else vs
step UnderWay f vs = vs
step (FileSynced file) f vs = if file == f then after_sync vs else vs

-- and after these, the first of them first
abbrev pub replay : List Change → ℕ → List (List ℕ) → List (List ℕ)
replay [] f vs = vs
replay (c ∷ cs) f vs = replay cs f (step c f vs)

pub record Held : Type 0 where
  -- whether it keeps its calls
  pub keep : Bool
  -- of each file by its number: name, bytes, how often a read of it failed, how often a write or a sync
  pub names : List (List ℕ)
  pub contents : List (List ℕ)
  pub reads : List ℕ
  pub writes : List ℕ
  -- the changes of files, where calls are kept
  pub changes : List Change
  pub printed : List ℕ
  -- how often a call failed, how often a print
  pub faults : ℕ
  pub print_faults : ℕ

-- the number of the file of a name
abbrev pub number_of : List (List ℕ) → List ℕ → Option ℕ
number_of names name = position (λ n. bytes_eq n name) names

-- the versions of a file after the first k changes
abbrev pub upto : List Change → ℕ → ℕ → List (List ℕ)
upto changes k f = replay (take k changes) f []

-- no connections
abbrev pub no_wire : Wire
no_wire = record { tells = true; turns = true; takings = []; sent = λ connection. []; hung_up = λ connection. None; clock = []; faults = 0 }

-- all that it tells
abbrev pub world_of : Held → World
world_of h = record {
  tells = true;
  outcomes = h.keep;
  found = number_of h.names;
  given = length h.names;
  named = λ f. get_or h.names f [];
  seen = λ f. get_or h.contents f [];
  now = length h.changes;
  past = upto h.changes;
  prints = true;
  printed = h.printed;
  faults = record { shared = h.faults; reads = λ f. get_or h.reads f 0; writes = λ f. get_or h.writes f 0; prints = h.print_faults };
  wire = no_wire;
}

-- these are the versions of file f, which has none where it is not there
pub record IsContent (contents : List (List ℕ)) (f : ℕ) (versions : List (List ℕ)) : Type 0 where
  pub same : get_or contents f [] ≡ latest versions
  pub there : f < length contents → 0 < length versions
  pub absent : length contents ≤ f → versions ≡ []

-- the files are those that the changes made, and were made in the order of their numbers
pub record IsReplayed (contents : List (List ℕ)) (changes : List Change) : Type 0 where
  pub files : (f : ℕ) → IsContent contents f (replay changes f [])
  pub ordered : (k f g : ℕ) → f ≤ g → upto changes k f ≡ [] → upto changes k g ≡ []

-- what is true of each host
pub record IsKept (h : Held) : Type 0 where
  -- numbers are of 32 bits
  pub few : length h.names < 2 ^ 32
  pub contents : length h.contents ≡ length h.names
  pub reads : length h.reads ≡ length h.names
  pub writes : length h.writes ≡ length h.names
  -- each file is found by its name
  pub found : (f : ℕ) → f < length h.names → number_of h.names (get_or h.names f []) ≡ Some f
  pub replayed : h.keep ≡ true → IsReplayed h.contents h.changes
  pub none : h.keep ≡ false → h.changes ≡ []

-- ---- in terms of the code's values

abbrev pub change_of : Call → Change
change_of (Put file bytes) = FilePut file bytes.items
change_of (Write file at bytes) = BytesWritten file at bytes.items
change_of Inside = UnderWay
change_of (Sync file) = FileSynced file

abbrev pub held_of : Bool → List File → List Call → List ℕ → ℕ → ℕ → Held
held_of keep files log printed faults print_faults = record {
  keep = keep;
  names = map (λ file. string_bytes file.name) files;
  contents = map (λ file. file.bytes.items) files;
  reads = map (λ file. file.reads) files;
  writes = map (λ file. file.writes) files;
  changes = map change_of log;
  printed = printed;
  faults = faults;
  print_faults = print_faults;
}
