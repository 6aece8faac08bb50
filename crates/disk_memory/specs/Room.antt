-- How much room a host has, so that calls take no memory.
use Rattle.std.specs.Prelude.{◌≡◌, ℕ, ◌+◌, ◌-◌, ◌^◌, ◌<◌, ◌≤◌, List, [], ◌∷◌, ◌++◌, length, get_or, take, map, string_bytes, string_capacity, vec_capacity}
use Rattle.disk_memory.specs.declared.files.File.{File}

pub record Room : Type 0 where
  -- how many files its list holds, and how long each of them can get
  pub places : ℕ
  pub files : List ℕ
  -- of each file that it keeps to be made: how long its name can get, and its bytes
  pub names : List ℕ
  pub spares : List ℕ
  -- how long the printed text can get
  pub printed : ℕ

-- each number is at least this
abbrev pub AllFrom : ℕ → List ℕ → Type 0
AllFrom least xs = (i : ℕ) → i < length xs → least ≤ get_or xs i 0

-- So many further files can be made, of names of up to 4096 bytes, and each file and the text can get so long.
-- Those that were kept last are made first.
pub record HasRoom (more size : ℕ) (room : Room) : Type 0 where
  pub places : length room.files + more ≤ room.places
  pub numbers : length room.files + more < 2 ^ 32
  pub some : more ≤ length room.spares
  pub paired : length room.names ≡ length room.spares
  pub names : (i : ℕ) → i < length room.names → length room.names ≤ i + more → 4096 ≤ get_or room.names i 0
  pub spares : (i : ℕ) → i < length room.spares → length room.spares ≤ i + more → size ≤ get_or room.spares i 0
  pub files : AllFrom size room.files
  pub text : size ≤ room.printed

-- as many numbers, none of them less
pub record IsWider (old new : List ℕ) : Type 0 where
  pub long : length new ≡ length old
  pub each : (i : ℕ) → get_or old i 0 ≤ get_or new i 0

-- as much room at least
pub record IsRoomier (old new : Room) : Type 0 where
  pub places : old.places ≤ new.places
  pub files : IsWider old.files new.files
  pub names : IsWider old.names new.names
  pub spares : IsWider old.spares new.spares
  pub printed : old.printed ≤ new.printed

-- one file more, which can get so long
abbrev pub with_place : ℕ → Room → Room
with_place size room = record room { files = room.files ++ size ∷ [] }

-- the last of the kept files is taken
abbrev pub less_spare : Room → Room
less_spare room = record room { names = take (length room.names - 1) room.names; spares = take (length room.spares - 1) room.spares }

-- more files are kept, those that were kept before last
pub record HasMoreSpares (old new : Room) : Type 0 where
  pub places : new.places ≡ old.places
  pub files : new.files ≡ old.files
  pub names : (before : List ℕ) × (new.names ≡ before ++ old.names)
  pub spares : (before : List ℕ) × (new.spares ≡ before ++ old.spares)
  pub paired : length new.names ≡ length new.spares
  pub printed : new.printed ≡ old.printed

-- ---- in terms of the code's values

abbrev pub lengths_of : List File → List ℕ
lengths_of files = map (λ file. vec_capacity file.bytes) files

abbrev pub name_lengths_of : List File → List ℕ
name_lengths_of files = map (λ file. string_capacity file.name) files

abbrev pub room_of : ℕ → List File → List File → ℕ → Room
room_of places files spare printed = record { places = places; files = lengths_of files; names = name_lengths_of spare; spares = lengths_of spare; printed = printed }

-- files that tell the same
pub record IsSameFiles (old new : List File) : Type 0 where
  pub names : map (λ file. string_bytes file.name) new ≡ map (λ file. string_bytes file.name) old
  pub contents : map (λ file. file.bytes.items) new ≡ map (λ file. file.bytes.items) old
  pub reads : map (λ file. file.reads) new ≡ map (λ file. file.reads) old
  pub writes : map (λ file. file.writes) new ≡ map (λ file. file.writes) old

-- an empty file of this name
pub record IsEmptyFile (name : List ℕ) (file : File) : Type 0 where
  pub named : string_bytes file.name ≡ name
  pub empty : file.bytes.items ≡ []
  pub unread : file.reads ≡ 0
  pub unwritten : file.writes ≡ 0
