-- What a crash may leave, by a choice.
use Rattle.std.specs.Prelude.{◌≡◌, ℕ, ◌+◌, ◌*◌, ◌<◌, ◌≤◌, List, [], ◌∷◌, length, Option, Some, None, if◌then◌else◌, nat_lt, IsTrue}
use Rattle.disk_model.specs.Files.{byte, latest, synced, SomeVersion, IsOutcome}
use Rattle.disk_model.specs.World.{World, Faults, versions, IsLeftAt, BeginsWith}
use Rattle.disk_memory.specs.declared.draft.Draft.{Draft}

-- sector k of one file is that of another, zeros behind the ends
abbrev pub SameSector : ℕ → List ℕ → List ℕ → Type 0
SameSector k a b = (i : ℕ) → 512 * k ≤ i → i < 512 * k + 512 → byte a i ≡ byte b i

-- bytes as long as the file is now, each sector that of some version; all synced at choice 0, all as now at choice 1
pub record IsMixture (choice : ℕ) (versions : List (List ℕ)) (now mixed : List ℕ) (shortest : ℕ) : Type 0 where
  pub some : 0 < length versions
  pub is_now : latest versions ≡ now
  pub is_shortest : length (synced versions) ≡ shortest
  pub grows : shortest ≤ length now
  pub long : length mixed ≡ length now
  pub sectors : (k : ℕ) → SomeVersion (SameSector k mixed) versions
  pub first : choice ≡ 0 → (i : ℕ) → byte mixed i ≡ byte (synced versions) i
  pub last : choice ≡ 1 → mixed ≡ now

-- a draft of a file with these versions; none where the file is not there
abbrev pub IsDrafted : ℕ → List (List ℕ) → Option Draft → Type 0
IsDrafted choice versions None = versions ≡ []
IsDrafted choice versions (Some draft) = IsMixture choice versions draft.now.items draft.mixed.items draft.shortest

-- a crash may leave this of the file; at choice 0 what was synced, at choice 1 what it was
pub record IsPick (choice : ℕ) (versions : List (List ℕ)) (file : List ℕ) : Type 0 where
  pub outcome : IsOutcome versions file
  pub first : choice ≡ 0 → file ≡ synced versions
  pub last : choice ≡ 1 → file ≡ latest versions

-- the same, where the file may not be there
abbrev pub IsPicked : ℕ → List (List ℕ) → Option (List ℕ) → Type 0
IsPicked choice versions None = versions ≡ []
IsPicked choice versions (Some file) = IsPick choice versions file

-- the files that a host has, by their numbers
abbrev pub files_of : World → ℕ → Option (List ℕ)
files_of w f = if nat_lt f w.given then Some (w.seen f) else None

-- the number of a name, if it is below this
abbrev pub below : ℕ → Option ℕ → Option ℕ
below n None = None
below n (Some f) = if nat_lt f n then Some f else None

-- no call failed
pub record IsUnfailed (faults : Faults) : Type 0 where
  pub shared : faults.shared ≡ 0
  pub reads : (f : ℕ) → faults.reads f ≡ 0
  pub writes : (f : ℕ) → faults.writes f ≡ 0
  pub prints : faults.prints ≡ 0

-- A host has what a crash of another at this moment may leave, by the same numbers and names, all of it synced, and nothing else:
-- nothing is printed and no call failed. At choice 0 what was synced, at choice 1 what reads gave.
pub record IsLeft (choice moment : ℕ) (old new : World) : Type 0 where
  pub left : IsLeftAt old moment (files_of new)
  pub begins : BeginsWith old (files_of new) new
  pub first : choice ≡ 0 → (f : ℕ) → f < new.given → new.seen f ≡ synced (old.past moment f)
  pub last : choice ≡ 1 → (f : ℕ) → f < new.given → new.seen f ≡ latest (old.past moment f)
  pub named : (f : ℕ) → f < new.given → (f < old.given) × (new.named f ≡ old.named f)
  pub found : (name : List ℕ) → new.found name ≡ below new.given (old.found name)
  pub outcomes : IsTrue new.outcomes
  pub settled : (f : ℕ) → f < new.given → versions new f ≡ new.seen f ∷ []
  pub printed : new.printed ≡ []
  pub unfailed : IsUnfailed new.faults
