-- What calls on a guest's clusters make of its disk as a list of bytes, as statements. `old` and `new` are the image as reads gave it before
-- a call and give it after.
use Rattle.std.specs.Prelude.{◌≡◌, ◌⊎◌, ℕ, List, [], ◌∷◌, ◌+◌, ◌*◌, ◌<◌, ◌≤◌, length}
use Rattle.disk_model.specs.Files.{u64_at, overlay}
use Rattle.image_model.specs.Clusters.{Shape, size, per, IsShape, host, guest, word_of}
use Rattle.image_model.specs.Calls.{IsData, Shows, IsPartly, LeavesGuest}
use Rattle.image_model.specs.Runs.{LeavesRest, IsStored, AreAsBefore, AreStored}
use Rattle.image_model.specs.Rows.{disk_place, IsRange, IsSpan, zeros_from, AreUntouched, AreCleared}
use Rattle.image_model.specs.Disks.{disk_of, IsMixedOf}

-- ---- a call that succeeded

-- data over stored clusters
abbrev pub OverwrittenOnDisk : Type 0
OverwrittenOnDisk = (s : Shape) (total k n i j at spot : ℕ) (bytes old new : List ℕ) → IsSpan s total k n i j at (length bytes) spot → LeavesRest s i j n old new
    → ((m : ℕ) → m < n → Shows s i (j + m) (k + m) at bytes (guest s old i (j + m)) new)
    → disk_of s total new ≡ overlay (disk_of s total old) spot bytes

-- data in the place of holes
abbrev pub StoredOnDisk : Type 0
StoredOnDisk = (s : Shape) (total k n i j at spot : ℕ) (words bytes old new : List ℕ) → IsSpan s total k n i j at (length bytes) spot → LeavesRest s i j n old new
    → ((m : ℕ) → m < n → host s old i (j + m) ≡ 0)
    → ((m : ℕ) → m < n → IsStored s i (j + m) (k + m) (u64_at words (8 * m)) at bytes new)
    → disk_of s total new ≡ overlay (disk_of s total old) spot bytes

-- entries made holes
abbrev pub ClearedOnDisk : Type 0
ClearedOnDisk = (s : Shape) (total i j n : ℕ) (old new : List ℕ) → IsRange s total i j n → LeavesRest s i j n old new
    → ((m : ℕ) → m < n → word_of s new i (j + m) ≡ 0)
    → disk_of s total new ≡ overlay (disk_of s total old) (disk_place s i j) (zeros_from s total i j n)

-- ---- whatever a call answered

-- nothing of the guest's changed
abbrev pub SameOnDisk : Type 0
SameOnDisk = (s : Shape) (total : ℕ) (old new : List ℕ) → IsShape s → total ≤ s.tables * per s * size s → LeavesGuest s old new → disk_of s total new ≡ disk_of s total old

-- Each sector is as it was, or as the call was to make it: data over stored clusters,
abbrev pub PartlyOverwritten : Type 0
PartlyOverwritten = (s : Shape) (total k n i j at spot : ℕ) (bytes old new : List ℕ) → IsSpan s total k n i j at (length bytes) spot → LeavesRest s i j n old new
    → ((m : ℕ) → m < n → IsData s i (j + m) (k + m) old)
    → ((m : ℕ) → m < n → IsPartly s i (j + m) (k + m) at bytes old new)
    → IsMixedOf total (disk_of s total old ∷ overlay (disk_of s total old) spot bytes ∷ []) (disk_of s total new)

-- data in the place of holes,
abbrev pub PartlyStored : Type 0
PartlyStored = (s : Shape) (total k n q i j at spot : ℕ) (words bytes old new : List ℕ) → IsSpan s total k n i j at (length bytes) spot → LeavesRest s i j n old new
    → ((m : ℕ) → m < n → host s old i (j + m) ≡ 0)
    → ((x : ℕ) → AreAsBefore s q i j n x old new ⊎ AreStored s k q i j n x words at bytes new)
    → IsMixedOf total (disk_of s total old ∷ overlay (disk_of s total old) spot bytes ∷ []) (disk_of s total new)

-- and entries made holes.
abbrev pub PartlyCleared : Type 0
PartlyCleared = (s : Shape) (total q i j n : ℕ) (old new : List ℕ) → IsRange s total i j n → LeavesRest s i j n old new
    → ((x : ℕ) → AreUntouched s q i j n x old new ⊎ AreCleared s q i j n x new)
    → IsMixedOf total (disk_of s total old ∷ overlay (disk_of s total old) (disk_place s i j) (zeros_from s total i j n) ∷ []) (disk_of s total new)
