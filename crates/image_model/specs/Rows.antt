-- Over one second-level table: data over stored clusters next to one another, entries made holes in a row, and what both are on the disk as bytes.
use Rattle.std.specs.Prelude.{◌≡◌, ℕ, ◌+◌, ◌-◌, ◌*◌, ◌<◌, ◌≤◌, min, List, length, replicate}
use Rattle.disk_model.specs.Files.{byte}
use Rattle.disk_model.specs.World.{World}
use Rattle.image_model.specs.Clusters.{Shape, size, per, place, IsShape, IsTable, word_of, ShowsAs}
use Rattle.image_model.specs.Calls.{Told, IsData}
use Rattle.image_model.specs.Runs.{IsSlots, IsInSector}

-- ---- what a call is handed

-- data over guest clusters (i, j) to (i, j + n), which are stored in clusters k to k + n
pub record IsOverwriting (s : Shape) (k n i j at long f : ℕ) (w : World) : Type 0 where
  pub shape : IsShape s
  pub index : i < s.tables
  pub slots : j + n ≤ per s
  pub some : 0 < k
  pub low : place s k ≤ at
  pub high : at + long ≤ place s (k + n)
  pub there : Told (λ c. (m : ℕ) → m < n → IsData s i (j + m) (k + m) c) f w

-- n words of 0
pub record AreZero (n : ℕ) (words : List ℕ) : Type 0 where
  pub long : length words ≡ 8 * n
  pub none : (t : ℕ) → t < 8 * n → byte words t ≡ 0

-- words of 0 for entries j to j + n of table i, in cluster q
pub record IsClearing (s : Shape) (q i j n spot f : ℕ) (words : List ℕ) (w : World) : Type 0 where
  pub shape : IsShape s
  pub slots : IsSlots s q i j n spot
  pub zeros : AreZero n words
  pub table : Told (λ c. IsTable s c i q) f w

-- ---- entries of a sector of the table

-- they are as they were, and show what they showed
abbrev pub AreUntouched : Shape → ℕ → ℕ → ℕ → ℕ → ℕ → List ℕ → List ℕ → Type 0
AreUntouched s q i j n x old new = (m : ℕ) → m < n → IsInSector s q (j + m) x → (word_of s new i (j + m) ≡ word_of s old i (j + m)) × ((o : ℕ) → o < s.sectors → ShowsAs s i (j + m) o new old)

-- they are 0
abbrev pub AreCleared : Shape → ℕ → ℕ → ℕ → ℕ → ℕ → List ℕ → Type 0
AreCleared s q i j n x file = (m : ℕ) → m < n → IsInSector s q (j + m) x → word_of s file i (j + m) ≡ 0

-- ---- on the disk

-- where guest cluster (i, j) begins
abbrev pub disk_place : Shape → ℕ → ℕ → ℕ
disk_place s i j = (i * per s + j) * size s

-- guest clusters (i, j) to (i, j + n) are in one table, and the tables cover a disk of this many bytes
pub record IsRange (s : Shape) (total i j n : ℕ) : Type 0 where
  pub shape : IsShape s
  pub covers : total ≤ s.tables * per s * size s
  pub index : i < s.tables
  pub slots : j + n ≤ per s

-- bytes at this offset of the image, in clusters k to k + n, which are those of (i, j) to (i, j + n), are these of the disk from `spot` on
pub record IsSpan (s : Shape) (total k n i j at long spot : ℕ) : Type 0 where
  pub range : IsRange s total i j n
  pub some : 0 < k
  pub low : place s k ≤ at
  pub high : at + long ≤ place s (k + n)
  pub is : spot ≡ disk_place s i j + (at - place s k)
  pub inside : spot + long ≤ total

-- zeros for n clusters from (i, j) on, as far as the disk goes
abbrev pub zeros_from : Shape → ℕ → ℕ → ℕ → ℕ → List ℕ
zeros_from s total i j n = replicate (min (n * size s) (total - disk_place s i j)) 0
