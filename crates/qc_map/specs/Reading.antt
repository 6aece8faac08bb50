-- Entries that were read, and the bytes of their clusters.
use Rattle.std.specs.Prelude.{◌≡◌, ℕ, ◌+◌, ◌*◌, ◌/◌, ◌%◌, ◌<◌, ◌≤◌, List}
use Rattle.disk_model.specs.Files.{byte, u64_at}
use Rattle.image_model.specs.Clusters.{Shape, size, per, stored, pick, word_of}
use Rattle.map_rows.specs.declared.parts.Part.{Part}
use Rattle.qc_map.specs.Mapping.{Mapping, shape_by}

-- these are the words of guest clusters (i, j) to (i, j + n), as a file has them
pub record IsRow (s : Shape) (file : List ℕ) (i j n : ℕ) (row : List ℕ) : Type 0 where
  pub each : (m : ℕ) → m < n → u64_at row (8 * m) ≡ word_of s file i (j + m)

-- byte y of the clusters of a row, each of so many bytes
abbrev pub row_byte : ℕ → List ℕ → List ℕ → ℕ → ℕ
row_byte size row file y = pick (stored (u64_at row (8 * (y / size)))) (byte file (stored (u64_at row (8 * (y / size))) + y % size))

-- the part lies in one of the map's tables, and in the clusters of its entries
pub record IsPartFor (m : Mapping) (p : Part) : Type 0 where
  pub table : p.table < m.tables
  pub slots : p.slot + p.count ≤ per (shape_by m)
  pub inside : p.from < size (shape_by m)
  pub covers : p.from + p.length ≤ size (shape_by m) * p.count
