-- What a cluster map goes by: where its tables stand, and for which disk.
use Rattle.std.specs.Prelude.{◌≡◌, ℕ, ◌+◌, ◌*◌, ◌/◌, ◌%◌, ◌^◌, ◌≤◌, None, []}
use Rattle.qc_layout.specs.declared.header.Fields.{Fields}
use Rattle.image_model.specs.Clusters.{Shape, size, IsShape}
use Rattle.qc_map.specs.declared.layout.Layout.{Layout}

pub record Mapping : Type 0 where
  -- the image's file, and bits of a cluster's size
  pub file : ℕ
  pub bits : ℕ
  -- bytes of the guest's disk
  pub size : ℕ
  -- where the first level stands, and its entries
  pub first_level : ℕ
  pub tables : ℕ

-- what holds of each
pub record IsMapping (m : Mapping) : Type 0 where
  pub low : 9 ≤ m.bits
  pub high : m.bits ≤ 21
  pub small : m.size ≤ 2 ^ 40
  pub whole : m.size % 512 ≡ 0
  pub near : m.first_level + 8 * m.tables ≤ 2 ^ 62
  -- the tables cover the disk
  pub covers : m.size ≤ m.tables * (2 ^ m.bits / 8) * 2 ^ m.bits

-- that of a header
abbrev pub mapping_of : ℕ → Fields → Mapping
mapping_of file fields = record { file = file; bits = fields.cluster_bits; size = fields.size; first_level = fields.l1_table_offset; tables = fields.l1_size }

-- and of what a map keeps of it
abbrev pub mapping : Layout → Mapping
mapping l = record { file = l.file.0; bits = l.cluster_bits; size = l.size; first_level = l.first_level; tables = l.tables }

-- its numbers are those of the shape
pub record IsMapOf (s : Shape) (m : Mapping) : Type 0 where
  pub shape : IsShape s
  pub cluster : 2 ^ m.bits ≡ size s
  pub first_level : m.first_level ≡ s.l1
  pub tables : m.tables ≡ s.tables

-- a shape with its numbers, and nothing besides
unfoldable pub shape_by : Mapping → Shape
shape_by m = record { sectors = 2 ^ m.bits / 512; counts = 0; blocks = 0; l1 = m.first_level; tables = m.tables; reach = 0; owner = λ k. None; base = [] }
