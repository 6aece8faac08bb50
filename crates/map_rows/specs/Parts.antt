-- What one table of the second level maps of a request.
use Rattle.std.specs.Prelude.{◌≡◌, ◌⊎◌, ℕ, ◌+◌, ◌*◌, ◌<◌, ◌≤◌}
use Rattle.image_model.specs.Clusters.{Shape, size, per}
use Rattle.image_model.specs.Rows.{disk_place}
use Rattle.map_rows.specs.declared.parts.Part.{Part}

-- The first part of a request: all of it, or what its table maps from there to the table's end. It touches each of its entries' clusters.
pub record IsPart (s : Shape) (at length : ℕ) (p : Part) : Type 0 where
  pub some : 0 < p.length
  pub within : p.length ≤ length
  pub begins : at ≡ disk_place s p.table p.slot + p.from
  pub inside : p.from < size s
  pub slots : p.slot + p.count ≤ per s
  pub covers : p.from + p.length ≤ size s * p.count
  pub least : size s * p.count < p.from + p.length + size s
  pub rest : (p.length ≡ length) ⊎ ((p.slot + p.count ≡ per s) × (p.from + p.length ≡ size s * p.count))
