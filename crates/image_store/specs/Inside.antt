-- What a source's struct holds.
use Rattle.std.specs.Prelude.{◌≡◌}
use Rattle.qc_map.specs.Mapping.{IsMapping}
use Rattle.image_store.specs.declared.source.Source.TheInside.{Inside}
use Rattle.image_store.specs.Images.{Image}

abbrev pub image_of : Inside → Image
image_of s = record { id = s.disk; epoch = s.epoch; map = s.map; clusters = s.clusters; event = s.event; broken = s.broken }

-- map and allocator are of one image, whose file it keeps
pub record IsInside (s : Inside) : Type 0 where
  pub mapping : IsMapping s.map
  pub own : s.file.0 ≡ s.map.file
  pub file : s.clusters.file ≡ s.map.file
  pub bits : s.clusters.pool.bits ≡ s.map.bits
