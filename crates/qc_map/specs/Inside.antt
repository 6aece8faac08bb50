-- What a map's struct holds.
use Rattle.std.specs.Prelude.{◌≡◌, ◌^◌, length, replicate}
use Rattle.qc_map.specs.declared.map.Map.TheInside.{Inside}
use Rattle.qc_map.specs.Mapping.{IsMapping, mapping}

pub record IsInside (m : Inside) : Type 0 where
  pub mapping : IsMapping (mapping m.layout)
  -- a buffer for the entries of one table
  pub long : length m.entries.items ≡ 2 ^ m.layout.cluster_bits
  -- and as many zeros
  pub zeros : m.zeros.items ≡ replicate (2 ^ m.layout.cluster_bits) 0
