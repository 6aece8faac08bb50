-- What a caller of the allocator needs of a hole, and has afterwards.
use Rattle.std.specs.Prelude.{◌≡◌, ℕ, ◌+◌, ◌<◌, List}
use Rattle.disk_model.specs.Files.{byte}
use Rattle.disk_model.specs.World.{World}
use Rattle.image_model.specs.Clusters.{Shape, size, place}
use Rattle.image_model.specs.Calls.{Told}
use Rattle.image_model.specs.Runs.{IsSlots, AreOpen}

-- entry j of the guest's table i lies here, in cluster q, and names nothing
pub record IsHole (s : Shape) (q i j spot f : ℕ) (w : World) : Type 0 where
  pub slots : IsSlots s q i j 1 spot
  pub opened : Told (AreOpen s q i j 1) f w

-- cluster k has these bytes
abbrev pub IsFull : Shape → ℕ → List ℕ → List ℕ → Type 0
IsFull s k bytes file = (t : ℕ) → t < size s → byte file (place s k + t) ≡ byte bytes t
