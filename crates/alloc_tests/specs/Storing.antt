-- What stands after data was stored.
use Rattle.std.specs.Prelude.{ℕ, List}
use Rattle.disk_model.specs.World.{World}
use Rattle.image_model.specs.Clusters.{Shape}
use Rattle.qc_alloc.specs.Allocator.{Allocator, Allocates}

-- the image stands, and the allocator knows it
abbrev pub AllocatesSome : Shape → List (List ℕ) → Allocator → World → Type 0
AllocatesSome s disks a w = (first : ℕ) × Allocates s disks first a w
