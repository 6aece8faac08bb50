-- What an allocator's struct holds, and the allocator that it stands for.
use Rattle.std.specs.Prelude.{◌≡◌, ◌*◌, ◌^◌, ◌≤◌, min, length}
use Rattle.cluster_pool.specs.Pool.{each}
use Rattle.qc_alloc.specs.declared.clusters.Clusters.TheInside.{Inside}
use Rattle.qc_alloc.specs.Allocator.{Allocator, IsAllocator}

abbrev pub allocator_view : Inside → Allocator
allocator_view c = record { file = c.file.0; table = c.table; pool = c.pool }

pub record IsInside (c : Inside) : Type 0 where
  pub allocator : IsAllocator (allocator_view c)
  -- a buffer for counts, at most those of one block
  pub counts : length c.counts.items ≡ 2 * min (each c.pool) (2 ^ 15)
  -- how many clusters the last call prepared, at most
  pub batch : c.batch ≤ 2 ^ 30
