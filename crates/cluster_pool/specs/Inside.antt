-- What a pool's struct holds, and the pool that it stands for.
use Rattle.std.specs.Prelude.{◌≡◌, ◌≤◌}
use Rattle.std.specs.VecDeque.{deque_capacity}
use Rattle.cluster_pool.specs.declared.pool.Pool.TheInside.{Inside}
use Rattle.cluster_pool.specs.Pool.{Pool, IsPool, reach, fresh, most_ready}

abbrev pub pool_view : Inside → Pool
pool_view p = record {
  bits = p.cluster_bits;
  blocks = p.blocks.items;
  spoken = p.spoken;
  counted = p.counted;
  from = p.from;
  ready = p.ready.items;
  next = p.next;
  prepared = p.prepared;
}

pub record IsInside (p : Inside) : Type 0 where
  pub pool : IsPool (pool_view p)
  pub reach : p.reach ≡ reach (pool_view p)
  pub fresh : p.fresh ≡ fresh (pool_view p)
  pub capacity : most_ready ≤ deque_capacity p.ready
