use Rattle.std.proofs.Common.{◌≡◌, ℕ, ◌+◌, ◌-◌, ◌<◌, ◌≤◌}
use Rattle.cluster_pool.specs.Pool.{IsPool, IsReady, fresh, HasTakenRow}
use Rattle.cluster_pool.proofs.pool.Pool.take_neighbours.Given as goal

abbrev pub invariant-loop-count : goal.invariant-loop-count
invariant-loop-count l = record {
  taken : HasTakenRow l.fn.self l.self l.first l.count;
  most : l.count ≤ l.most;
  ready : (k : ℕ) → l.first ≤ k → k < l.first + l.count → IsReady l.fn.self k;
  fresh : fresh l.self ≡ fresh l.fn.self;
  pool : IsPool l.self;
}

abbrev pub decreases-loop-count : goal.decreases-loop-count
decreases-loop-count l = l.most - l.count
