use Rattle.std.proofs.Common.{◌≡◌, ◌-◌}
use Rattle.cluster_pool.specs.Pool.{HasAll}
use Rattle.cluster_pool.proofs.pool.Pool.take_run.Given as goal

abbrev pub invariant-loop-index : goal.invariant-loop-index
invariant-loop-index l = record {
  spoken : HasAll l.initial.self.spoken l.self.spoken l.first (l.index - l.first);
  is : l.self ≡ record l.initial.self { spoken = l.self.spoken; next = l.index };
}
