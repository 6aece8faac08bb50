use Rattle.std.proofs.Common.{◌≡◌, ◌-◌, ◌≤◌, []}
use Rattle.cluster_pool.proofs.pool.Pool.empty.Given as goal

abbrev pub invariant-loop-self : goal.invariant-loop-self
invariant-loop-self l = record {
  is : l.self ≡ record l.fn.self { ready = []; next = l.self.next };
  order : l.self.next ≤ l.self.prepared;
}

abbrev pub decreases-loop-self : goal.decreases-loop-self
decreases-loop-self l = l.self.prepared - l.self.next
