use Rattle.std.proofs.Common.{ℕ, ◌+◌, ◌<◌, ◌≤◌}
use Rattle.std.specs.Prelude.{IsTrue}
use Rattle.cluster_pool.specs.Pool.{is_open, IsRunOf}
use Rattle.cluster_pool.proofs.pool.Pool.find_run.Given as goal

abbrev pub invariant-loop-index : goal.invariant-loop-index
invariant-loop-index l = record {
  from : l.self.next ≤ l.first;
  behind : l.first ≤ l.index;
  short : l.index < l.first + l.count;
  plain : (k : ℕ) → l.first ≤ k → k < l.index → IsTrue (is_open l.self k);
  least : (other : ℕ) → IsRunOf l.self l.count other → l.first ≤ other;
}
