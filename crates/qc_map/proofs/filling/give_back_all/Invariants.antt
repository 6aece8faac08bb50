use Rattle.std.proofs.Common.{◌+◌, ◌≤◌, ◌<◌}
use Rattle.qc_map.specs.Filling.{ChangesSpoken}
use Rattle.qc_map.proofs.filling.give_back_all.Given as goal

abbrev pub invariant-loop-behind : goal.invariant-loop-behind
invariant-loop-behind l = ChangesSpoken l.fn.clusters l.clusters (λ k. (l.fn.taken.first ≤ k) × (k < l.fn.taken.first + l.behind))
