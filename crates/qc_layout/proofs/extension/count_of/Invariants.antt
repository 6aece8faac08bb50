use Rattle.std.proofs.Common.{◌≡◌, ◌+◌, ◌≤◌, drop}
use Rattle.qc_layout.specs.Extensions.{count_of}
use Rattle.qc_layout.proofs.extension.count_of.Given as goal

abbrev pub invariant-loop-e : goal.invariant-loop-e
invariant-loop-e l = (l.count ≤ l.e-index) × (l.count + count_of l.kind (drop l.e-index l.extensions) ≡ count_of l.kind l.extensions)
