use Rattle.std.proofs.Common.{◌≡◌, drop}
use Rattle.qc_layout.specs.Extensions.{first_of_kind}
use Rattle.qc_layout.proofs.extension.first_of_kind.Given as goal

abbrev pub invariant-loop-e : goal.invariant-loop-e
invariant-loop-e l = first_of_kind l.kind (drop l.e-index l.extensions) ≡ first_of_kind l.kind l.extensions
