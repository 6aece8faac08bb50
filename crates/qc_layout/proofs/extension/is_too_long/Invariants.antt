use Rattle.std.proofs.Common.{◌≡◌, ◌+◌, ◌≤◌, drop}
use Rattle.qc_layout.specs.Extensions.{kept_length}
use Rattle.qc_layout.proofs.extension.is_too_long.Given as goal

abbrev pub invariant-loop-e : goal.invariant-loop-e
invariant-loop-e l = (l.total + kept_length (drop l.e-index l.extensions) ≡ l.header_length + kept_length l.extensions + 48 + 32 + 8) × (l.total ≤ 600)
