use Rattle.std.proofs.Common.{◌/◌}
use Rattle.qc_alloc.proofs.Claiming.{HasTabled}
use Rattle.qc_alloc.proofs.opening.claim_table.Given as goal

abbrev pub invariant-loop-index : goal.invariant-loop-index
invariant-loop-index l = HasTabled l.initial.pool l.pool (l.layout.table / l.layout.cluster) l.index
