use Rattle.qc_layout.proofs.NumberLaws.{covered_some}
use Rattle.qc_layout.proofs.checks.l1_needed.Goals as goal

pub overflow_sub-result : goal.overflow_sub-result
overflow_sub-result c = covered_some c.args.bits c.requires.low c.requires.high

pub nonzero_div-result : goal.nonzero_div-result
nonzero_div-result c = covered_some c.args.bits c.requires.low c.requires.high
