use Rattle.qc_alloc.proofs.Claiming.{HasClaimed}
use Rattle.qc_alloc.proofs.opening.claim_blocks.Given as goal

abbrev pub invariant-loop-index : goal.invariant-loop-index
invariant-loop-index l = HasClaimed l.initial.pool l.pool l.index
