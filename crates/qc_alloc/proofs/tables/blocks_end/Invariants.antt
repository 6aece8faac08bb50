use Rattle.qc_alloc.proofs.Finding.{EndsAt}
use Rattle.qc_alloc.proofs.tables.blocks_end.Given as goal

abbrev pub invariant-loop-index : goal.invariant-loop-index
invariant-loop-index l = EndsAt l.blocks l.index l.end
