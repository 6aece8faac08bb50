use Rattle.std.proofs.Common.{length}
use Rattle.qback_top.proofs.Running.{KeepsOn}
use Rattle.qback_top.proofs.replay.run_lines.Given as goal

abbrev pub invariant-loop-rest : goal.invariant-loop-rest
invariant-loop-rest g l = KeepsOn (g.D.Outside.world l.fn.depot) (g.D.Outside.world l.depot) l.fn.image l.image l.rest l.fn.text

abbrev pub decreases-loop-rest : goal.decreases-loop-rest
decreases-loop-rest g l = length l.rest
