use Rattle.backup_file.specs.Plans.{PutsOnes}
use Rattle.backup_file.proofs.layout.put_ones.Given as goal

abbrev pub invariant-loop-i : goal.invariant-loop-i
invariant-loop-i l = PutsOnes l.from l.i l.fn.out l.out
