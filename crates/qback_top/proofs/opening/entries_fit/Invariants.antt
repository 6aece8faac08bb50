use Rattle.qback_top.specs.Open.{EntriesFit}
use Rattle.qback_top.proofs.opening.entries_fit.Given as goal

abbrev pub invariant-loop-n : goal.invariant-loop-n
invariant-loop-n l = EntriesFit l.entries l.l1 l.table l.end l.n
