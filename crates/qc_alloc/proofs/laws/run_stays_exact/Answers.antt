use Rattle.qc_alloc.proofs.Runs.{run_exact, run_named}
use Rattle.qc_alloc.proofs.laws.run_stays_exact.Goals as goal

pub returns : goal.returns
returns c = λ s a b old new count first is of run had has leaves tables exact.
    (run_exact s a b old new count first is of run had has leaves tables exact, run_named s a b old new count first is of run had has leaves tables exact)
