use Rattle.qc_alloc.proofs.Exact.{stays_exact, stays_whole}
use Rattle.qc_alloc.proofs.laws.prepared_stays_exact.Goals as goal

pub returns : goal.returns
returns c = λ s a b old new is of raises had has leaves tables exact.
    (stays_exact s a b old new is of raises had has leaves tables exact, stays_whole s a b old new is of raises had has leaves tables exact)
