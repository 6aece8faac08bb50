use Rattle.qc_alloc.proofs.Naming.{entries_exact}
use Rattle.qc_alloc.proofs.laws.entries_stay_exact.Goals as goal

pub returns : goal.returns
returns c = λ s i j n old new taken taken_on shape once leaves. entries_exact s i j n old new taken taken_on shape.some once leaves.keeps leaves.entries
