use Rattle.qc_alloc.proofs.Naming.{table_exact}
use Rattle.qc_alloc.proofs.laws.table_stays_exact.Goals as goal

pub returns : goal.returns
returns c = λ s t i word old new taken taken_on shape none. table_exact s t i word old new taken taken_on shape.some
