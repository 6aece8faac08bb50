use Rattle.qc_layout.proofs.Replaced.{records_are_replaced}
use Rattle.qc_layout.proofs.laws.records_are_replaced.Goals as goal

pub returns : goal.returns
returns c = records_are_replaced
