use Rattle.qc_layout.proofs.HeaderLaws.{one_fault}
use Rattle.qc_layout.proofs.laws.one_fault.Goals as goal

pub returns : goal.returns
returns c = one_fault
