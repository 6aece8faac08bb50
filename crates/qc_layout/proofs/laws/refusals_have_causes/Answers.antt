use Rattle.qc_layout.proofs.Opening.{fault_cause}
use Rattle.qc_layout.proofs.laws.refusals_have_causes.Goals as goal

pub returns : goal.returns
returns c = fault_cause
