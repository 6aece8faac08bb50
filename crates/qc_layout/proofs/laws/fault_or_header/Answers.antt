use Rattle.qc_layout.proofs.HeaderLaws.{fault_or_header}
use Rattle.qc_layout.proofs.laws.fault_or_header.Goals as goal

pub returns : goal.returns
returns c = fault_or_header
