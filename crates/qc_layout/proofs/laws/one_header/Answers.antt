use Rattle.qc_layout.proofs.HeaderLaws.{one_header}
use Rattle.qc_layout.proofs.laws.one_header.Goals as goal

pub returns : goal.returns
returns c = one_header
