use Rattle.qc_layout.proofs.Directories.{finds_as_spelled}
use Rattle.qc_layout.proofs.laws.finds_as_spelled.Goals as goal

pub returns : goal.returns
returns c = finds_as_spelled
