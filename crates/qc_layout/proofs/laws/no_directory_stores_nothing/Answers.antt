use Rattle.qc_layout.proofs.Directories.{stores_nothing}
use Rattle.qc_layout.proofs.laws.no_directory_stores_nothing.Goals as goal

pub returns : goal.returns
returns c = stores_nothing
