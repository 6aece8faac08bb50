use Rattle.qc_layout.proofs.Directories.{stored_is_shaped}
use Rattle.qc_layout.proofs.laws.stored_is_shaped.Goals as goal

pub returns : goal.returns
returns c = stored_is_shaped
