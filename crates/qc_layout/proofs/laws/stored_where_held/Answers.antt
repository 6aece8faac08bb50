use Rattle.qc_layout.proofs.SameStored.{stored_where_held}
use Rattle.qc_layout.proofs.laws.stored_where_held.Goals as goal

pub returns : goal.returns
returns c = stored_where_held
