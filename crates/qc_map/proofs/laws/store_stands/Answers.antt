use Rattle.qc_map.proofs.Storing.{store_stands}
use Rattle.qc_map.proofs.laws.store_stands.Goals as goal

pub returns : goal.returns
returns c = store_stands
