use Rattle.core_node.proofs.Refusals.{closed_bitmaps}
use Rattle.core_node.proofs.laws.closed_stores_bitmaps.Goals as goal

pub returns : goal.returns
returns c = closed_bitmaps
