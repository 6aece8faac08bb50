use Rattle.core_node.proofs.Refusals.{closed_keeps}
use Rattle.core_node.proofs.laws.closed_keeps_bitmaps.Goals as goal

pub returns : goal.returns
returns c = closed_keeps
