use Rattle.qback_top.proofs.OrderLaws.{stays_inside}
use Rattle.qback_top.proofs.laws.history_stays_inside.Goals as goal

pub returns : goal.returns
returns c = stays_inside
