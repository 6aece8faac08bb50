use Rattle.qback_top.proofs.OrderLaws.{now-extended}
use Rattle.qback_top.proofs.laws.disk_follows_history.Goals as goal

pub returns : goal.returns
returns c = now-extended
