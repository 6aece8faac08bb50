use Rattle.qback_top.proofs.OneDue.{one_due}
use Rattle.qback_top.proofs.laws.one_ending.Goals as goal

pub returns : goal.returns
returns c = one_due
