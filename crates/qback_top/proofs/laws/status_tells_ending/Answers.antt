use Rattle.qback_top.proofs.OneDue.{status_tells}
use Rattle.qback_top.proofs.laws.status_tells_ending.Goals as goal

pub returns : goal.returns
returns c = status_tells
