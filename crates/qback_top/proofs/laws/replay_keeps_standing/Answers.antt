use Rattle.qback_top.proofs.Standing.{keeps_standing}
use Rattle.qback_top.proofs.laws.replay_keeps_standing.Goals as goal

pub returns : goal.returns
returns c = keeps_standing
