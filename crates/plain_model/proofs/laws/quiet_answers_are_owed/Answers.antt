use Rattle.plain_model.proofs.Quiet.{quiet_owed}
use Rattle.plain_model.proofs.laws.quiet_answers_are_owed.Goals as goal

pub returns : goal.returns
returns c = quiet_owed
