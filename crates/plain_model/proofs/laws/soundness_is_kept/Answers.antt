use Rattle.plain_model.proofs.Steps.{step_is_sound}
use Rattle.plain_model.proofs.laws.soundness_is_kept.Goals as goal

pub returns : goal.returns
returns c = step_is_sound
