use Rattle.plain_model.proofs.Leaving.{closed_is_sound}
use Rattle.plain_model.proofs.laws.closing_is_sound.Goals as goal

pub returns : goal.returns
returns c = closed_is_sound
