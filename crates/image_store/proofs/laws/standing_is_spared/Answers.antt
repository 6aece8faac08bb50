use Rattle.image_store.proofs.Stood.{standing_is_spared}
use Rattle.image_store.proofs.laws.standing_is_spared.Goals as goal

pub returns : goal.returns
returns c = standing_is_spared
