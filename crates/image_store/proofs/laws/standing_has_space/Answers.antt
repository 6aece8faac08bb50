use Rattle.image_store.proofs.Space.{standing_has_space}
use Rattle.image_store.proofs.laws.standing_has_space.Goals as goal

pub returns : goal.returns
returns c = standing_has_space
