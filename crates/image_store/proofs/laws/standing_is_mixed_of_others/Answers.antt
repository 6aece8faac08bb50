use Rattle.image_store.proofs.Stood.{standing_is_mixed_of_others}
use Rattle.image_store.proofs.laws.standing_is_mixed_of_others.Goals as goal

pub returns : goal.returns
returns c = standing_is_mixed_of_others
