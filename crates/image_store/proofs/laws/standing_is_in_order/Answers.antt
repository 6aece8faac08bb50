use Rattle.image_store.proofs.Stood.{standing_is_in_order}
use Rattle.image_store.proofs.laws.standing_is_in_order.Goals as goal

pub returns : goal.returns
returns c = standing_is_in_order
