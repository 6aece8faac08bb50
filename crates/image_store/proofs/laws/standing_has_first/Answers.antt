use Rattle.image_store.proofs.First.{has_first}
use Rattle.image_store.proofs.laws.standing_has_first.Goals as goal

pub returns : goal.returns
returns c i disk mixed w told is = has_first i is told
