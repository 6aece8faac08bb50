use Rattle.image_steps.proofs.Found.{loadable_opens}
use Rattle.image_calls.proofs.laws.loadable_opens.Goals as goal

pub returns : goal.returns
returns c = loadable_opens
