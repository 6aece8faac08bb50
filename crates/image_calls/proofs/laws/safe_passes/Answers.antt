use Rattle.image_steps.proofs.Bridge.{safe_passes}
use Rattle.image_calls.proofs.laws.safe_passes.Goals as goal

pub returns : goal.returns
returns c = safe_passes
