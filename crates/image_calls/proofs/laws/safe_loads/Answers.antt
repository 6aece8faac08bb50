use Rattle.image_steps.proofs.Loads.{safe_loads}
use Rattle.image_calls.proofs.laws.safe_loads.Goals as goal

pub returns : goal.returns
returns c = safe_loads
