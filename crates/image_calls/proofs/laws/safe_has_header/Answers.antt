use Rattle.image_steps.proofs.Bridge.{safe_header}
use Rattle.image_calls.proofs.laws.safe_has_header.Goals as goal

pub returns : goal.returns
returns c = safe_header
