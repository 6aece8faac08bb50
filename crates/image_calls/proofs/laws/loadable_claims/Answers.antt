use Rattle.image_steps.proofs.Found.{loadable_claims}
use Rattle.image_calls.proofs.laws.loadable_claims.Goals as goal

pub returns : goal.returns
returns c = loadable_claims
