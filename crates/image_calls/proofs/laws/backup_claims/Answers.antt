use Rattle.image_steps.proofs.Found.{backup_claims}
use Rattle.image_calls.proofs.laws.backup_claims.Goals as goal

pub returns : goal.returns
returns c = backup_claims
