use Rattle.image_steps.proofs.Found.{backup_opens}
use Rattle.image_calls.proofs.laws.backup_opens.Goals as goal

pub returns : goal.returns
returns c = backup_opens
