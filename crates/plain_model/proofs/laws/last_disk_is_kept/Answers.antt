use Rattle.plain_model.proofs.SettleLaws.{last_kept}
use Rattle.plain_model.proofs.laws.last_disk_is_kept.Goals as goal

pub returns : goal.returns
returns c = last_kept
