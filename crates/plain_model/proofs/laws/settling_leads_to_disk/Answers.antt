use Rattle.plain_model.proofs.SettleLaws.{settles}
use Rattle.plain_model.proofs.laws.settling_leads_to_disk.Goals as goal

pub returns : goal.returns
returns c = settles
