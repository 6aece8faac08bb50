use Rattle.plain_model.proofs.RecordLaws.{record-entry}
use Rattle.plain_model.proofs.laws.record_stays_true.Goals as goal

pub returns : goal.returns
returns c h entry b holds = record-entry h entry b holds
