use Rattle.plain_model.proofs.CopyLaws.{completed_is_true}
use Rattle.plain_model.proofs.laws.completed_record_is_true.Goals as goal

pub returns : goal.returns
returns c = completed_is_true
