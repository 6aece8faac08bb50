use Rattle.image_steps.proofs.Records.{record_taken}
use Rattle.image_calls.proofs.laws.backups_take_records.Goals as goal

pub returns : goal.returns
returns c = record_taken
