use Rattle.backup_file.proofs.Sizes.{table_least}
use Rattle.backup_file.proofs.laws.table_is_least.Goals as goal

pub returns : goal.returns
returns c bits size low high = table_least bits size low high
