use Rattle.backup_file.proofs.Sizes.{blocks_least}
use Rattle.backup_file.proofs.laws.blocks_are_least.Goals as goal

pub returns : goal.returns
returns c bits size low high = blocks_least bits size low high
