use Rattle.image_steps.proofs.Disk.{disk_mixed}
use Rattle.image_calls.proofs.laws.safe_is_mixed.Goals as goal

pub returns : goal.returns
returns c = disk_mixed
