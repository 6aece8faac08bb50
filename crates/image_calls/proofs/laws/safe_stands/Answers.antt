use Rattle.image_steps.proofs.Disk.{disk_stands}
use Rattle.image_calls.proofs.laws.safe_stands.Goals as goal

pub returns : goal.returns
returns c = disk_stands
