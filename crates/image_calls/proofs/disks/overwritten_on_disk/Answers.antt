use Rattle.image_steps.proofs.OnDisk.{disk_overwritten}
use Rattle.image_calls.proofs.disks.overwritten_on_disk.Goals as goal

pub returns : goal.returns
returns c s total k n i j at spot bytes old new span leaves = disk_overwritten s total k n i j at spot bytes old new span leaves
