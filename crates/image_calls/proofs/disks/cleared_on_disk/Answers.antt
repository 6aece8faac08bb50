use Rattle.image_steps.proofs.OnDisk.{disk_cleared}
use Rattle.image_calls.proofs.disks.cleared_on_disk.Goals as goal

pub returns : goal.returns
returns c s total i j n old new range leaves = disk_cleared s total i j n old new range leaves
