use Rattle.image_steps.proofs.OnDisk.{disk_partly_cleared}
use Rattle.image_calls.proofs.disks.partly_cleared.Goals as goal

pub returns : goal.returns
returns c s total q i j n old new range leaves = disk_partly_cleared s total i j n old new range leaves q
