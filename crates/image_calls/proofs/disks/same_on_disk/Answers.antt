use Rattle.image_steps.proofs.OnDisk.{disk_same}
use Rattle.image_calls.proofs.disks.same_on_disk.Goals as goal

pub returns : goal.returns
returns c = disk_same
