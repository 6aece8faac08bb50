use Rattle.image_steps.proofs.OnDisk.{disk_partly}
use Rattle.image_calls.proofs.disks.partly_overwritten.Goals as goal

pub returns : goal.returns
returns c s total k n i j at spot bytes old new span leaves = disk_partly s total k n i j at spot bytes old new span leaves
