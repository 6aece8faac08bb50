use Rattle.image_steps.proofs.OnDisk.{disk_stored}
use Rattle.image_calls.proofs.disks.stored_on_disk.Goals as goal

pub returns : goal.returns
returns c s total k n i j at spot words bytes old new span leaves = disk_stored s total k n i j at spot bytes old new span leaves words
