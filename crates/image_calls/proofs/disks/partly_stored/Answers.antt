use Rattle.image_steps.proofs.OnDisk.{disk_partly_stored}
use Rattle.image_calls.proofs.disks.partly_stored.Goals as goal

pub returns : goal.returns
returns c s total k n q i j at spot words bytes old new span leaves = disk_partly_stored s total k n i j at spot bytes old new span leaves q words
