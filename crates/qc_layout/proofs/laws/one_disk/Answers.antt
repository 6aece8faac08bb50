use Rattle.qc_layout.proofs.OneDisk.{one_disk}
use Rattle.qc_layout.proofs.laws.one_disk.Goals as goal

pub returns : goal.returns
returns c = one_disk
