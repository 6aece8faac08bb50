use Rattle.qc_alloc.proofs.Naming.{use_leaves}
use Rattle.qc_alloc.proofs.laws.use_leaves_image.Goals as goal

pub returns : goal.returns
returns c = use_leaves
