use Rattle.image_store.proofs.Space.{space_is_of_reads}
use Rattle.image_store.proofs.laws.space_is_of_reads.Goals as goal

pub returns : goal.returns
returns c = space_is_of_reads
