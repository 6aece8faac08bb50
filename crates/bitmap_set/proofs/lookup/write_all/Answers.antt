use Rattle.std.proofs.Common.{arith}
use Rattle.std.proofs.lemmas.Grind.{common_steps}
use Rattle.bitmap_set.proofs.Places.{mapped_more, mapped_here}
use Rattle.bitmap_set.proofs.lookup.write_all.Goals as goal

pub loop-bitmap-preserved : goal.loop-bitmap-preserved
loop-bitmap-preserved c = grind (arith, common_steps, mapped_more, mapped_here)
