use Rattle.std.proofs.Common.{◌≡◌, length}
use Rattle.bitmap_model.specs.Granules.{is_in}
use Rattle.qc_alloc.specs.Settling.{AreCountsOf}
use Rattle.qc_alloc.proofs.settling.write_counts.Given as goal

abbrev pub invariant-loop-index : goal.invariant-loop-index
invariant-loop-index l = (length l.counts.items ≡ length l.fn.counts.items) × AreCountsOf (is_in l.pool.spoken) l.from l.index l.counts.items
