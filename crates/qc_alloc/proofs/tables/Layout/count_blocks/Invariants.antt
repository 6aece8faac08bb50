use Rattle.std.proofs.Common.{◌≡◌, ◌-◌, ◌≤◌, length, IsTrue}
use Rattle.disk_model.specs.World.{Runs, reads_of, IsQuiet}
use Rattle.qc_alloc.proofs.Refcounts.{HasCounted}
use Rattle.qc_alloc.proofs.tables.Layout.count_blocks.Given as goal

abbrev pub invariant-loop-index : goal.invariant-loop-index
invariant-loop-index g l =
    Runs (reads_of l.file.0) (g.D.Outside.world l.initial.depot) (g.D.Outside.world l.depot)
    × (l.counted.limit ≡ l.initial.counted.limit)
    × (l.counted.limit ≡ length l.counted.set)
    × (IsTrue (g.D.Outside.world l.initial.depot).tells → HasCounted l.self ((g.D.Outside.world l.initial.depot).seen l.file.0) l.blocks l.initial.counted.set l.initial.counted.past l.index l.counted.set l.counted.past)
    × (l.index ≤ length l.blocks)
    × IsQuiet (g.D.Outside.world l.initial.depot) (g.D.Outside.world l.depot)

abbrev pub decreases-loop-index : goal.decreases-loop-index
decreases-loop-index g l = length l.blocks - l.index
