use Rattle.std.proofs.Common.{◌≡◌, ◌<◌}
use Rattle.alloc_tests.proofs.images.take_each.Given as goal

abbrev pub invariant-loop-index : goal.invariant-loop-index
invariant-loop-index g l = (l.clusters.file ≡ l.fn.clusters.file) × (l.clusters.file < (g.D.Outside.world l.depot).given)
