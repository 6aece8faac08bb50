use Rattle.std.proofs.Common.{◌≡◌}
use Rattle.alloc_tests.proofs.images.claim_each.Given as goal

abbrev pub invariant-loop-index : goal.invariant-loop-index
invariant-loop-index l = l.clusters.file ≡ l.fn.clusters.file
