use Rattle.qc_map.specs.Filling.{AreFreed}
use Rattle.qc_map.proofs.filling.give_back_named.Given as goal

abbrev pub invariant-loop-index : goal.invariant-loop-index
invariant-loop-index l = AreFreed l.fn.clusters l.clusters l.fn.cluster_bits l.index l.fn.row
