use Rattle.std.proofs.Common.{arith}
use Rattle.std.proofs.lemmas.Grind.{common_steps}
use Rattle.cluster_pool.proofs.Words.{none_spelled}
use Rattle.cluster_pool.proofs.set.ClusterSet.new.Goals as goal

pub returns : goal.returns
returns c = none_spelled c.args.count c.in_ok-vec.field-0.items (λ i. grind (arith, common_steps, c.in_ok-vec.ensures.items_if_clones_equal))
