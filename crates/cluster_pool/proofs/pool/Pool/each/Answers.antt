use Rattle.std.proofs.Common.{◌∙◌, ap}
use Rattle.cluster_pool.specs.Pool.{Pool, each}
use Rattle.cluster_pool.proofs.Sizes.{each_shifted}
use Rattle.cluster_pool.proofs.pool.Pool.each.Goals as goal

pub returns : goal.returns
returns c = each_shifted c.self.inside.cluster_bits c.self.invariant.pool.low c.self.invariant.pool.high ∙ ap (λ (p : Pool). each p) c.self.view_is
