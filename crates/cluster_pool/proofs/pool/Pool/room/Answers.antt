use Rattle.std.proofs.Common.{◌≤◌, ◌^◌, length, arith, rules}
use Rattle.cluster_pool.specs.Inside.{pool_view}
use Rattle.cluster_pool.proofs.Fresh.{fresh_few}
use Rattle.cluster_pool.proofs.pool.Pool.room.Goals as goal

pub overflow_add-result : goal.overflow_add-result
overflow_add-result c =
    let few : c.self.inside.fresh ≤ 2 ^ 30 = omega (arith, c.self.invariant.fresh, fresh_few (pool_view c.self.inside)) in
    let ready : length c.self.inside.ready.items ≤ 64 = c.self.invariant.pool.at_once in
    search rules
