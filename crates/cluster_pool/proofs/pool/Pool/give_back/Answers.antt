use Rattle.std.proofs.Common.{◌+◌, ◌^◌, ◌≤◌, refl, rules}
use Rattle.cluster_pool.specs.Sets.{without_member}
use Rattle.cluster_pool.proofs.Insides.{inside_gives}
use Rattle.cluster_pool.proofs.pool.Pool.give_back.Goals as goal

pub overflow_add-self : goal.overflow_add-self
overflow_add-self c =
    let few : c.self.inside.fresh + c.fresh_at.result ≤ 2 ^ 30 =
    (inside_gives c.self.inside c.args.self.now c.args.index c.fresh_at.result (without_member c.self.inside.spoken c.args.index) c.self.view_is c.self.invariant
    c.requires refl c.fresh_at.ensures).0 in
    search rules

pub invariant_of-self : goal.invariant_of-self
invariant_of-self c =
    (inside_gives c.self.inside c.args.self.now c.args.index c.fresh_at.result c.remove.new.self c.self.view_is c.self.invariant c.requires c.remove.ensures c.fresh_at.ensures).1
