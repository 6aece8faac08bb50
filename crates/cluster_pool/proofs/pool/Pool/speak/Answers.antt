use Rattle.std.proofs.Common.{refl}
use Rattle.cluster_pool.specs.Sets.{with_member}
use Rattle.cluster_pool.proofs.Insides.{inside_speaks}
use Rattle.cluster_pool.proofs.pool.Pool.speak.Goals as goal

pub overflow_sub-self : goal.overflow_sub-self
overflow_sub-self c =
    (inside_speaks c.self.inside c.args.self.now c.args.index c.fresh_at.result (with_member c.self.inside.spoken c.args.index) c.self.view_is c.self.invariant
    c.requires.below c.requires.unspoken c.requires.unready refl c.fresh_at.ensures).0

pub invariant_of-self : goal.invariant_of-self
invariant_of-self c =
    (inside_speaks c.self.inside c.args.self.now c.args.index c.fresh_at.result c.insert.new.self c.self.view_is c.self.invariant
    c.requires.below c.requires.unspoken c.requires.unready c.insert.ensures c.fresh_at.ensures).1
