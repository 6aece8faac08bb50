use Rattle.std.proofs.Common.{◌+◌, sym, ap, subst, ◌∙◌}
use Rattle.std.specs.Prelude.{nat_lt, ◌&&◌}
use Rattle.cluster_pool.specs.Pool.{Pool, IsPool, reach, is_open, fresh}
use Rattle.cluster_pool.proofs.Counting.{one_if}
use Rattle.cluster_pool.proofs.Fresh.{fresh_passed}
use Rattle.cluster_pool.proofs.Insides.{inside_passes}
use Rattle.cluster_pool.proofs.pool.Pool.pass.Goals as goal

pub overflow_sub-self : goal.overflow_sub-self
overflow_sub-self c = (inside_passes c.self.inside c.args.self.now c.fresh_next.result c.self.view_is c.self.invariant c.requires c.fresh_next.ensures).0

pub invariant_of-self : goal.invariant_of-self
invariant_of-self c = (inside_passes c.self.inside c.args.self.now c.fresh_next.result c.self.view_is c.self.invariant c.requires c.fresh_next.ensures).1

pub returns-clause-fresh : goal.returns-clause-fresh
returns-clause-fresh c =
    let q : Pool = c.args.self.now in
    fresh_passed q (subst IsPool c.self.view_is c.self.invariant.pool) c.requires
    ∙ ap (λ (o : Pool). fresh (record o { next = o.next + 1 }) + one_if (nat_lt q.next (reach q) && is_open q q.next)) (sym c.self.view_is)
