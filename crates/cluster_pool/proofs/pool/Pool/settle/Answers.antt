use Rattle.std.proofs.Common.{refl, sym, ◌∙◌}
use Rattle.cluster_pool.specs.Inside.{pool_view}
use Rattle.cluster_pool.specs.Pool.{Pool}
use Rattle.cluster_pool.proofs.Fresh.{fresh_same}
use Rattle.cluster_pool.proofs.Keeping.{pool_settled}
use Rattle.cluster_pool.proofs.pool.Pool.settle.Goals as goal

pub invariant_of-self : goal.invariant_of-self
invariant_of-self c =
    let p : Pool = pool_view c.self.inside in
    record {
      pool = pool_settled p c.clear.new.self c.self.invariant.pool;
      reach = c.self.invariant.reach;
      fresh = c.self.invariant.fresh ∙ sym (fresh_same p (record p { counted = c.clear.new.self; from = p.prepared }) refl refl (λ _ _ _. refl));
      capacity = c.self.invariant.capacity;
    }
