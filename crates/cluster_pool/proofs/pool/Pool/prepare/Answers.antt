use Rattle.std.proofs.Common.{◌≡◌, ◌≢◌, ◌+◌, ◌%◌, ◌≤◌, refl, sym, ap, subst, ◌∙◌}
use Rattle.cluster_pool.specs.Inside.{pool_view}
use Rattle.cluster_pool.specs.Pool.{Pool, each, block_of, fresh}
use Rattle.cluster_pool.proofs.Fresh.{fresh_same}
use Rattle.cluster_pool.proofs.Keeping.{pool_prepared}
use Rattle.cluster_pool.proofs.pool.Pool.prepare.Goals as goal

pub invariant_of-self : goal.invariant_of-self
invariant_of-self c =
    let p : Pool = pool_view c.self.inside in
    let back : c.args.self.now ≡ p = sym c.self.view_is in
    record {
      pool = pool_prepared p c.args.count c.self.invariant.pool (subst (λ (q : Pool). block_of q q.prepared ≢ 0) back c.requires.linked)
          (subst (λ (q : Pool). q.prepared % each q + c.args.count ≤ each q) back c.requires.within);
      reach = c.self.invariant.reach;
      fresh = c.self.invariant.fresh ∙ sym (fresh_same p (record p { prepared = p.prepared + c.args.count }) refl refl (λ _ _ _. refl));
      capacity = c.self.invariant.capacity;
    }

pub returns-clause-fresh : goal.returns-clause-fresh
returns-clause-fresh c =
    let p : Pool = pool_view c.self.inside in
    fresh_same p (record p { prepared = p.prepared + c.args.count }) refl refl (λ _ _ _. refl) ∙ ap fresh c.self.view_is
