use Rattle.std.proofs.Common.{ℕ, ◌≤◌, List, [], refl, sym, subst, ◌∙◌, arith}
use Rattle.std.proofs.lemmas.List.Elements.{All-nil}
use Rattle.cluster_pool.specs.Inside.{pool_view}
use Rattle.cluster_pool.specs.Pool.{Pool, IsPool, IsReady}
use Rattle.cluster_pool.proofs.Fresh.{fresh_same}
use Rattle.cluster_pool.proofs.Keeping.{pool_ready}
use Rattle.cluster_pool.proofs.pool.Pool.empty.Goals as goal

pub invariant_of-self : goal.invariant_of-self
invariant_of-self c =
    let p : Pool = pool_view c.self.inside in
    record {
      pool = subst (λ (ks : List ℕ). IsPool (record p { ready = ks })) (sym c.clear.ensures.items) (pool_ready p [] c.self.invariant.pool (All-nil (IsReady p)) tt (omega arith));
      reach = c.self.invariant.reach;
      fresh = c.self.invariant.fresh ∙ sym (fresh_same p (record p { ready = c.clear.new.self.items }) refl refl (λ _ _ _. refl));
      capacity = subst (λ (n : ℕ). 64 ≤ n) (sym c.clear.ensures.capacity) c.self.invariant.capacity;
    }
