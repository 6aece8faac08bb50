use Rattle.std.proofs.Common.{◌≡◌, ℕ, ◌≤◌, Bool, not, List, refl, sym, ap, subst, ◌∙◌, rules}
use Rattle.std.specs.Prelude.{filter, ◌==◌}
use Rattle.std.proofs.lemmas.Fn.{filter_same}
use Rattle.cluster_pool.specs.Inside.{pool_view}
use Rattle.cluster_pool.specs.Pool.{Pool, IsPool}
use Rattle.cluster_pool.proofs.Fresh.{fresh_same}
use Rattle.cluster_pool.proofs.Keeping.{pool_dropped}
use Rattle.cluster_pool.proofs.pool.Pool.drop_ready.Goals as goal

pub invariant_of-self : goal.invariant_of-self
invariant_of-self c =
    let p : Pool = pool_view c.self.inside in
    let kept : c.retain.new.self.items ≡ filter (λ m. not (m == c.args.index)) p.ready = filter_same _ _ _ (λ x b f' k. search rules) _ _ c.retain.ensures.filtered in
    record {
      pool = subst (λ (ks : List ℕ). IsPool (record p { ready = ks })) (sym kept) (pool_dropped p c.args.index c.self.invariant.pool);
      reach = c.self.invariant.reach;
      fresh = c.self.invariant.fresh ∙ sym (fresh_same p (record p { ready = c.retain.new.self.items }) refl refl (λ _ _ _. refl));
      capacity = subst (λ (n : ℕ). 64 ≤ n) (sym c.retain.ensures.capacity) c.self.invariant.capacity;
    }

pub returns : goal.returns
returns c =
    let p : Pool = pool_view c.self.inside in
    let test : ℕ → Bool = λ m. not (m == c.args.index) in
    let kept : c.retain.new.self.items ≡ filter test p.ready = filter_same _ _ _ (λ x b f' k. search rules) _ _ c.retain.ensures.filtered in
    ap (λ (ks : List ℕ). record p { ready = ks }) kept ∙ ap (λ (q : Pool). record q { ready = filter test q.ready }) c.self.view_is
