use Rattle.std.proofs.Common.{◌≡◌, ℕ, ◌+◌, ◌≤◌, true, List, [], ◌∷◌, ◌++◌, length, refl, sym, ap, subst, ◌∙◌, arith}
use Rattle.std.specs.Prelude.{nat_lt, ◌&&◌}
use Rattle.std.proofs.lemmas.Bool.{lt-ltb}
use Rattle.std.proofs.lemmas.Grind.{common_steps}
use Rattle.cluster_pool.specs.Inside.{pool_view}
use Rattle.cluster_pool.specs.Pool.{Pool, IsPool, is_open, fresh, reach}
use Rattle.cluster_pool.proofs.Counting.{one_if}
use Rattle.cluster_pool.proofs.Fresh.{fresh_same}
use Rattle.cluster_pool.proofs.Keeping.{pool_stepped}
use Rattle.cluster_pool.proofs.pool.Pool.step.Goals as goal

stepped_is : (p q : Pool) (k : ℕ) (ks : List ℕ) → p ≡ record q { next = q.next + 1 } → k ≡ q.next → ks ≡ p.ready ++ k ∷ []
    → record p { ready = ks } ≡ record q { next = q.next + 1; ready = q.ready ++ q.next ∷ [] }
stepped_is p q k ks was first e =
    ap (λ (ms : List ℕ). record p { ready = ms }) e
    ∙ (ap (λ (x : ℕ). record p { ready = p.ready ++ x ∷ [] }) first ∙ ap (λ (o : Pool). record o { ready = o.ready ++ q.next ∷ [] }) was)

pub invariant_of-self : goal.invariant_of-self
invariant_of-self c =
    let q : Pool = c.args.self.now in
    let p : Pool = pool_view c.self-2.inside in
    let ks : List ℕ = c.push_back_reserved.new.self.items in
    let first : c.self.inside.next ≡ q.next = ap (λ (o : Pool). o.next) c.self.view_is in
    let same = stepped_is p q c.self.inside.next ks (c.self-2.view_is ∙ c.pass.ensures.passed) first c.push_back_reserved.ensures.items in
    let opens : is_open q q.next ≡ true = ap (is_open q) (sym first) ∙ (sym c.is_open-opens.ensures ∙ c.if-opens.true) in
    record {
      pool = subst IsPool (sym same)
          (pool_stepped q (subst IsPool c.self.view_is c.self.invariant.pool) c.requires.prepared c.requires.below c.requires.few opens);
      reach = c.self-2.invariant.reach;
      fresh = c.self-2.invariant.fresh ∙ sym (fresh_same p (record p { ready = ks }) refl refl (λ _ _ _. refl));
      capacity = subst (λ (n : ℕ). 64 ≤ n) (sym c.push_back_reserved.ensures.capacity) c.self-2.invariant.capacity;
    }

pub returns-then-opens-clause-room : goal.returns-then-opens-clause-room
returns-then-opens-clause-room c =
    let q : Pool = c.args.self.now in
    let p : Pool = pool_view c.self-2.inside in
    let ks : List ℕ = c.push_back_reserved.new.self.items in
    let first : c.self.inside.next ≡ q.next = ap (λ (o : Pool). o.next) c.self.view_is in
    let opens : is_open q q.next ≡ true = ap (is_open q) (sym first) ∙ (sym c.is_open-opens.ensures ∙ c.if-opens.true) in
    let one : one_if (nat_lt q.next (reach q) && is_open q q.next) ≡ 1 =
    ap (λ b. one_if (b && is_open q q.next)) (lt-ltb q.next (reach q) c.requires.below) ∙ ap one_if opens in
    let less : fresh q ≡ fresh c.pass.new.self + one_if (nat_lt q.next (reach q) && is_open q q.next) = c.pass.ensures.fresh in
    let kept : fresh (record p { ready = ks }) ≡ fresh c.pass.new.self = fresh_same p (record p { ready = ks }) refl refl (λ _ _ _. refl) ∙ ap fresh c.self-2.view_is in
    let ready : p.ready ≡ q.ready = ap (λ (o : Pool). o.ready) (c.self-2.view_is ∙ c.pass.ensures.passed) in
    let long : length ks ≡ length q.ready + 1 = ap length c.push_back_reserved.ensures.items ∙ (grind (arith, common_steps)) in
    omega arith
