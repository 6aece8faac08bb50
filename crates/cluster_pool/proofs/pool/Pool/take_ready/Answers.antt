use Rattle.std.proofs.Common.{◌≡◌, ℕ, ◌<◌, ◌≤◌, List, Bool, ◌∷◌, length, get_or, sym, ap, subst, ◌∙◌}
use Rattle.std.proofs.lemmas.List.Elements.{All-head}
use Rattle.cluster_pool.specs.Inside.{pool_view}
use Rattle.cluster_pool.specs.Sets.{with_member}
use Rattle.cluster_pool.specs.Pool.{Pool, IsPool, IsReady, fresh}
use Rattle.cluster_pool.proofs.Insides.{fresh_taken}
use Rattle.cluster_pool.proofs.Keeping.{pool_taken}
use Rattle.cluster_pool.proofs.pool.Pool.take_ready.Goals as goal

taken : (p : Pool) (k : ℕ) (rest : List ℕ) (t : List Bool) → IsPool p → p.ready ≡ k ∷ rest → t ≡ with_member p.spoken k → IsPool (record p { ready = rest; spoken = t })
taken p k rest t h first is = subst (λ (x : List Bool). IsPool (record p { ready = rest; spoken = x })) (sym is) (pool_taken p k rest h first)

first_ready : (p : Pool) (k : ℕ) (rest : List ℕ) → IsPool p → p.ready ≡ k ∷ rest → IsReady p k
first_ready p k rest h e = All-head (IsReady p) k rest (subst (λ (ks : List ℕ). (i : ℕ) (d : ℕ) → i < length ks → IsReady p (get_or ks i d)) e h.ready)

pub invariant_of-self : goal.invariant_of-self
invariant_of-self c =
    let p : Pool = pool_view c.self.inside in
    let k : ℕ = c.in-Some.index in
    let rest : List ℕ = c.pop_front.new.self.items in
    let r : IsReady p k = first_ready p k rest c.self.invariant.pool c.in-Some.ensures.items in
    record {
      pool = taken p k rest c.insert.new.self c.self.invariant.pool c.in-Some.ensures.items c.insert.ensures;
      reach = c.self.invariant.reach;
      fresh = c.self.invariant.fresh ∙ (sym (fresh_taken p k rest r.below) ∙ ap (λ (t : List Bool). fresh (record p { ready = rest; spoken = t })) (sym c.insert.ensures));
      capacity = subst (λ (n : ℕ). 64 ≤ n) (sym c.in-Some.ensures.capacity) c.self.invariant.capacity;
    }

pub returns-in-Some-clause-fresh : goal.returns-in-Some-clause-fresh
returns-in-Some-clause-fresh c =
    let p : Pool = pool_view c.self.inside in
    let k : ℕ = c.in-Some.index in
    let rest : List ℕ = c.pop_front.new.self.items in
    let r : IsReady p k = first_ready p k rest c.self.invariant.pool c.in-Some.ensures.items in
    ap (λ (t : List Bool). fresh (record p { ready = rest; spoken = t })) c.insert.ensures ∙ (fresh_taken p k rest r.below ∙ ap fresh c.self.view_is)

pub returns-in-Some-clause-pool : goal.returns-in-Some-clause-pool
returns-in-Some-clause-pool c = taken (pool_view c.self.inside) c.in-Some.index c.pop_front.new.self.items c.insert.new.self c.self.invariant.pool c.in-Some.ensures.items c.insert.ensures
