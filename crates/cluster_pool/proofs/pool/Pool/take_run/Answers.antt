use Rattle.std.proofs.Common.{◌≡◌, ℕ, ◌+◌, ◌-◌, List, Bool, sym, ap, subst, ◌∙◌, arith}
use Rattle.cluster_pool.specs.Sets.{with_member}
use Rattle.cluster_pool.specs.Pool.{Pool, HasAll}
use Rattle.cluster_pool.proofs.Rows.{has_more}
use Rattle.cluster_pool.proofs.pool.Pool.take_run.Goals.{then-first-index, else-first-index}
use Rattle.cluster_pool.proofs.pool.Pool.take_run.Goals as goal

pub loop-index-preserved : goal.loop-index-preserved
loop-index-preserved c =
    let i : ℕ = c.loop-index.index in
    let k : ℕ = c.args.first in
    let p : Pool = c.args.self.now in
    let o : Pool = c.loop-index.self in
    let passed : c.pass.new.self ≡ record c.if-first-index.self { next = c.if-first-index.self.next + 1 } = c.pass.ensures.passed in
    elim c.if-first-index.branch [
      | then-first-index w ↦
          let spoke : c.if-first-index.self ≡ record o { spoken = with_member o.spoken i } = w.self-is ∙ w.speak.ensures in
          let is : c.pass.new.self ≡ record o { spoken = with_member o.spoken i; next = o.next + 1 } = passed ∙ ap (λ (q : Pool). record q { next = q.next + 1 }) spoke in
          let spoken : c.pass.new.self.spoken ≡ with_member o.spoken i = ap (λ (q : Pool). q.spoken) is in
          record {
            spoken = subst (λ (s : List Bool). HasAll p.spoken s k (i + 1 - k)) (sym spoken) (has_more p.spoken o.spoken k i (i - k) (i + 1 - k) (omega (arith, w.if-first-index.true)) (omega (arith, w.if-first-index.true)) c.loop-index.invariant.spoken);
            is = is ∙ (ap (λ (q : Pool). record q { spoken = with_member o.spoken i; next = q.next + 1 }) c.loop-index.invariant.is ∙ ap (λ (s : List Bool). record p { spoken = s; next = i + 1 }) (sym spoken));
          }
      | else-first-index w ↦
          let is : c.pass.new.self ≡ record o { next = o.next + 1 } = passed ∙ ap (λ (q : Pool). record q { next = q.next + 1 }) w.self-is in
          let spoken : c.pass.new.self.spoken ≡ o.spoken = ap (λ (q : Pool). q.spoken) is in
          let none : i - k ≡ i + 1 - k = omega (arith, w.if-first-index.false) in
          record {
            spoken = subst (λ (s : List Bool). HasAll p.spoken s k (i + 1 - k)) (sym spoken) (subst (λ (n : ℕ). HasAll p.spoken o.spoken k n) none c.loop-index.invariant.spoken);
            is = is ∙ (ap (λ (q : Pool). record q { spoken = o.spoken; next = q.next + 1 }) c.loop-index.invariant.is ∙ ap (λ (s : List Bool). record p { spoken = s; next = i + 1 }) (sym spoken));
          }
    ]
