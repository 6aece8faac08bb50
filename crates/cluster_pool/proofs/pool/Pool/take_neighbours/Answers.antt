use Rattle.std.proofs.Common.{◌≡◌, ℕ, ◌+◌, ◌-◌, subst, ◌∙◌, arith, rules}
use Rattle.std.proofs.lemmas.Grind.{common_steps}
use Rattle.cluster_pool.specs.Pool.{Pool, IsReady, HasTaken}
use Rattle.cluster_pool.proofs.Rows.{row_one, row_more, row_ready}
use Rattle.cluster_pool.proofs.pool.Pool.take_neighbours.Goals as goal

pub loop-count-init : goal.loop-count-init
loop-count-init c = record {
  taken = row_one c.args.self.now c.take_ready-first.new.self c.take_ready-first.result c.take_ready-first.ensures.taken;
  most = omega arith;
  ready = λ k low high. subst (IsReady c.args.self.now) (omega arith) c.take_ready-first.ensures.ready;
  fresh = c.take_ready-first.ensures.fresh;
  pool = c.take_ready-first.ensures.pool;
}

pub overflow_add-first : goal.overflow_add-first
overflow_add-first c =
    let last : IsReady c.args.self.now (c.take_ready-first.result + (c.loop-count.count - 1)) = c.loop-count.invariant.ready (c.take_ready-first.result + (c.loop-count.count - 1)) (omega arith) (omega (arith, c.loop-count.invariant.taken.some)) in
    let far = last.reach in
    search rules

pub loop-count-preserved : goal.loop-count-preserved
loop-count-preserved c =
    let n : ℕ = c.loop-count.count in
    let q : Pool = c.loop-count.self in
    let r : Pool = c.take_ready.new.self in
    let k : ℕ = c.take_ready-first.result in
    let next : c.take_ready.result ≡ k + n = grind (arith, common_steps) in
    record {
      taken = row_more c.args.self.now q k n c.loop-count.invariant.taken r (subst (HasTaken q r) next c.take_ready.ensures.taken);
      most = omega arith;
      ready = row_ready c.args.self.now q k n c.loop-count.invariant.taken (subst (IsReady q) next c.take_ready.ensures.ready) c.loop-count.invariant.ready;
      fresh = c.take_ready.ensures.fresh ∙ c.loop-count.invariant.fresh;
      pool = c.take_ready.ensures.pool;
    }
