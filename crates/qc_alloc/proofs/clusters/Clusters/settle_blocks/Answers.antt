use Rattle.std.proofs.Common.{◌≡◌, ℕ, ◌*◌, length, refl, sym, ◌∙◌, ap, subst, arith}
use Rattle.file_device.proofs.Laws.{puts_on, puts_err}
use Rattle.cluster_pool.specs.Pool.{each}
use Rattle.qc_alloc.specs.Allocator.{Allocator}
use Rattle.qc_alloc.specs.Settling.{SettlesOn, SettlesAll}
use Rattle.qc_alloc.proofs.Settles.{settles_on, all_next, settles_stay, all_none, puts_none}
use Rattle.qc_alloc.proofs.clusters.Clusters.settle_blocks.Goals as goal

pub loop-index-init : goal.loop-index-init
loop-index-init g c =
    let sound = g.met.D.Depot.sound in
    let w = g.D.Outside.world c.args.depot.now in
    let none : 0 ≡ each c.args.self.now.pool * 0 = omega arith in
    record {
      same = refl;
      goes = settles_stay c.args.self.now w (sound _);
      counts = subst (λ (n : ℕ). SettlesAll c.args.self.now 0 n w w) none (all_none c.args.self.now 0 w);
      puts = puts_none c.args.self.now.file w;
    }

pub settle_block-requires-clause-given : goal.settle_block-requires-clause-given
settle_block-requires-clause-given g c = omega (arith, c.requires.given, c.loop-index.invariant.puts.writes.goes.given, ap (λ (b : Allocator). b.file) c.loop-index.invariant.same)

pub settle_block-requires-clause-index : goal.settle_block-requires-clause-index
settle_block-requires-clause-index g c = omega (arith, c.block_count-index-end.ensures, ap (λ (b : Allocator). length b.pool.blocks) (c.self.view_is ∙ sym c.loop-index.invariant.same))

pub returns-in_err-settle_block-clause-same : goal.returns-in_err-settle_block-clause-same
returns-in_err-settle_block-clause-same g c = c.settle_block.ensures.same ∙ c.loop-index.invariant.same

pub returns-in_err-settle_block-clause-goes : goal.returns-in_err-settle_block-clause-goes
returns-in_err-settle_block-clause-goes g c =
    settles_on c.loop-index.invariant.puts.writes c.settle_block.ensures.puts.writes c.loop-index.invariant.goes
    (subst (λ (b : Allocator). SettlesOn b (g.D.Outside.world c.loop-index.depot) (g.D.Outside.world c.settle_block.new.depot)) c.loop-index.invariant.same c.settle_block.ensures.goes)

pub returns-in_err-settle_block-clause-puts : goal.returns-in_err-settle_block-clause-puts
returns-in_err-settle_block-clause-puts g c =
    let same = ap (λ (b : Allocator). b.file) c.loop-index.invariant.same in
    puts_err c.from_residual.ensures.0 (puts_on c.loop-index.invariant.puts (rw same at c.in_err-settle_block.ensures.puts))

pub loop-index-preserved : goal.loop-index-preserved
loop-index-preserved g c =
    let inv = c.loop-index.invariant in
    let x = g.D.Outside.world c.loop-index.depot in
    let y = g.D.Outside.world c.settle_block.new.depot in
    let goes : SettlesOn c.args.self.now x y = subst (λ (b : Allocator). SettlesOn b x y) inv.same c.settle_block.ensures.goes in
    let counts : SettlesAll c.args.self.now (each c.args.self.now.pool * c.loop-index.index) (each c.args.self.now.pool) x y =
    subst (λ (b : Allocator). SettlesAll b (each b.pool * c.loop-index.index) (each b.pool) x y) inv.same c.in_ok-settle_block.ensures.counts in
    let same = ap (λ (b : Allocator). b.file) inv.same in
    record {
      same = c.settle_block.ensures.same ∙ inv.same;
      goes = settles_on inv.puts.writes c.settle_block.ensures.puts.writes inv.goes goes;
      counts = all_next c.loop-index.index inv.puts.writes inv.goes inv.counts counts;
      puts = puts_on inv.puts (rw same at c.in_ok-settle_block.ensures.puts);
    }

pub returns-clause-same : goal.returns-clause-same
returns-clause-same g c = c.loop-index.invariant.same

pub returns-clause-goes : goal.returns-clause-goes
returns-clause-goes g c = c.loop-index.invariant.goes

pub returns-clause-counts : goal.returns-clause-counts
returns-clause-counts g c =
    let x = g.D.Outside.world c.args.depot.now in
    let y = g.D.Outside.world c.loop-index.depot in
    let all : c.loop-index.index ≡ length c.args.self.now.pool.blocks = omega (arith, c.block_count-index-end.ensures, ap (λ (b : Allocator). length b.pool.blocks) c.self.view_is) in
    subst (λ (n : ℕ). SettlesAll c.args.self.now 0 (each c.args.self.now.pool * n) x y) all c.loop-index.invariant.counts

pub returns-clause-puts : goal.returns-clause-puts
returns-clause-puts g c = c.loop-index.invariant.puts
