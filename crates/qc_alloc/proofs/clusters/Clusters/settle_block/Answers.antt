use Rattle.std.proofs.Common.{◌≡◌, ℕ, ◌+◌, ◌*◌, length, refl, sym, ◌∙◌, ap, subst, arith}
use Rattle.file_device.proofs.Laws.{puts_on, puts_err}
use Rattle.cluster_pool.specs.Pool.{each, block_at}
use Rattle.qc_alloc.specs.Allocator.{Allocator}
use Rattle.qc_alloc.specs.Settling.{SettlesOn, SettlesAll}
use Rattle.qc_alloc.proofs.Settles.{settles_on, all_on, settles_stay, all_none, all_missing, puts_none}
use Rattle.qc_alloc.proofs.clusters.Clusters.settle_block.Goals as goal

pub returns-then-block-eq0-clause-goes : goal.returns-then-block-eq0-clause-goes
returns-then-block-eq0-clause-goes g c = let sound = g.met.D.Depot.sound in settles_stay c.args.self.now (g.D.Outside.world c.args.depot.now) (sound _)

pub returns-then-block-eq0-clause-counts : goal.returns-then-block-eq0-clause-counts
returns-then-block-eq0-clause-counts g c =
    all_missing c.args.self.now c.args.index (g.D.Outside.world c.args.depot.now)
    (sym (ap (λ (b : Allocator). block_at b.pool c.args.index) c.self.view_is) ∙ sym c.block.ensures ∙ c.if-block-eq0.true)

pub loop-slot-init : goal.loop-slot-init
loop-slot-init g c =
    let sound = g.met.D.Depot.sound in
    let w = g.D.Outside.world c.args.depot.now in
    record {
      same = refl;
      goes = settles_stay c.args.self.now w (sound _);
      counts = all_none c.args.self.now (each c.args.self.now.pool * c.args.index) w;
      puts = puts_none c.args.self.now.file w;
      within = omega arith;
    }

pub settle_slots-requires-clause-given : goal.settle_slots-requires-clause-given
settle_slots-requires-clause-given g c = omega (arith, c.requires.given, c.loop-slot.invariant.puts.writes.goes.given, ap (λ (b : Allocator). b.file) c.loop-slot.invariant.same)

pub settle_slots-requires-clause-index : goal.settle_slots-requires-clause-index
settle_slots-requires-clause-index g c = omega (arith, c.requires.index, ap (λ (b : Allocator). length b.pool.blocks) c.loop-slot.invariant.same)

pub settle_slots-requires-clause-there : goal.settle_slots-requires-clause-there
settle_slots-requires-clause-there g c none =
    c.if-block-eq0.false (c.block.ensures ∙ ap (λ (b : Allocator). block_at b.pool c.args.index) (c.self.view_is ∙ sym c.loop-slot.invariant.same) ∙ none)

pub settle_slots-requires-clause-within : goal.settle_slots-requires-clause-within
settle_slots-requires-clause-within g c =
    omega (arith, c.each_of-each.ensures.each, ap (λ (b : Allocator). each b.pool) (c.self.view_is ∙ sym c.loop-slot.invariant.same), c.min-count.ensures, c.loop-slot.invariant.within)

pub returns-in_err-settle_slots-clause-same : goal.returns-in_err-settle_slots-clause-same
returns-in_err-settle_slots-clause-same g c = c.settle_slots.ensures.same ∙ c.loop-slot.invariant.same

pub returns-in_err-settle_slots-clause-goes : goal.returns-in_err-settle_slots-clause-goes
returns-in_err-settle_slots-clause-goes g c =
    settles_on c.loop-slot.invariant.puts.writes c.settle_slots.ensures.puts.writes c.loop-slot.invariant.goes
    (subst (λ (b : Allocator). SettlesOn b (g.D.Outside.world c.loop-slot.depot) (g.D.Outside.world c.settle_slots.new.depot)) c.loop-slot.invariant.same c.settle_slots.ensures.goes)

pub returns-in_err-settle_slots-clause-puts : goal.returns-in_err-settle_slots-clause-puts
returns-in_err-settle_slots-clause-puts g c =
    let same = ap (λ (b : Allocator). b.file) c.loop-slot.invariant.same in
    puts_err c.from_residual.ensures.0 (puts_on c.loop-slot.invariant.puts (rw same at c.in_err-settle_slots.ensures.puts))

pub loop-slot-preserved : goal.loop-slot-preserved
loop-slot-preserved g c =
    let inv = c.loop-slot.invariant in
    let x = g.D.Outside.world c.loop-slot.depot in
    let y = g.D.Outside.world c.settle_slots.new.depot in
    let goes : SettlesOn c.args.self.now x y = subst (λ (b : Allocator). SettlesOn b x y) inv.same c.settle_slots.ensures.goes in
    let counts : SettlesAll c.args.self.now (each c.args.self.now.pool * c.args.index + c.loop-slot.slot) c.min-count.result x y =
    subst (λ (b : Allocator). SettlesAll b (each b.pool * c.args.index + c.loop-slot.slot) c.min-count.result x y) inv.same c.in_ok-settle_slots.ensures.counts in
    let same = ap (λ (b : Allocator). b.file) inv.same in
    record {
      same = c.settle_slots.ensures.same ∙ inv.same;
      goes = settles_on inv.puts.writes c.settle_slots.ensures.puts.writes inv.goes goes;
      counts = all_on (each c.args.self.now.pool * c.args.index) c.loop-slot.slot c.min-count.result inv.puts.writes inv.goes inv.counts counts;
      puts = puts_on inv.puts (rw same at c.in_ok-settle_slots.ensures.puts);
      within = omega (arith, c.min-count.ensures, inv.within);
    }

pub returns-clause-same : goal.returns-clause-same
returns-clause-same g c = c.loop-slot.invariant.same

pub returns-clause-goes : goal.returns-clause-goes
returns-clause-goes g c = c.loop-slot.invariant.goes

pub returns-clause-counts : goal.returns-clause-counts
returns-clause-counts g c =
    let x = g.D.Outside.world c.args.depot.now in
    let y = g.D.Outside.world c.loop-slot.depot in
    let all : c.loop-slot.slot ≡ each c.args.self.now.pool = omega (arith, c.each_of-each.ensures.each, ap (λ (b : Allocator). each b.pool) c.self.view_is, c.loop-slot.invariant.within) in
    subst (λ (n : ℕ). SettlesAll c.args.self.now (each c.args.self.now.pool * c.args.index) n x y) all c.loop-slot.invariant.counts

pub returns-clause-puts : goal.returns-clause-puts
returns-clause-puts g c = c.loop-slot.invariant.puts
