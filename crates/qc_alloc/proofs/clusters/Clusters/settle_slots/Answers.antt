use Rattle.std.proofs.Common.{◌≡◌, ◌≢◌, ℕ, ◌+◌, ◌*◌, ◌<◌, ◌≤◌, List, take, length, sym, ◌∙◌, ap, subst, arith}
use Rattle.std.proofs.lemmas.List.{length-take-le}
use Rattle.std.proofs.lemmas.Result.{on_ok_weaker}
use Rattle.std.specs.Result.{OnOk}
use Rattle.disk_model.specs.Files.{u16_at}
use Rattle.bitmap_model.specs.Granules.{is_in}
use Rattle.cluster_pool.specs.Pool.{each, block_at}
use Rattle.qc_alloc.specs.Allocator.{Allocator}
use Rattle.qc_alloc.specs.Inside.{allocator_view}
use Rattle.qc_alloc.specs.Settling.{SettlesOn, SettlesAll, count_for, AreCountsOf}
use Rattle.qc_alloc.proofs.Numbers.{count_take}
use Rattle.qc_alloc.proofs.Settles.{slots_on, slots_all}
use Rattle.qc_alloc.proofs.clusters.Clusters.settle_slots.Goals as goal

pub returns-clause-goes : goal.returns-clause-goes
returns-clause-goes g c =
    let a = allocator_view c.self.inside in
    let same : a ≡ c.args.self.now = c.self.view_is in
    let x = g.D.Outside.world c.args.depot.now in
    let y = g.D.Outside.world c.settle_counts.new.depot in
    let counts = take (2 * c.args.count) c.deref.result.now in
    let there : block_at a.pool c.args.index ≢ 0 = subst (λ (b : Allocator). block_at b.pool c.args.index ≢ 0) (sym same) c.requires.there in
    let inside : c.args.index < length a.pool.blocks = subst (λ (b : Allocator). c.args.index < length b.pool.blocks) (sym same) c.requires.index in
    let within : c.args.slot + c.args.count ≤ each a.pool = subst (λ (b : Allocator). c.args.slot + c.args.count ≤ each b.pool) (sym same) c.requires.within in
    let long : length counts ≡ 2 * c.args.count = length-take-le (2 * c.args.count) c.deref.result.now (omega (arith, ap length c.deref.ensures.value, c.write_counts.ensures.same_length, c.self.invariant.counts, within)) in
    let from : c.args.index * c.each_of.result + c.args.slot ≡ each a.pool * c.args.index + c.args.slot = omega (arith, ap (λ (e : ℕ). c.args.index * e) c.each_of.ensures.each) in
    let are : AreCountsOf (is_in a.pool.spoken) (each a.pool * c.args.index + c.args.slot) c.args.count counts = (λ t t_in.
    count_take c.deref.result.now c.args.count t t_in ∙ ap (λ (xs : List ℕ). u16_at xs (2 * t)) c.deref.ensures.value ∙ c.write_counts.ensures.counts t t_in ∙ ap (λ (f : ℕ). count_for (is_in a.pool.spoken) (f + t)) from) in
    subst (λ (b : Allocator). SettlesOn b x y) same
    (slots_on a c.self.invariant.allocator c.args.index c.args.slot c.args.count (c.block.result + 2 * c.args.slot) counts x y there inside within (ap (λ (p : ℕ). p + 2 * c.args.slot) c.block.ensures) long are
    c.settle_counts.ensures.puts.writes c.settle_counts.ensures.moves c.settle_counts.ensures.leaves c.settle_counts.ensures.rows)

pub returns-clause-counts : goal.returns-clause-counts
returns-clause-counts g c =
    let a = allocator_view c.self.inside in
    let same : a ≡ c.args.self.now = c.self.view_is in
    let x = g.D.Outside.world c.args.depot.now in
    let y = g.D.Outside.world c.settle_counts.new.depot in
    let counts = take (2 * c.args.count) c.deref.result.now in
    let there : block_at a.pool c.args.index ≢ 0 = subst (λ (b : Allocator). block_at b.pool c.args.index ≢ 0) (sym same) c.requires.there in
    let inside : c.args.index < length a.pool.blocks = subst (λ (b : Allocator). c.args.index < length b.pool.blocks) (sym same) c.requires.index in
    let within : c.args.slot + c.args.count ≤ each a.pool = subst (λ (b : Allocator). c.args.slot + c.args.count ≤ each b.pool) (sym same) c.requires.within in
    let long : length counts ≡ 2 * c.args.count = length-take-le (2 * c.args.count) c.deref.result.now (omega (arith, ap length c.deref.ensures.value, c.write_counts.ensures.same_length, c.self.invariant.counts, within)) in
    let from : c.args.index * c.each_of.result + c.args.slot ≡ each a.pool * c.args.index + c.args.slot = omega (arith, ap (λ (e : ℕ). c.args.index * e) c.each_of.ensures.each) in
    let are : AreCountsOf (is_in a.pool.spoken) (each a.pool * c.args.index + c.args.slot) c.args.count counts = (λ t t_in.
    count_take c.deref.result.now c.args.count t t_in ∙ ap (λ (xs : List ℕ). u16_at xs (2 * t)) c.deref.ensures.value ∙ c.write_counts.ensures.counts t t_in ∙ ap (λ (f : ℕ). count_for (is_in a.pool.spoken) (f + t)) from) in
    subst (λ (b : Allocator). OnOk c.settle_counts.result (SettlesAll b (each b.pool * c.args.index + c.args.slot) c.args.count x y)) same
    (on_ok_weaker c.settle_counts.result
    (slots_all a c.self.invariant.allocator c.args.index c.args.slot c.args.count (c.block.result + 2 * c.args.slot) counts x y there inside within (ap (λ (p : ℕ). p + 2 * c.args.slot) c.block.ensures) long are
    c.settle_counts.ensures.puts.writes c.settle_counts.ensures.others c.settle_counts.ensures.rows) c.settle_counts.ensures.counts)
