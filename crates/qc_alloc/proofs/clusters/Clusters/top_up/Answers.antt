use Rattle.std.proofs.Common.{◌≡◌, ℕ, ◌+◌, ◌-◌, ◌/◌, ◌<◌, ◌≤◌, max, List, length, Ok, Err, refl, sym, ◌∙◌, ap, subst, arith}
use Rattle.std.proofs.lemmas.List.{length-append}
use Rattle.disk_model.specs.World.{only_file}
use Rattle.disk_model.specs.declared.depot.Failed.{Failed}
use Rattle.disk_model.proofs.Laws.{stay}
use Rattle.file_device.specs.Calls.{Puts}
use Rattle.file_device.proofs.Laws.{puts_on, puts_err}
use Rattle.cluster_pool.specs.Pool.{Pool, IsPool, reach, each, room, fresh, is_open}
use Rattle.qc_alloc.specs.Allocator.{Allocator}
use Rattle.qc_alloc.specs.Inside.{allocator_view}
use Rattle.qc_alloc.specs.Growing.{at_once, Raises, Grows}
use Rattle.qc_alloc.proofs.Grown.{grows_none, grows_on, grows_stay, raises_follows, mends_none, mends_same, names_on, puts_none, puts_next}
use Rattle.qc_alloc.proofs.Raising.{raises_none, raises_on, raises_stepped, fresh_some}
use Rattle.qc_alloc.proofs.Valid.{pool_stepped, allocator_on, joined_length}
use Rattle.qc_alloc.proofs.clusters.Clusters.top_up.Goals as goal

-- while fewer are ready than there is room for, the first fresh cluster lies below the reach
left : {i o j l : Allocator} (want : ℕ) → i ≡ o → j ≡ l → Raises o.pool l.pool → want ≤ room i.pool → length j.pool.ready < want → j.pool.next < reach j.pool
left {i} {o} {j} {l} want same_i same_j raises enough few =
    let same : room j.pool ≡ room i.pool = ap (λ (x : Allocator). room x.pool) same_j ∙ raises.room ∙ ap (λ (x : Allocator). room x.pool) (sym same_i) in
    fresh_some j.pool (omega (arith, same, enough, few))

-- no more is prepared beyond what is wanted than a sixteenth of the fresh ones
bounded : {o l : Pool} {n next count : ℕ} (want : ℕ) → Raises o l → l.prepared ≤ max o.prepared (l.next + (want - length o.ready) + fresh o / 16) → l.prepared ≤ l.next → count ≤ want - length l.ready + fresh l / 16
    → n ≤ l.prepared + count → next ≡ l.next → n ≤ max o.prepared (next + (want - length o.ready) + fresh o / 16)
bounded {o} {l} want raises had all plan most kept =
    let more : length l.ready ≡ length o.ready + length raises.more = ap length raises.ready ∙ length-append o.ready raises.more in
    omega (arith, more, raises.room, had, all, plan, most, kept)

-- nor than that many bytes hold
within : {o l : Pool} {n next count : ℕ} (want : ℕ) → Raises o l → l.prepared ≤ l.next → count ≤ max want (at_once l.bits) → n ≤ l.prepared + count → next ≡ l.next
    → n ≤ max o.prepared (next + max want (at_once o.bits))
within {o} {l} want raises all plan most kept =
    let same : at_once l.bits ≡ at_once o.bits = ap at_once raises.bits in
    omega (arith, same, all, plan, most, kept)

pub returns-then-room-want-clause-pool : goal.returns-then-room-want-clause-pool
returns-then-room-want-clause-pool g c = raises_none c.args.self.now.pool

pub returns-then-room-want-clause-grows : goal.returns-then-room-want-clause-grows
returns-then-room-want-clause-grows g c = grows_none c.args.self.now _ (g.met.D.Depot.sound _)

pub returns-then-room-want-clause-puts : goal.returns-then-room-want-clause-puts
returns-then-room-want-clause-puts g c not = absurd (not refl)

pub loop-self-init : goal.loop-self-init
loop-self-init g c = record {
  raises = raises_none c.args.self.now.pool;
  grows = grows_none c.args.self.now _ (g.met.D.Depot.sound _);
  puts = puts_none c.args.self.now.file _;
  words = mends_none c.args.self.now _;
  bound = omega arith;
  whole = omega arith;
  most = omega arith;
}

pub step-requires-clause-below : goal.step-requires-clause-below
step-requires-clause-below g c =
    left c.args.want c.self.view_is c.self-in-loop-self.view_is c.loop-self.invariant.raises (omega (
      arith,
      c.room.ensures,
      c.if-room-want.false,
    )) (omega (arith, c.ready.ensures, c.loop-self-test.true))

pub invariant_of-self : goal.invariant_of-self
invariant_of-self g c =
    let p = c.self-in-loop-self.inside.pool in
    let below = left c.args.want c.self.view_is c.self-in-loop-self.view_is c.loop-self.invariant.raises (omega (
      arith,
      c.room.ensures,
      c.if-room-want.false,
    )) (omega (arith, c.ready.ensures, c.loop-self-test.true)) in
    let less : p.next < p.prepared = omega (arith, c.if-next-prepared.true, c.next.ensures, c.prepared.ensures) in
    let is = c.self-in-loop-self.invariant.allocator in
    let raises = raises_stepped p is.pool less (ap room (sym c.step.ensures.stepped) ∙ c.step.ensures.room) in
    let pool = pool_stepped p is.pool less below (omega (arith, c.ready.ensures, c.loop-self-test.true, c.requires.few)) in
    record {
      allocator = allocator_on (allocator_view c.self-in-loop-self.inside) _ is refl (subst (Raises p) (sym c.step.ensures.stepped) raises) (subst IsPool (sym c.step.ensures.stepped) pool);
      counts = omega (arith, c.self-in-loop-self.invariant.counts, ap (λ (x : Pool). each x) c.step.ensures.stepped);
      batch = c.self-in-loop-self.invariant.batch;
    }

pub loop-self-smaller-then-next-prepared : goal.loop-self-smaller-then-next-prepared
loop-self-smaller-then-next-prepared g c =
    let p = c.self-in-loop-self.inside.pool in
    let below = left c.args.want c.self.view_is c.self-in-loop-self.view_is c.loop-self.invariant.raises (omega (
      arith,
      c.room.ensures,
      c.if-room-want.false,
    )) (omega (arith, c.ready.ensures, c.loop-self-test.true)) in
    omega (
      arith,
      below,
      ap (λ (x : Pool). x.next) c.step.ensures.stepped,
      ap (λ (x : Pool). x.prepared) c.step.ensures.stepped,
      ap (λ (x : Pool). reach x) c.step.ensures.stepped,
      ap (λ (x : Allocator). x.pool.next) c.self-in-loop-self.view_is,
      ap (λ (x : Allocator). x.pool.prepared) c.self-in-loop-self.view_is,
      ap (λ (x : Allocator). reach x.pool) c.self-in-loop-self.view_is,
    )

pub loop-self-preserved-then-next-prepared : goal.loop-self-preserved-then-next-prepared
loop-self-preserved-then-next-prepared g c =
    let l = c.loop-self.self in
    let a = allocator_view c.self-in-loop-self.inside in
    let p = c.self-in-loop-self.inside.pool in
    let b : Allocator = record a { pool = c.step.new.self } in
    let world = g.D.Outside.world c.loop-self.depot in
    let less : p.next < p.prepared = omega (arith, c.if-next-prepared.true, c.next.ensures, c.prepared.ensures) in
    let raises : Raises p c.step.new.self =
    subst (Raises p) (sym c.step.ensures.stepped) (raises_stepped p c.self-in-loop-self.invariant.allocator.pool less (ap room (sym c.step.ensures.stepped)
    ∙ c.step.ensures.room)) in
    let stays : Grows a b world world = grows_stay a b world (g.met.D.Depot.sound _) refl refl (raises_follows p c.step.new.self raises)
    (ap (λ (x : Pool). x.blocks) c.step.ensures.stepped) (ap (λ (x : Pool). x.prepared) c.step.ensures.stepped) in
    record {
      raises = raises_on c.args.self.now.pool l.pool c.step.new.self c.loop-self.invariant.raises (subst
          (λ (x : Allocator). Raises x.pool c.step.new.self) c.self-in-loop-self.view_is raises);
      grows = grows_on c.args.self.now l b _ world world c.loop-self.invariant.puts.calls.run (stay (only_file l.file) world) c.loop-self.invariant.raises c.loop-self.invariant.grows
          (subst (λ (x : Allocator). Grows x b world world) c.self-in-loop-self.view_is stays);
      puts = c.loop-self.invariant.puts;
      words = mends_same c.args.self.now l b _ world (ap (λ (x : Pool). x.blocks) c.step.ensures.stepped ∙ ap (λ (x : Allocator). x.pool.blocks) c.self-in-loop-self.view_is)
          (ap (λ (x : Pool). x.prepared) c.step.ensures.stepped ∙ ap (λ (x : Allocator). x.pool.prepared) c.self-in-loop-self.view_is) c.loop-self.invariant.words;
      bound = omega (
        arith,
        c.loop-self.invariant.bound,
        ap (λ (x : Pool). x.prepared) c.step.ensures.stepped,
        ap (λ (x : Pool). x.next) c.step.ensures.stepped,
        ap (λ (x : Allocator). x.pool.prepared) c.self-in-loop-self.view_is,
        ap (λ (x : Allocator). x.pool.next) c.self-in-loop-self.view_is,
      );
      whole = omega (
        arith,
        c.loop-self.invariant.whole,
        ap (λ (x : Pool). x.prepared) c.step.ensures.stepped,
        ap (λ (x : Pool). x.next) c.step.ensures.stepped,
        ap (λ (x : Allocator). x.pool.prepared) c.self-in-loop-self.view_is,
        ap (λ (x : Allocator). x.pool.next) c.self-in-loop-self.view_is,
      );
      most = omega (
        arith,
        joined_length (is_open p p.next) p.ready p.next,
        ap (λ (x : Pool). length x.ready) c.step.ensures.stepped,
        c.ready.ensures,
        c.loop-self-test.true,
      );
    }

pub prepare-requires-clause-below : goal.prepare-requires-clause-below
prepare-requires-clause-below g c =
    let p = c.self-in-loop-self.inside.pool in
    let below = left c.args.want c.self.view_is c.self-in-loop-self.view_is c.loop-self.invariant.raises (omega (
      arith,
      c.room.ensures,
      c.if-room-want.false,
    )) (omega (arith, c.ready.ensures, c.loop-self-test.true)) in
    subst (λ (x : Allocator). x.pool.prepared < reach x.pool) c.self-in-loop-self.view_is (omega (
      arith,
      below,
      c.if-next-prepared.false,
      c.next.ensures,
      c.prepared.ensures,
    ))

pub loop-self-preserved : goal.loop-self-preserved
loop-self-preserved g c =
    let l = c.loop-self.self in
    let call = c.in_ok-prepare.ensures in
    record {
      raises = raises_on c.args.self.now.pool l.pool c.prepare.new.self.pool c.loop-self.invariant.raises call.pool;
      grows = grows_on c.args.self.now l c.prepare.new.self _ (g.D.Outside.world c.loop-self.depot) _ c.loop-self.invariant.puts.calls.run call.puts.calls.run c.loop-self.invariant.raises c.loop-self.invariant.grows call.grows;
      puts = puts_next c.loop-self.invariant.puts (subst (λ (f : ℕ). Puts {T = Unit {0}} {E = Failed} f (g.D.Outside.world c.loop-self.depot) (g.D.Outside.world c.prepare.new.depot) (Ok tt)) c.loop-self.invariant.grows.file call.puts);
      words = names_on c.args.self.now l c.prepare.new.self _ (g.D.Outside.world c.loop-self.depot) _ c.loop-self.invariant.puts.calls.run call.puts.calls.run c.loop-self.invariant.raises c.loop-self.invariant.grows call.grows call.words;
      bound = bounded c.args.want c.loop-self.invariant.raises c.loop-self.invariant.bound (omega (
        arith,
        c.if-next-prepared.false,
        c.next.ensures,
        c.prepared.ensures,
        ap (λ (x : Allocator). x.pool.prepared) c.self-in-loop-self.view_is,
        ap (λ (x : Allocator). x.pool.next) c.self-in-loop-self.view_is,
      )) (omega (arith, c.plan-count.ensures.most, c.ready-else-next-prepared.ensures, ap (λ (x : Allocator). length x.pool.ready) c.self-in-loop-self.view_is)) call.most call.kept.1;
      whole = within c.args.want c.loop-self.invariant.raises (omega (
        arith,
        c.if-next-prepared.false,
        c.next.ensures,
        c.prepared.ensures,
        ap (λ (x : Allocator). x.pool.prepared) c.self-in-loop-self.view_is,
        ap (λ (x : Allocator). x.pool.next) c.self-in-loop-self.view_is,
      )) (omega (arith, c.plan-count.ensures.bytes, ap (λ (x : Allocator). at_once x.pool.bits) c.self-in-loop-self.view_is)) call.most call.kept.1;
      most = omega (arith, c.loop-self.invariant.most, ap (λ (x : List ℕ). length x) call.kept.0);
    }

pub returns-in_err-prepare-clause-pool : goal.returns-in_err-prepare-clause-pool
returns-in_err-prepare-clause-pool g c = raises_on c.args.self.now.pool c.loop-self.self.pool c.prepare.new.self.pool c.loop-self.invariant.raises c.in_err-prepare.ensures.pool

pub returns-in_err-prepare-clause-grows : goal.returns-in_err-prepare-clause-grows
returns-in_err-prepare-clause-grows g c =
    grows_on c.args.self.now c.loop-self.self c.prepare.new.self _ (g.D.Outside.world c.loop-self.depot) _ c.loop-self.invariant.puts.calls.run c.in_err-prepare.ensures.puts.calls.run c.loop-self.invariant.raises
    c.loop-self.invariant.grows c.in_err-prepare.ensures.grows

pub returns-in_err-prepare-clause-puts : goal.returns-in_err-prepare-clause-puts
returns-in_err-prepare-clause-puts g c not =
    puts_err c.from_residual.ensures.0 (puts_on c.loop-self.invariant.puts (subst
    (λ (f : ℕ). Puts {T = Unit {0}} {E = Failed} f (g.D.Outside.world c.loop-self.depot) (g.D.Outside.world c.prepare.new.depot) (Err c.in_err-prepare.field-0.0))
    c.loop-self.invariant.grows.file c.in_err-prepare.ensures.puts))
