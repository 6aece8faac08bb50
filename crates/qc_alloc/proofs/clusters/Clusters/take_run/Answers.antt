use Rattle.std.proofs.Common.{◌≡◌, ℕ, ◌+◌, ◌≤◌, Result, Ok, Err, refl, sym, ◌∙◌, ap, subst, arith}
use Rattle.std.proofs.lemmas.Result.{err_from_is_err_and}
use Rattle.disk_model.specs.World.{only_file}
use Rattle.disk_model.specs.declared.depot.WriteRefusal.{WriteRefusal}
use Rattle.disk_model.specs.declared.depot.WriteRefusal.TheVariants as refusals
use Rattle.disk_model.proofs.Laws.{stay}
use Rattle.disk_model.specs.declared.depot.Failed.{Failed}
use Rattle.file_device.specs.Calls.{Puts}
use Rattle.file_device.proofs.Laws.{puts_on, puts_err}
use Rattle.qc_alloc.specs.Allocator.{Allocator}
use Rattle.cluster_pool.specs.Pool.{Pool, each, HasNoRunOf, IsFirstRunOf}
use Rattle.qc_alloc.specs.Inside.{allocator_view}
use Rattle.qc_alloc.specs.Growing.{Raises, Grows}
use Rattle.qc_alloc.proofs.Grown.{grows_none, grows_on, grows_stay, run_follows, mends_none, mends_same, names_on, puts_none, puts_next}
use Rattle.qc_alloc.proofs.Raising.{raises_none, raises_on}
use Rattle.qc_alloc.proofs.Valid.{allocator_taken, takes_run}
use Rattle.qc_alloc.proofs.clusters.Clusters.take_run.Goals as goal

pub returns-in-None-clause-room : goal.returns-in-None-clause-room
returns-in-None-clause-room g c = (λ e. subst (λ (x : Allocator). HasNoRunOf x.pool c.args.count) c.self.view_is (c.in-None.ensures.none.0 refl), λ none. refl)

pub returns-in-None-clause-failed : goal.returns-in-None-clause-failed
returns-in-None-clause-failed g c = (raises_none _, refl)

pub returns-in-None-clause-grows : goal.returns-in-None-clause-grows
returns-in-None-clause-grows g c = grows_none c.args.self.now _ (g.met.D.Depot.sound _)

pub returns-in-None-clause-puts : goal.returns-in-None-clause-puts
returns-in-None-clause-puts g c not = absurd (not refl)

pub loop-self-init : goal.loop-self-init
loop-self-init g c = record {
  raises = raises_none c.args.self.now.pool;
  grows = grows_none c.args.self.now _ (g.met.D.Depot.sound _);
  puts = puts_none c.args.self.now.file _;
  words = mends_none c.args.self.now _;
  bound = omega arith;
  ready = refl;
  next = refl;
}

pub loop-self-preserved : goal.loop-self-preserved
loop-self-preserved g c =
    let l = c.loop-self.self in
    let call = c.in_ok-prepare.ensures in
    record {
      raises = raises_on c.args.self.now.pool l.pool c.prepare.new.self.pool c.loop-self.invariant.raises call.pool;
      grows = grows_on c.args.self.now l c.prepare.new.self _ (g.D.Outside.world c.loop-self.depot) _ c.loop-self.invariant.puts.calls.run call.puts.calls.run c.loop-self.invariant.raises c.loop-self.invariant.grows call.grows;
      puts = puts_next c.loop-self.invariant.puts (subst (λ (f : ℕ). Puts {T = Unit {0}} {E = Failed} f (g.D.Outside.world c.loop-self.depot) (g.D.Outside.world c.prepare.new.depot) (Ok tt)) c.loop-self.invariant.grows.file call.puts);
      words = names_on c.args.self.now l c.prepare.new.self _ (g.D.Outside.world c.loop-self.depot) _ c.loop-self.invariant.puts.calls.run call.puts.calls.run c.loop-self.invariant.raises c.loop-self.invariant.grows call.grows call.words;
      bound = omega (arith, c.loop-self.invariant.bound, call.most, c.loop-self-test.true, c.prepared.ensures, ap (λ (x : Allocator). x.pool.prepared) c.self-in-loop-self.view_is);
      ready = call.kept.0 ∙ c.loop-self.invariant.ready;
      next = call.kept.1 ∙ c.loop-self.invariant.next;
    }

-- a failed call isn't a want of room
not_room : {T : Type 0} (r : Result T WriteRefusal) (e : WriteRefusal) → r ≡ Err e → e ≡ refusals.Failed → r ≡ Err refusals.NoRoom → ⊥
not_room r e is fails room = cc

pub returns-in_err-prepare-clause-room : goal.returns-in_err-prepare-clause-room
returns-in_err-prepare-clause-room g c =
    let fails = err_from_is_err_and c.from_residual.result c.from_residual.ensures.1 in (
      λ room. absurd (not_room c.from_residual.result _ fails.1 fails.2 room),
      λ none. absurd (subst (λ (x : Allocator). HasNoRunOf x.pool c.args.count) (sym c.self.view_is) none c.in-Some.first c.in-Some.ensures.found.is),
    )

pub returns-in_err-prepare-clause-failed : goal.returns-in_err-prepare-clause-failed
returns-in_err-prepare-clause-failed g c =
    let fails = err_from_is_err_and c.from_residual.result c.from_residual.ensures.1 in
    rw fails.1 (
      raises_on c.args.self.now.pool c.loop-self.self.pool c.prepare.new.self.pool c.loop-self.invariant.raises c.in_err-prepare.ensures.pool,
      c.in_err-prepare.ensures.kept.0 ∙ c.loop-self.invariant.ready,
    )

pub returns-in_err-prepare-clause-most : goal.returns-in_err-prepare-clause-most
returns-in_err-prepare-clause-most g c first run =
    let found = subst (λ (x : Allocator). IsFirstRunOf x.pool c.args.count c.in-Some.first) c.self.view_is c.in-Some.ensures.found in
    omega (
      arith,
      run.least c.in-Some.first found.is,
      found.least first run.is,
      c.loop-self.invariant.bound,
      c.in_err-prepare.ensures.most,
      c.loop-self-test.true,
      c.prepared.ensures,
      ap (λ (x : Allocator). x.pool.prepared) c.self-in-loop-self.view_is,
    )

pub returns-in_err-prepare-clause-grows : goal.returns-in_err-prepare-clause-grows
returns-in_err-prepare-clause-grows g c =
    grows_on c.args.self.now c.loop-self.self c.prepare.new.self _ (g.D.Outside.world c.loop-self.depot) _ c.loop-self.invariant.puts.calls.run c.in_err-prepare.ensures.puts.calls.run c.loop-self.invariant.raises
    c.loop-self.invariant.grows c.in_err-prepare.ensures.grows

pub returns-in_err-prepare-clause-puts : goal.returns-in_err-prepare-clause-puts
returns-in_err-prepare-clause-puts g c not =
    puts_err c.from_residual.ensures.0 (puts_on c.loop-self.invariant.puts (subst
    (λ (f : ℕ). Puts {T = Unit {0}} {E = Failed} f (g.D.Outside.world c.loop-self.depot) (g.D.Outside.world c.prepare.new.depot) (Err c.in_err-prepare.field-0.0))
    c.loop-self.invariant.grows.file c.in_err-prepare.ensures.puts))

pub invariant_of-self : goal.invariant_of-self
invariant_of-self g c =
    let a = allocator_view c.self-2.inside in
    let run = c.in-Some.ensures.found in
    let next : a.pool.next ≡ c.self.inside.pool.next =
    ap (λ (x : Allocator). x.pool.next) c.self-2.view_is ∙ c.loop-self.invariant.next ∙ ap (λ (x : Allocator). x.pool.next) (sym c.self.view_is) in
    let high : c.in-Some.first + c.args.count ≤ a.pool.prepared =
    omega (
      arith,
      c.loop-self-test.false,
      c.prepared.ensures,
      ap (λ (x : Allocator). x.pool.prepared) c.self-in-loop-self.view_is,
      ap
          (λ (x : Allocator). x.pool.prepared) c.self-2.view_is,
    ) in
    record {
      allocator = allocator_taken a _ c.in-Some.first c.args.count c.self-2.invariant.allocator refl (omega (arith, next, run.is.from)) high c.take_run.ensures;
      counts = omega (arith, c.self-2.invariant.counts, ap (λ (x : Pool). each x) c.take_run.ensures.is);
      batch = c.self-2.invariant.batch;
    }

pub returns-clause-room : goal.returns-clause-room
returns-clause-room g c =
    (λ room. absurd (cc), λ none. absurd (subst (λ (x : Allocator). HasNoRunOf x.pool c.args.count) (sym c.self.view_is) none c.in-Some.first c.in-Some.ensures.found.is))

pub returns-clause-takes : goal.returns-clause-takes
returns-clause-takes g c =
    let m = c.self-2.inside.pool in
    let run = subst (λ (x : Allocator). IsFirstRunOf x.pool c.args.count c.in-Some.first) c.self.view_is c.in-Some.ensures.found in
    takes_run c.args.self.now.pool m c.take_run.new.self c.in-Some.first c.args.count run
    (subst (λ (x : Allocator). Raises c.args.self.now.pool x.pool) (sym c.self-2.view_is) c.loop-self.invariant.raises)
    (ap (λ (x : Allocator). x.pool.next) c.self-2.view_is ∙ c.loop-self.invariant.next)
    (ap (λ (x : Allocator). x.pool.ready) c.self-2.view_is ∙ c.loop-self.invariant.ready)
    c.self-2.invariant.allocator.pool
    (omega (
      arith,
      c.loop-self-test.false,
      c.prepared.ensures,
      ap (λ (x : Allocator). x.pool.prepared) c.self-in-loop-self.view_is,
      ap
          (λ (x : Allocator). x.pool.prepared) c.self-2.view_is,
    ))
    c.take_run.ensures

pub returns-clause-grows : goal.returns-clause-grows
returns-clause-grows g c =
    let l = c.loop-self.self in
    let a = allocator_view c.self-2.inside in
    let b : Allocator = record a { pool = c.take_run.new.self } in
    let world = g.D.Outside.world c.loop-self.depot in
    let run = c.in-Some.ensures.found in
    let next : a.pool.next ≡ c.self.inside.pool.next =
    ap (λ (x : Allocator). x.pool.next) c.self-2.view_is ∙ c.loop-self.invariant.next ∙ ap (λ (x : Allocator). x.pool.next) (sym c.self.view_is) in
    let stays : Grows a b world world = grows_stay a b world (g.met.D.Depot.sound _) refl refl
    (run_follows a.pool c.take_run.new.self c.in-Some.first c.args.count (omega (arith, next, run.is.from)) c.take_run.ensures)
    (ap (λ (x : Pool). x.blocks) c.take_run.ensures.is) (ap (λ (x : Pool). x.prepared) c.take_run.ensures.is) in
    grows_on c.args.self.now l b _ world world c.loop-self.invariant.puts.calls.run (stay (only_file l.file) world) c.loop-self.invariant.raises c.loop-self.invariant.grows
    (subst (λ (x : Allocator). Grows x b world world) c.self-2.view_is stays)

pub returns-clause-words : goal.returns-clause-words
returns-clause-words g c =
    let b : Allocator = record (allocator_view c.self-2.inside) { pool = c.take_run.new.self } in
    mends_same c.args.self.now c.loop-self.self b _ _ (ap (λ (x : Pool). x.blocks) c.take_run.ensures.is ∙ ap (λ (x : Allocator). x.pool.blocks) c.self-2.view_is)
    (ap (λ (x : Pool). x.prepared) c.take_run.ensures.is ∙ ap (λ (x : Allocator). x.pool.prepared) c.self-2.view_is) c.loop-self.invariant.words

pub returns-clause-most : goal.returns-clause-most
returns-clause-most g c first run =
    let found = subst (λ (x : Allocator). IsFirstRunOf x.pool c.args.count c.in-Some.first) c.self.view_is c.in-Some.ensures.found in
    omega (
      arith,
      run.least c.in-Some.first found.is,
      found.least first run.is,
      c.loop-self.invariant.bound,
      ap (λ (x : Pool). x.prepared) c.take_run.ensures.is,
      ap (λ (x : Allocator). x.pool.prepared) c.self-2.view_is,
    )
