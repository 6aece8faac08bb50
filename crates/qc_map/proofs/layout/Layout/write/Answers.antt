use Rattle.std.proofs.Common.{◌≡◌, inl, refl, ⊎_elim, ℕ, ◌+◌, ◌-◌, ◌*◌, ◌<◌, ◌≤◌, List, length, take, drop, IsTrue, Result, Err, None, sym, ap, subst, ◌∙◌, arith, rules}
use Rattle.std.proofs.lemmas.Bool.{true≢false}
use Rattle.disk_model.specs.World.{reads_of}
use Rattle.disk_model.proofs.Laws.{stay}
use Rattle.image_model.specs.Clusters.{Shape}
use Rattle.qc_alloc.specs.Allocator.{Allocates, HandsOut}
use Rattle.qc_map.specs.Altering.{KnowsOn, Always}
use Rattle.qc_map.specs.Failures.{Went, failure}
use Rattle.qc_map.specs.Mapping.{Mapping, IsMapOf, mapping, shape_by}
use Rattle.qc_map.specs.declared.failures.NotWritten.{NotWritten}
use Rattle.qc_map.specs.declared.failures.NotWritten.TheVariants as failures
use Rattle.qc_map.proofs.Going.{IsNext, next_part, next_stop}
use Rattle.qc_map.proofs.Places.{cluster_by, cluster_some}
use Rattle.qc_map.proofs.Reaching.{Reached, HasUsed, HasRoomFor, reached_start, nothing_changed, reached_from, known_from, used_from, changes_all, has_changed, changes_part, reached_part, known_part, known_same, used_none, write_steps, write_near, used_part, uses_part, lacks_none, write_done, uses_all, writing_for}
use Rattle.qc_map.proofs.Requests.{writing}
use Rattle.qc_map.proofs.Steps.{went_none, went_on, same_image_self, same_image_on}
use Rattle.qc_map.proofs.layout.Layout.write.Given.{Over}
use Rattle.qc_map.proofs.layout.Layout.write.Goals.{After-write_part, After-from_residual-in_err-write_part, After-loop-done}
use Rattle.qc_map.proofs.layout.Layout.write.Goals as goal

pub returns-in_err-lacks_room-clause-changes : goal.returns-in_err-lacks_room-clause-changes
returns-in_err-lacks_room-clause-changes g c = nothing_changed c.lacks_room.ensures.reads (λ none. none) c.requires.file (g.met.D.Depot.sound _) c.args.at c.args.bytes.now (writing c.args.at) (writing_for (mapping c.args.self) c.args.at)

pub returns-in_err-lacks_room-clause-known : goal.returns-in_err-lacks_room-clause-known
returns-in_err-lacks_room-clause-known g c other = known_same (c.lacks_room.ensures.reads.files c.args.self.file.0 (λ none. none)).seen

pub returns-then-branch-clause-changes : goal.returns-then-branch-clause-changes
returns-then-branch-clause-changes g c = nothing_changed c.lacks_room.ensures.reads (λ none. none) c.requires.file (g.met.D.Depot.sound _) c.args.at c.args.bytes.now (writing c.args.at) (writing_for (mapping c.args.self) c.args.at)

pub returns-then-branch-clause-known : goal.returns-then-branch-clause-known
returns-then-branch-clause-known g c other = known_same (c.lacks_room.ensures.reads.files c.args.self.file.0 (λ none. none)).seen

pub loop-done-init : goal.loop-done-init
loop-done-init g c =
    let w = g.D.Outside.world c.lacks_room.new.depot in
    record {
      order = omega arith;
      stop = record { is = inl refl };
      reached = reached_start (stay (reads_of c.args.self.file.0) w) (λ none. none) c.requires.file (g.met.D.Depot.sound _) c.args.at c.args.bytes.now (writing c.args.at) (writing_for (mapping c.args.self) c.args.at);
      used = used_none (mapping c.args.self) c.args.at c.args.clusters.now w w;
      known = known_same refl;
      image = same_image_self c.args.clusters.now;
      went = went_none c.args.self.file.0 w;
    }

pub write_part-requires-clause-least : goal.write_part-requires-clause-least
write_part-requires-clause-least g c =
    subst (λ (z : ℕ). z * c.part_at-part.result.count < c.part_at-part.result.from + c.part_at-part.result.length + z) (cluster_by (mapping c.args.self) c.requires.mapping) c.part_at-part.ensures.part.least

-- ---- a part, whatever was answered

module _ (g : Over) (c : After-write_part g) where
  abbrev m : Mapping
  m = mapping c.args.self

  next : IsNext c.loop-done.done c.part_at-part.result
  next = next_part (shape_by m) c.args.at (length c.args.bytes.now) c.loop-done.done c.part_at-part.result (cluster_some m c.requires.mapping) c.part_at-part.ensures.part c.loop-done-test.true c.loop-done.invariant.stop

  fits : c.loop-done.done + c.part_at-part.result.length ≤ length c.args.bytes.now
  fits = omega (arith, c.part_at-part.ensures.within, c.loop-done-test.true)

  inside : c.args.at + c.loop-done.done + c.part_at-part.result.length ≤ c.args.self.size
  inside = omega (arith, fits, c.requires.inside)

  piece : take (c.loop-done.done + c.part_at-part.result.length - c.loop-done.done) (drop c.loop-done.done c.args.bytes.now) ≡ take c.part_at-part.result.length (drop c.loop-done.done c.args.bytes.now)
  piece = ap (λ (k : ℕ). take k (drop c.loop-done.done c.args.bytes.now)) (omega arith)

  -- since the start
  reached : Reached m c.args.at c.loop-done.done c.args.bytes.now (writing c.args.at) c.args.clusters.now c.loop-done.clusters (g.D.Outside.world c.args.depot.now) (g.D.Outside.world c.loop-done.depot)
  reached = reached_from m c.args.clusters.now c.loop-done.clusters (g.D.Outside.world c.loop-done.depot) c.lacks_room.ensures.reads (λ none. none) c.requires.file (g.met.D.Depot.sound _) c.loop-done.invariant.went.run c.loop-done.invariant.reached

  used : HasUsed m c.args.at c.loop-done.done c.args.clusters.now c.loop-done.clusters (g.D.Outside.world c.args.depot.now) (g.D.Outside.world c.loop-done.depot)
  used = used_from m c.args.clusters.now c.loop-done.clusters (g.D.Outside.world c.loop-done.depot) c.lacks_room.ensures.reads (λ none. none) c.requires.file (g.met.D.Depot.sound _) c.loop-done.invariant.used

  known : KnowsOn m Always c.args.clusters.now c.loop-done.clusters (g.D.Outside.world c.args.depot.now) (g.D.Outside.world c.loop-done.depot)
  known = known_from m c.args.clusters.now c.loop-done.clusters (g.D.Outside.world c.loop-done.depot) c.lacks_room.ensures.reads (λ none. none) c.requires.file (g.met.D.Depot.sound _) c.loop-done.invariant.known

  went : Went c.args.self.file.0 (g.D.Outside.world c.args.depot.now) (g.D.Outside.world c.loop-done.depot) None
  went = went_on c.in_ok-lacks_room.ensures.went c.loop-done.invariant.went

  there : HasRoomFor m c.args.at (length c.args.bytes.now) c.args.clusters.now (g.D.Outside.world c.args.depot.now)
  there s store of told has = ⊎_elim
      (λ lacks. absurd (true≢false (sym lacks.0 ∙ c.if-branch.false)))
      (λ enough. omega (arith, enough.1, c.room.ensures.room))
      (c.in_ok-lacks_room.ensures.lacks s store of told has)

pub returns-in_err-write_part-clause-changes : goal.returns-in_err-write_part-clause-changes
returns-in_err-write_part-clause-changes g d =
    let c = (goal.at.returns-in_err-write_part-clause-changes g d).After-write_part in
    changes_part c.requires.mapping c.requires.file c.part_at-part.ensures.part (next g c) (reached g c) (went g c).run (fits g c) refl (piece g c) (writing_for (mapping c.args.self) c.args.at)
    (write_steps c.requires.mapping c.requires.file c.part_at-part.ensures.part c.part_at-part.ensures.lies (next g c) (inside g c) (reached g c) (went g c).run)
    c.write_part.ensures.went.run (g.met.D.Depot.sound _) c.write_part.ensures.alters
    (write_near c.requires.mapping c.requires.file c.part_at-part.ensures.part c.part_at-part.ensures.lies (next g c) (inside g c) (reached g c) (went g c).run (g.D.Outside.world c.write_part.new.depot) (length c.args.bytes.now) (fits g c))

pub returns-in_err-write_part-clause-uses : goal.returns-in_err-write_part-clause-uses
returns-in_err-write_part-clause-uses g d s disks first of hands al told store has =
    let c = (goal.at.returns-in_err-write_part-clause-uses g d).After-write_part in
    uses_part c.requires.mapping c.requires.file c.part_at-part.ensures.part c.part_at-part.ensures.lies (next g c) (inside g c) (reached g c) (went g c).run (used g c) c.write_part.new.clusters (g.D.Outside.world c.write_part.new.depot) (length c.args.bytes.now) (fits g c) c.write_part.ensures.uses
    s disks first of hands al told store has

-- what it answered is handed on
handed : (g : Over) (d : After-from_residual-in_err-write_part g) → d.from_residual-in_err-write_part.result ≡ d.write_part.result
handed g d = search rules

no_room : (g : Over) (c : After-write_part g) → c.write_part.result ≡ Err failures.NoRoom → (s : Shape) (disks : List (List ℕ)) (first : ℕ) → IsMapOf s (mapping c.args.self) → HandsOut first c.args.clusters.now
    → Allocates s disks first c.args.clusters.now (g.D.Outside.world c.args.depot.now) → IsTrue (g.D.Outside.world c.args.depot.now).tells → ⊥
no_room g c same =
    lacks_none c.requires.mapping c.requires.file c.part_at-part.ensures.part c.part_at-part.ensures.lies (next g c) (inside g c) (reached g c) (went g c).run (used g c) (g.D.Outside.world c.write_part.new.depot) (length c.args.bytes.now) (fits g c) (there g c)
    (c.write_part.ensures.short same)

pub returns-in_err-write_part-clause-short : goal.returns-in_err-write_part-clause-short
returns-in_err-write_part-clause-short g d same s disks first of hands al told store has =
    absurd (no_room g (goal.at.returns-in_err-write_part-clause-short g d).After-write_part (sym (handed g d) ∙ same) s disks first of hands al told)

pub returns-in_err-write_part-clause-kept : goal.returns-in_err-write_part-clause-kept
returns-in_err-write_part-clause-kept g d same s disks first of hands al told =
    absurd (no_room g (goal.at.returns-in_err-write_part-clause-kept g d).After-write_part (sym (handed g d) ∙ same) s disks first of hands al told)

pub returns-in_err-write_part-clause-known : goal.returns-in_err-write_part-clause-known
returns-in_err-write_part-clause-known g d other =
    let c = (goal.at.returns-in_err-write_part-clause-known g d).After-write_part in
    known_part c.requires.mapping c.requires.file c.part_at-part.ensures.part (next g c) (reached g c) (went g c).run (known g c) (c.write_part.ensures.known (λ is. other (handed g d ∙ is)))

pub returns-in_err-write_part-clause-went : goal.returns-in_err-write_part-clause-went
returns-in_err-write_part-clause-went g d =
    let c = (goal.at.returns-in_err-write_part-clause-went g d).After-write_part in
    went_on (went g c) (subst (λ (r : Result (Unit {0}) NotWritten). Went c.args.self.file.0 (g.D.Outside.world c.loop-done.depot) (g.D.Outside.world c.write_part.new.depot) (failure r)) (sym (handed g d)) c.write_part.ensures.went)

pub loop-done-preserved : goal.loop-done-preserved
loop-done-preserved g d =
    let c = (goal.at.loop-done-preserved g d).After-write_part in
    let inv = c.loop-done.invariant in
    let e = c.part_at-part.ensures in
    record {
      order = fits g c;
      stop = next_stop (shape_by (mapping c.args.self)) c.args.at (length c.args.bytes.now) c.loop-done.done c.part_at-part.result (cluster_some (mapping c.args.self) c.requires.mapping) e.part c.loop-done-test.true;
      reached = reached_part c.requires.mapping c.requires.file e.part (next g c) inv.reached inv.went.run (fits g c) refl (piece g c) (writing_for (mapping c.args.self) c.args.at)
          (write_steps c.requires.mapping c.requires.file e.part e.lies (next g c) (inside g c) inv.reached inv.went.run)
          c.write_part.ensures.went.run (g.met.D.Depot.sound _) c.write_part.ensures.alters d.in_ok-write_part.ensures.done
          (write_done c.requires.mapping c.requires.file e.part e.lies (next g c) (inside g c) inv.reached inv.went.run c.write_part.new.clusters (g.D.Outside.world c.write_part.new.depot) d.in_ok-write_part.ensures.room);
      used = used_part c.requires.mapping c.requires.file e.part e.lies (next g c) (inside g c) inv.reached inv.went.run inv.used c.write_part.new.clusters (g.D.Outside.world c.write_part.new.depot) d.in_ok-write_part.ensures.room;
      known = known_part c.requires.mapping c.requires.file e.part (next g c) inv.reached inv.went.run inv.known (d.in_ok-write_part.ensures.known (λ same. cc));
      image = same_image_on inv.image c.write_part.ensures.same;
      went = went_on inv.went d.in_ok-write_part.ensures.went;
    }

-- ---- all of it

module _ (g : Over) (c : After-loop-done g) where
  abbrev k : Mapping
  k = mapping c.args.self

  all : c.loop-done.done ≡ length c.args.bytes.now
  all = omega (arith, c.loop-done.invariant.order, c.loop-done-test.false)

  reached_all : Reached k c.args.at (length c.args.bytes.now) c.args.bytes.now (writing c.args.at) c.args.clusters.now c.loop-done.clusters (g.D.Outside.world c.args.depot.now) (g.D.Outside.world c.loop-done.depot)
  reached_all = subst (λ (n : ℕ). Reached k c.args.at n c.args.bytes.now (writing c.args.at) c.args.clusters.now c.loop-done.clusters (g.D.Outside.world c.args.depot.now) (g.D.Outside.world c.loop-done.depot)) all
      (reached_from k c.args.clusters.now c.loop-done.clusters (g.D.Outside.world c.loop-done.depot) c.lacks_room.ensures.reads (λ none. none) c.requires.file (g.met.D.Depot.sound _) c.loop-done.invariant.went.run c.loop-done.invariant.reached)

  used_all : HasUsed k c.args.at (length c.args.bytes.now) c.args.clusters.now c.loop-done.clusters (g.D.Outside.world c.args.depot.now) (g.D.Outside.world c.loop-done.depot)
  used_all = subst (λ (n : ℕ). HasUsed k c.args.at n c.args.clusters.now c.loop-done.clusters (g.D.Outside.world c.args.depot.now) (g.D.Outside.world c.loop-done.depot)) all
      (used_from k c.args.clusters.now c.loop-done.clusters (g.D.Outside.world c.loop-done.depot) c.lacks_room.ensures.reads (λ none. none) c.requires.file (g.met.D.Depot.sound _) c.loop-done.invariant.used)

pub returns-clause-changes : goal.returns-clause-changes
returns-clause-changes g c = changes_all (writing_for (mapping c.args.self) c.args.at) (reached_all g c)

pub returns-clause-done : goal.returns-clause-done
returns-clause-done g c = has_changed (writing_for (mapping c.args.self) c.args.at) (reached_all g c) c.requires.inside

pub returns-clause-room : goal.returns-clause-room
returns-clause-room g c = (used_all g c).used

pub returns-clause-uses : goal.returns-clause-uses
returns-clause-uses g c = uses_all (used_all g c)

pub returns-clause-known : goal.returns-clause-known
returns-clause-known g c other =
    known_from (mapping c.args.self) c.args.clusters.now c.loop-done.clusters (g.D.Outside.world c.loop-done.depot) c.lacks_room.ensures.reads (λ none. none) c.requires.file (g.met.D.Depot.sound _) c.loop-done.invariant.known

pub returns-clause-went : goal.returns-clause-went
returns-clause-went g c = went_on c.in_ok-lacks_room.ensures.went c.loop-done.invariant.went
