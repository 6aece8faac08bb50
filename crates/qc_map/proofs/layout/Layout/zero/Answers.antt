use Rattle.std.proofs.Common.{◌≡◌, inl, refl, ℕ, ◌+◌, ◌-◌, ◌*◌, ◌<◌, ◌≤◌, length, take, drop, Bool, true, false, Result, sym, subst, ◌∙◌, arith, rules}
use Rattle.std.specs.Prelude.{◌==◌}
use Rattle.std.proofs.lemmas.Bool.{eqb-true, eqb-false}
use Rattle.disk_model.specs.World.{reads_of}
use Rattle.disk_model.proofs.Laws.{stay}
use Rattle.qc_map.specs.Changing.{Change, Changes, HasChanged}
use Rattle.qc_map.specs.Failures.{Went, failure_of}
use Rattle.qc_map.specs.Mapping.{Mapping, mapping, shape_by}
use Rattle.qc_map.specs.declared.failures.Failing.{Failing}
use Rattle.qc_map.proofs.Given.{nothing_differs, differs_on}
use Rattle.qc_map.proofs.Going.{IsNext, next_part, next_stop}
use Rattle.qc_map.proofs.Places.{cluster_by, cluster_some}
use Rattle.qc_map.proofs.Reaching.{Reached, reached_start, changes_all, has_changed, changes_part, reached_part, known_part, known_same, same_room_part, zero_steps, zero_done, zero_near, zeroing_for, zero_change, part_of}
use Rattle.qc_map.proofs.Requests.{zeroing, zeros, zeros_long, zero_piece}
use Rattle.qc_map.proofs.Steps.{went_none, went_on}
use Rattle.qc_map.proofs.layout.Layout.zero.Given.{Over}
use Rattle.qc_map.proofs.layout.Layout.zero.Goals.{After-zero_part, After-from_residual, After-loop-done}
use Rattle.qc_map.proofs.layout.Layout.zero.Goals as goal

pub loop-done-init : goal.loop-done-init
loop-done-init g c =
    let w = g.D.Outside.world c.args.depot.now in
    record {
      order = omega arith;
      stop = record { is = inl refl };
      reached = reached_start (stay (reads_of c.args.self.file.0) w) (λ none. none) c.requires.file (g.met.D.Depot.sound _) c.args.at (zeros c.args.bytes) (zeroing c.args.self.size c.args.at) (zeroing_for (mapping c.args.self) c.args.at);
      room = λ s disks first of hands al told. refl;
      known = known_same refl;
      differs = nothing_differs c.args.clusters.now;
      went = went_none c.args.self.file.0 w;
    }

pub zero_part-requires-clause-short : goal.zero_part-requires-clause-short
zero_part-requires-clause-short g c =
    subst (λ (z : ℕ). z * c.part_at-part.result.count < c.part_at-part.result.from + c.part_at-part.result.length + z) (cluster_by (mapping c.args.self) c.requires.mapping) c.part_at-part.ensures.part.least

pub zero_part-requires-clause-last : goal.zero_part-requires-clause-last
zero_part-requires-clause-last g c = λ is s of.
    let begins = (part_of s (mapping c.args.self) (c.args.at + c.loop-done.done) (c.args.bytes - c.loop-done.done) c.part_at-part.result c.requires.mapping of c.part_at-part.ensures.part).begins in
    omega (arith, begins, eqb-true (c.args.at + c.loop-done.done + c.part_at-part.result.length) c.args.self.size is)

-- ---- a part, whatever was answered

module _ (g : Over) (c : After-zero_part g) where
  abbrev m : Mapping
  m = mapping c.args.self

  abbrev is_last : Bool
  is_last = c.args.at + c.loop-done.done + c.part_at-part.result.length == c.args.self.size

  next : IsNext c.loop-done.done c.part_at-part.result
  next = next_part (shape_by m) c.args.at c.args.bytes c.loop-done.done c.part_at-part.result (cluster_some m c.requires.mapping) c.part_at-part.ensures.part c.loop-done-test.true c.loop-done.invariant.stop

  within : c.loop-done.done + c.part_at-part.result.length ≤ c.args.bytes
  within = omega (arith, c.part_at-part.ensures.within, c.loop-done-test.true)

  fits : c.loop-done.done + c.part_at-part.result.length ≤ length (zeros c.args.bytes)
  fits = omega (arith, within, zeros_long c.args.bytes)

  left_is : c.args.bytes - c.loop-done.done ≡ length (zeros c.args.bytes) - c.loop-done.done
  left_is = omega (arith, zeros_long c.args.bytes)

  inside : c.args.at + c.loop-done.done + c.part_at-part.result.length ≤ c.args.self.size
  inside = omega (arith, within, c.requires.inside)

  piece : zeros c.part_at-part.result.length ≡ take c.part_at-part.result.length (drop c.loop-done.done (zeros c.args.bytes))
  piece = zero_piece c.args.bytes c.loop-done.done c.part_at-part.result.length within

  behind : is_last ≡ false → c.args.at + c.loop-done.done + c.part_at-part.result.length < c.args.self.size
  behind differ = let other = eqb-false (c.args.at + c.loop-done.done + c.part_at-part.result.length) c.args.self.size differ in omega (arith, other, inside)

  ends : is_last ≡ true → c.args.at + c.loop-done.done + c.part_at-part.result.length ≡ c.args.self.size
  ends is = eqb-true (c.args.at + c.loop-done.done + c.part_at-part.result.length) c.args.self.size is

pub returns-in_err-zero_part-clause-changes : goal.returns-in_err-zero_part-clause-changes
returns-in_err-zero_part-clause-changes g d =
    let c = (goal.at.returns-in_err-zero_part-clause-changes g d).After-zero_part in
    let inv = c.loop-done.invariant in
    let e = c.part_at-part.ensures in
    let m = mapping c.args.self in
    subst (λ (x : Change). Changes m x c.args.clusters.now c.zero_part.new.clusters (g.D.Outside.world c.args.depot.now) (g.D.Outside.world c.zero_part.new.depot)) (zero_change c.args.self.size c.args.at c.args.bytes)
    (changes_part {q = zeroing c.args.self.size c.args.at} c.requires.mapping c.requires.file e.part (next g c) inv.reached inv.went.run (fits g c) (left_is g c) (piece g c) (zeroing_for m c.args.at)
    (zero_steps m c.args.at c.loop-done.done (c.args.bytes - c.loop-done.done) c.part_at-part.result c.requires.mapping e.part e.lies (next g c) (is_last g c) (inside g c) (ends g c) (behind g c))
    c.zero_part.ensures.went.run (g.met.D.Depot.sound _) c.zero_part.ensures.alters
    (zero_near m c.args.at c.loop-done.done (c.args.bytes - c.loop-done.done) c.part_at-part.result c.requires.mapping e.part e.lies (next g c) c.loop-done.clusters (g.D.Outside.world c.loop-done.depot) (g.D.Outside.world c.zero_part.new.depot) c.zero_part.ensures.tables
    (length (zeros c.args.bytes))))

pub returns-in_err-zero_part-clause-room : goal.returns-in_err-zero_part-clause-room
returns-in_err-zero_part-clause-room g d =
    let c = (goal.at.returns-in_err-zero_part-clause-room g d).After-zero_part in
    same_room_part {q = zeroing c.args.self.size c.args.at} c.requires.mapping c.requires.file c.part_at-part.ensures.part (next g c) c.loop-done.invariant.reached c.loop-done.invariant.went.run c.zero_part.new.clusters c.loop-done.invariant.room c.zero_part.ensures.room

-- what it answered is handed on
handed : (g : Over) (d : After-from_residual g) → d.from_residual.result ≡ d.zero_part.result
handed g d = search rules

pub returns-in_err-zero_part-clause-known : goal.returns-in_err-zero_part-clause-known
returns-in_err-zero_part-clause-known g d other =
    let c = (goal.at.returns-in_err-zero_part-clause-known g d).After-zero_part in
    known_part {q = zeroing c.args.self.size c.args.at} c.requires.mapping c.requires.file c.part_at-part.ensures.part (next g c) c.loop-done.invariant.reached c.loop-done.invariant.went.run c.loop-done.invariant.known (c.zero_part.ensures.known (λ is. other (handed g d ∙ is)))

pub returns-in_err-zero_part-clause-went : goal.returns-in_err-zero_part-clause-went
returns-in_err-zero_part-clause-went g d =
    let c = (goal.at.returns-in_err-zero_part-clause-went g d).After-zero_part in
    went_on c.loop-done.invariant.went
    (subst (λ (r : Result (Unit {0}) Failing). Went c.args.self.file.0 (g.D.Outside.world c.loop-done.depot) (g.D.Outside.world c.zero_part.new.depot) (failure_of r)) (sym (handed g d)) c.zero_part.ensures.went)

pub returns-in_err-zero_part-clause-same : goal.returns-in_err-zero_part-clause-same
returns-in_err-zero_part-clause-same g d = let c = (goal.at.returns-in_err-zero_part-clause-same g d).After-zero_part in differs_on c.loop-done.invariant.differs c.zero_part.ensures.same

pub loop-done-preserved : goal.loop-done-preserved
loop-done-preserved g d =
    let c = (goal.at.loop-done-preserved g d).After-zero_part in
    let inv = c.loop-done.invariant in
    let e = c.part_at-part.ensures in
    let m = mapping c.args.self in
    record {
      order = within g c;
      stop = next_stop (shape_by m) c.args.at c.args.bytes c.loop-done.done c.part_at-part.result (cluster_some m c.requires.mapping) e.part c.loop-done-test.true;
      reached = reached_part {q = zeroing c.args.self.size c.args.at} c.requires.mapping c.requires.file e.part (next g c) inv.reached inv.went.run (fits g c) (left_is g c) (piece g c) (zeroing_for m c.args.at)
          (zero_steps m c.args.at c.loop-done.done (c.args.bytes - c.loop-done.done) c.part_at-part.result c.requires.mapping e.part e.lies (next g c) (is_last g c) (inside g c) (ends g c) (behind g c))
          c.zero_part.ensures.went.run (g.met.D.Depot.sound _) c.zero_part.ensures.alters d.in_ok-zero_part.ensures.done
          (zero_done m c.args.at c.loop-done.done (c.args.bytes - c.loop-done.done) c.part_at-part.result c.requires.mapping e.part e.lies (next g c) c.loop-done.clusters (g.D.Outside.world c.loop-done.depot) (g.D.Outside.world c.zero_part.new.depot) c.zero_part.ensures.tables);
      room = same_room_part {q = zeroing c.args.self.size c.args.at} c.requires.mapping c.requires.file e.part (next g c) inv.reached inv.went.run c.zero_part.new.clusters inv.room c.zero_part.ensures.room;
      known = known_part {q = zeroing c.args.self.size c.args.at} c.requires.mapping c.requires.file e.part (next g c) inv.reached inv.went.run inv.known (d.in_ok-zero_part.ensures.known (λ same. cc));
      differs = differs_on inv.differs c.zero_part.ensures.same;
      went = went_on inv.went d.in_ok-zero_part.ensures.went;
    }

-- ---- all of it

module _ (g : Over) (c : After-loop-done g) where
  abbrev k : Mapping
  k = mapping c.args.self

  all : c.loop-done.done ≡ length (zeros c.args.bytes)
  all = omega (arith, c.loop-done.invariant.order, c.loop-done-test.false, zeros_long c.args.bytes)

  reached_all : Reached k c.args.at (length (zeros c.args.bytes)) (zeros c.args.bytes) (zeroing c.args.self.size c.args.at) c.args.clusters.now c.loop-done.clusters (g.D.Outside.world c.args.depot.now) (g.D.Outside.world c.loop-done.depot)
  reached_all = subst (λ (n : ℕ). Reached k c.args.at n (zeros c.args.bytes) (zeroing c.args.self.size c.args.at) c.args.clusters.now c.loop-done.clusters (g.D.Outside.world c.args.depot.now) (g.D.Outside.world c.loop-done.depot)) all c.loop-done.invariant.reached

pub returns-clause-changes : goal.returns-clause-changes
returns-clause-changes g c =
    subst (λ (x : Change). Changes (mapping c.args.self) x c.args.clusters.now c.loop-done.clusters (g.D.Outside.world c.args.depot.now) (g.D.Outside.world c.loop-done.depot)) (zero_change c.args.self.size c.args.at c.args.bytes)
    (changes_all {q = zeroing c.args.self.size c.args.at} (zeroing_for (mapping c.args.self) c.args.at) (reached_all g c))

pub returns-clause-done : goal.returns-clause-done
returns-clause-done g c =
    subst (λ (x : Change). HasChanged (mapping c.args.self) x c.args.clusters.now (g.D.Outside.world c.args.depot.now) (g.D.Outside.world c.loop-done.depot)) (zero_change c.args.self.size c.args.at c.args.bytes)
    (has_changed {q = zeroing c.args.self.size c.args.at} (zeroing_for (mapping c.args.self) c.args.at) (reached_all g c) (omega (arith, c.requires.inside, zeros_long c.args.bytes)))
