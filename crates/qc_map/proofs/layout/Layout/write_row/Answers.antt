use Rattle.std.proofs.Common.{◌≡◌, ℕ, ◌+◌, ◌-◌, ◌*◌, ◌/◌, ◌^◌, ◌<◌, ◌≤◌, min, List, length, length-drop, take, drop, Bool, refl, sym, ◌∙◌, ap, subst, arith}
use Rattle.std.specs.Prelude.{if◌then◌else◌}
use Rattle.std.proofs.lemmas.Bool.{ne_eqb, eq-eqb}
use Rattle.std.proofs.lemmas.List.{length-take, take_all}
use Rattle.std.proofs.Math.Nat.{mul-le-mul_left, mul_comm}
use Rattle.image_model.specs.Clusters.{stored}
use Rattle.map_rows.specs.Runs.{place_in}
use Rattle.qc_map.specs.Altering.{Alters, HasAltered}
use Rattle.qc_map.specs.Mapping.{mapping}
use Rattle.qc_map.proofs.Rowwise.{IsTurn, IsSlice, RowAt, piece_of, after, run_covers, run_least, run_ends, order, within, next, apart, word_in, progress_none, progress_on, failed_alters, failed_known, failed_uses, failed_short}
use Rattle.qc_map.proofs.Steps.{went_on, went_why, why_back}
use Rattle.qc_map.proofs.layout.Layout.write_row.Given.{Over}
use Rattle.qc_map.proofs.layout.Layout.write_row.Goals.{After-min-end, then-index-eq0, else-index-eq0}
use Rattle.qc_map.proofs.layout.Layout.write_row.Goals as goal

pub loop-index-init : goal.loop-index-init
loop-index-init g c = record {
  progress = progress_none (mapping c.args.self) c.args.spot c.args.from c.args.row.now c.args.bytes.now c.args.clusters.now (g.D.Outside.world c.args.depot.now) c.requires.file (g.met.D.Depot.sound _);
  inside = omega arith;
  written = let none : 0 * 2 ^ c.args.self.cluster_bits ≡ 0 = omega arith in omega (arith, none);
}

-- ---- the run that comes next

module _ (g : Over) (c : After-min-end g) where
  turn : IsTurn (2 ^ c.args.self.cluster_bits) c.args.from (length c.args.row.now / 8) (length c.args.bytes.now) c.loop-index.index c.run_from-run.result.count c.if-index-eq0.place c.loop-index.done c.min-end.result
  turn = record {
    low = c.requires.inside;
    covers = c.requires.covers;
    least = c.requires.least;
    turn = c.loop-index-test.true;
    some = c.run_from-run.ensures.run.some;
    fits = c.run_from-run.ensures.run.inside;
    done_is = c.loop-index.invariant.written;
    place_is = elim c.if-index-eq0.branch [
      | then-index-eq0 w ↦ w.place-is ∙ sym (ap (λ (b : Bool). if b then c.args.from else 0) (eq-eqb c.loop-index.index 0 w.if-index-eq0.true))
      | else-index-eq0 w ↦ w.place-is ∙ sym (ap (λ (b : Bool). if b then c.args.from else 0) (ne_eqb c.loop-index.index 0 w.if-index-eq0.false))
    ];
    end_is = c.min-end.ensures ∙ ap (λ (z : ℕ). min ((c.loop-index.index + c.run_from-run.result.count) * z - c.args.from) (length c.args.bytes.now)) c.cluster_of-cluster.ensures.bytes;
  }

  abbrev entries : List ℕ
  entries = take (8 * (c.loop-index.index + c.run_from-run.result.count) - 8 * c.loop-index.index) (drop (8 * c.loop-index.index) c.args.row.now)

  abbrev piece : List ℕ
  piece = take (c.min-end.result - c.loop-index.done) (drop c.loop-index.done c.args.bytes.now)

  long_entries : length entries ≡ 8 * c.run_from-run.result.count
  long_entries = omega (arith, length-take (8 * (c.loop-index.index + c.run_from-run.result.count) - 8 * c.loop-index.index) (drop (8 * c.loop-index.index) c.args.row.now), length-drop (8 * c.loop-index.index) c.args.row.now, c.run_from-run.ensures.run.inside)

  long_piece : length piece ≡ c.min-end.result - c.loop-index.done
  long_piece = omega (arith, length-take (c.min-end.result - c.loop-index.done) (drop c.loop-index.done c.args.bytes.now), length-drop c.loop-index.done c.args.bytes.now, order turn, within turn)

  slice : IsSlice (2 ^ c.args.self.cluster_bits) c.args.from c.args.row.now c.args.bytes.now entries piece c.loop-index.index c.run_from-run.result.count c.if-index-eq0.place c.loop-index.done c.min-end.result
  slice = record {
    inside = c.run_from-run.ensures.run.inside;
    slice = long_entries;
    words = λ t t_in. word_in c.args.row.now c.loop-index.index c.run_from-run.result.count t (omega (arith, c.run_from-run.ensures.run.inside)) t_in;
    piece_is = refl;
    order = order turn;
    within = within turn;
    next = next turn;
    apart = apart turn;
    ends = run_ends turn;
  }

  times : 2 ^ c.args.self.cluster_bits * (length entries / 8) ≡ 2 ^ c.args.self.cluster_bits * c.run_from-run.result.count
  times = let n : length entries / 8 ≡ c.run_from-run.result.count = omega (arith, long_entries) in ap (λ (k : ℕ). 2 ^ c.args.self.cluster_bits * k) n

pub write_run-requires-clause-run : goal.write_run-requires-clause-run
write_run-requires-clause-run g d m m_in =
    let c = (goal.at.write_run-requires-clause-run g d).After-min-end in
    let run = c.run_from-run.ensures.run in
    let inside : m < c.run_from-run.result.count = omega (arith, m_in, long_entries g c) in
    ap stored ((slice g c).words m inside) ∙ run.each m inside ∙ ap (λ (z : ℕ). place_in c.run_from-run.result.host z m) c.cluster_of-cluster.ensures.bytes

pub write_run-requires-clause-covers : goal.write_run-requires-clause-covers
write_run-requires-clause-covers g d =
    let c = (goal.at.write_run-requires-clause-covers g d).After-min-end in
    omega (arith, run_covers (turn g c), times g c, long_piece g c)

pub write_run-requires-clause-least : goal.write_run-requires-clause-least
write_run-requires-clause-least g d =
    let c = (goal.at.write_run-requires-clause-least g d).After-min-end in
    omega (arith, run_least (turn g c), times g c, long_piece g c)

-- ---- behind it

pub overflow_sub-index-in-Ok : goal.overflow_sub-index-in-Ok
overflow_sub-index-in-Ok g c =
    let cluster = c.cluster_of-cluster.result in
    let e : cluster * 1 ≤ cluster * (c.loop-index.index + c.in-Ok.more) = mul-le-mul_left cluster (omega (arith, c.in-Ok.ensures.count.0)) in
    omega (arith, e, mul_comm cluster (c.loop-index.index + c.in-Ok.more), c.requires.inside, c.cluster_of-cluster.ensures.bytes)

pub loop-index-preserved : goal.loop-index-preserved
loop-index-preserved g d =
    let c = (goal.at.loop-index-preserved g d).After-min-end in
    let e = d.in-Ok.ensures in
    let few : d.in-Ok.more ≤ c.run_from-run.result.count = omega (arith, e.count.1, long_entries g c) in
    let written = d.min-done.ensures ∙ ap (λ (z : ℕ). min ((d.loop-index.index + d.in-Ok.more) * z - d.args.from) (length d.args.bytes.now)) d.cluster_of-cluster.ensures.bytes in
    record {
      progress = progress_on (slice g c) c.requires.file (g.met.D.Depot.sound _) c.loop-index.invariant.progress few (after (turn g c) d.in-Ok.more d.min-done.result e.count.0 few written) e.went e.done
          e.alters (e.known (λ same. cc)) e.same e.next e.room;
      inside = omega (arith, few, c.run_from-run.ensures.run.inside);
      written = written;
    }

pub returns-in-Err-clause-alters : goal.returns-in-Err-clause-alters
returns-in-Err-clause-alters g d =
    let c = (goal.at.returns-in-Err-clause-alters g d).After-min-end in
    failed_alters (slice g c) c.requires.file (g.met.D.Depot.sound _) c.loop-index.invariant.progress d.in-Err.ensures.went d.in-Err.ensures.alters

pub returns-in-Err-clause-uses : goal.returns-in-Err-clause-uses
returns-in-Err-clause-uses g d =
    let c = (goal.at.returns-in-Err-clause-uses g d).After-min-end in
    failed_uses (slice g c) c.requires.file (g.met.D.Depot.sound (d.write_run.new.depot)) c.loop-index.invariant.progress d.in-Err.ensures.uses

pub returns-in-Err-clause-short : goal.returns-in-Err-clause-short
returns-in-Err-clause-short g d none =
    let c = (goal.at.returns-in-Err-clause-short g d).After-min-end in
    failed_short (slice g c) c.requires.file (g.met.D.Depot.sound (d.write_run.new.depot)) c.loop-index.invariant.progress (d.in-Err.ensures.short (why_back none))

pub returns-in-Err-clause-known : goal.returns-in-Err-clause-known
returns-in-Err-clause-known g d other =
    let c = (goal.at.returns-in-Err-clause-known g d).After-min-end in
    failed_known (slice g c) c.requires.file (g.met.D.Depot.sound (d.write_run.new.depot)) c.loop-index.invariant.progress (d.in-Err.ensures.known (λ same. other (why_back same)))

pub returns-in-Err-clause-went : goal.returns-in-Err-clause-went
returns-in-Err-clause-went g d = went_on d.loop-index.invariant.progress.went (went_why ℕ (Unit {0}) d.in-Err.why d.in-Err.ensures.went)

-- ---- at the end

pub returns-clause-alters : goal.returns-clause-alters
returns-clause-alters g c i j =
    let inv = c.loop-index.invariant in
    let last : c.loop-index.index ≡ length c.args.row.now / 8 = omega (arith, inv.inside, c.loop-index-test.false) in
    let times : c.loop-index.index * 2 ^ c.args.self.cluster_bits ≡ 2 ^ c.args.self.cluster_bits * (length c.args.row.now / 8) = mul_comm c.loop-index.index (2 ^ c.args.self.cluster_bits) ∙ ap (λ (n : ℕ). 2 ^ c.args.self.cluster_bits * n) last in
    let all : take c.loop-index.done c.args.bytes.now ≡ c.args.bytes.now = take_all c.loop-index.done c.args.bytes.now (omega (arith, inv.written, times, c.requires.covers)) in
    subst (λ (l : List ℕ). Alters (mapping c.args.self) (RowAt (mapping c.args.self) c.args.spot c.args.row.now i j) (piece_of i j (length c.args.row.now / 8) c.args.from l) c.args.clusters.now c.loop-index.clusters
    (g.D.Outside.world c.args.depot.now) (g.D.Outside.world c.loop-index.depot)) all
    (subst (λ (n : ℕ). Alters (mapping c.args.self) (RowAt (mapping c.args.self) c.args.spot c.args.row.now i j) (piece_of i j n c.args.from (take c.loop-index.done c.args.bytes.now)) c.args.clusters.now c.loop-index.clusters
    (g.D.Outside.world c.args.depot.now) (g.D.Outside.world c.loop-index.depot)) last (inv.progress.alters i j))

pub returns-clause-done : goal.returns-clause-done
returns-clause-done g c i j =
    let inv = c.loop-index.invariant in
    let last : c.loop-index.index ≡ length c.args.row.now / 8 = omega (arith, inv.inside, c.loop-index-test.false) in
    let times : c.loop-index.index * 2 ^ c.args.self.cluster_bits ≡ 2 ^ c.args.self.cluster_bits * (length c.args.row.now / 8) = mul_comm c.loop-index.index (2 ^ c.args.self.cluster_bits) ∙ ap (λ (n : ℕ). 2 ^ c.args.self.cluster_bits * n) last in
    let all : take c.loop-index.done c.args.bytes.now ≡ c.args.bytes.now = take_all c.loop-index.done c.args.bytes.now (omega (arith, inv.written, times, c.requires.covers)) in
    subst (λ (l : List ℕ). HasAltered (mapping c.args.self) (RowAt (mapping c.args.self) c.args.spot c.args.row.now i j) (piece_of i j (length c.args.row.now / 8) c.args.from l) c.args.clusters.now
    (g.D.Outside.world c.args.depot.now) (g.D.Outside.world c.loop-index.depot)) all
    (subst (λ (n : ℕ). HasAltered (mapping c.args.self) (RowAt (mapping c.args.self) c.args.spot c.args.row.now i j) (piece_of i j n c.args.from (take c.loop-index.done c.args.bytes.now)) c.args.clusters.now
    (g.D.Outside.world c.args.depot.now) (g.D.Outside.world c.loop-index.depot)) last (inv.progress.altered i j))
