use Rattle.std.proofs.Common.{◌≡◌, ℕ, ◌+◌, ◌-◌, ◌*◌, ◌/◌, ◌^◌, ◌≤◌, List, length, take, refl, sym, subst, arith, Result, Ok, Err, IfOk}
use Rattle.std.specs.Prelude.{count_by}
use Rattle.std.specs.List.{range_with_len}
use Rattle.std.proofs.lemmas.List.{take_all}
use Rattle.std.proofs.Math.Nat.{mul_comm}
use Rattle.cluster_pool.specs.Pool.{room}
use Rattle.map_rows.specs.Stores.{is_open_at}
use Rattle.qc_map.specs.Altering.{stores, UsesUpTo, Alters, HasAltered, KnowsOn}
use Rattle.qc_map.specs.Filling.{NamesBelow}
use Rattle.qc_map.specs.Mapping.{mapping}
use Rattle.qc_map.proofs.Over.{IsStoredRun, over_alters, over_done, over_known}
use Rattle.qc_map.proofs.Rowwise.{RowAt, piece_of, counted_each, open_run, stored_run, closed_run}
use Rattle.qc_map.proofs.Tallies.{counted_none}
use Rattle.qc_map.proofs.layout.Layout.write_run.Given.{Over}
use Rattle.qc_map.proofs.layout.Layout.write_run.Goals.{After-overwrite_run}
use Rattle.qc_map.proofs.layout.Layout.write_run.Goals as goal

-- ---- holes and zeros

pub fill-requires-clause-open_row : goal.fill-requires-clause-open_row
fill-requires-clause-open_row g c = open_run (2 ^ c.args.self.cluster_bits) (length c.args.row.now / 8) c.args.host c.args.row.now c.if-host-eq0.true c.requires.run

pub returns-then-host-eq0-clause-room : goal.returns-then-host-eq0-clause-room
returns-then-host-eq0-clause-room g c =
    let row = c.args.row.now in
    let all = open_run (2 ^ c.args.self.cluster_bits) (length row / 8) c.args.host row c.if-host-eq0.true c.requires.run in
    let P : ℕ → Type 0 = λ n. NamesBelow c.args.self.cluster_bits (length row / 8) row c.args.clusters.now.pool.next → room c.fill.new.clusters.pool + n ≡ room c.args.clusters.now.pool in
    let Q : ℕ → Type 0 = λ n. NamesBelow c.args.self.cluster_bits (length row / 8) row c.args.clusters.now.pool.next → room c.fill.new.clusters.pool + count_by (is_open_at row) (range_with_len 0 n) ≡ room c.args.clusters.now.pool in
    by_result c.fill.result P Q (λ n many is below. omega (arith, is below, counted_each (is_open_at row) n (λ t t_in. all t (omega (arith, t_in, many.1))))) c.fill.ensures.count c.fill.ensures.room
  where
    by_result : {E : Type 0} {A : ℕ → Type 0} (r : Result ℕ E) (P Q : ℕ → Type 0) → ((n : ℕ) → A n → P n → Q n) → IfOk r A → IfOk r P → IfOk r Q
    by_result (Ok n) P Q more a is = more n a is
    by_result (Err e) P Q more a is = tt

pub returns-then-host-eq0-clause-uses : goal.returns-then-host-eq0-clause-uses
returns-then-host-eq0-clause-uses g c below =
    let row = c.args.row.now in
    let all = counted_each (is_open_at row) (length row / 8) (open_run (2 ^ c.args.self.cluster_bits) (length row / 8) c.args.host row c.if-host-eq0.true c.requires.run) in
    subst (UsesUpTo c.args.clusters.now c.fill.new.clusters) (sym all) (c.fill.ensures.uses below)

pub returns-then-host-eq0-clause-short : goal.returns-then-host-eq0-clause-short
returns-then-host-eq0-clause-short g c none =
    let row = c.args.row.now in
    omega (arith, c.fill.ensures.short none, counted_each (is_open_at row) (length row / 8) (open_run (2 ^ c.args.self.cluster_bits) (length row / 8) c.args.host row c.if-host-eq0.true c.requires.run))

-- ---- data that is stored

module _ (g : Over) (c : After-overwrite_run g) where
  run : IsStoredRun c.args.self.cluster_bits 0 (length c.args.row.now / 8) c.args.host c.args.row.now
  run = stored_run c.args.self.cluster_bits (length c.args.row.now / 8) c.args.host c.args.row.now (omega (arith, c.requires.some, c.requires.row)) c.if-host-eq0.false c.requires.run

  short : c.args.from + length c.args.bytes.now ≤ length c.args.row.now / 8 * 2 ^ c.args.self.cluster_bits
  short = omega (arith, c.requires.covers, mul_comm (2 ^ c.args.self.cluster_bits) (length c.args.row.now / 8))

  alters : (i j : ℕ) → Alters (mapping c.args.self) (RowAt (mapping c.args.self) c.args.spot c.args.row.now i j) (piece_of i j (length c.args.row.now / 8) c.args.from c.args.bytes.now)
      c.args.clusters.now c.args.clusters.now (g.D.Outside.world c.args.depot.now) (g.D.Outside.world c.overwrite_run.new.depot)
  alters i j =
      let e = c.overwrite_run.ensures in
      let slot : j + 0 ≡ j = omega arith in
      subst (λ (k : ℕ). Alters (mapping c.args.self) (RowAt (mapping c.args.self) c.args.spot c.args.row.now i j) (piece_of i k (length c.args.row.now / 8) c.args.from c.args.bytes.now)
      c.args.clusters.now c.args.clusters.now (g.D.Outside.world c.args.depot.now) (g.D.Outside.world c.overwrite_run.new.depot)) slot
      (over_alters c.args.spot i j (length c.args.row.now / 8) 0 (length c.args.row.now / 8) c.args.host c.args.from (c.args.host + c.args.from) c.args.row.now c.args.bytes.now c.requires.mapping (run) (omega arith) refl (short)
      c.args.clusters.now c.requires.file (g.met.D.Depot.sound _) e.puts.calls.run e.moves e.leaves e.entry e.partly e.rows stores)

  knows : (i j : ℕ) → KnowsOn (mapping c.args.self) (RowAt (mapping c.args.self) c.args.spot c.args.row.now i j) c.args.clusters.now c.args.clusters.now (g.D.Outside.world c.args.depot.now) (g.D.Outside.world c.overwrite_run.new.depot)
  knows i j =
      let e = c.overwrite_run.ensures in
      over_known c.args.spot i j (length c.args.row.now / 8) 0 (length c.args.row.now / 8) c.args.host c.args.from (c.args.host + c.args.from) c.args.row.now c.args.bytes.now c.requires.mapping (run) (omega arith) refl (short)
      c.args.clusters.now c.requires.file (g.met.D.Depot.sound _) e.puts.calls.run e.moves e.leaves e.entry e.partly e.rows

pub returns-in-Ok-clause-alters : goal.returns-in-Ok-clause-alters
returns-in-Ok-clause-alters g c = alters g (goal.at.returns-in-Ok-clause-alters g c).After-overwrite_run

pub returns-in-Ok-clause-done : goal.returns-in-Ok-clause-done
returns-in-Ok-clause-done g d i j =
    let c = (goal.at.returns-in-Ok-clause-done g d).After-overwrite_run in
    let e = c.overwrite_run.ensures in
    let slot : j + 0 ≡ j = omega arith in
    let all : c.args.bytes.now ≡ take (2 ^ c.args.self.cluster_bits * (length c.args.row.now / 8) - c.args.from) c.args.bytes.now = sym (take_all _ c.args.bytes.now (omega (arith, c.requires.covers))) in
    subst (λ (l : List ℕ). HasAltered (mapping c.args.self) (RowAt (mapping c.args.self) c.args.spot c.args.row.now i j) (piece_of i j (length c.args.row.now / 8) c.args.from l)
    c.args.clusters.now (g.D.Outside.world c.args.depot.now) (g.D.Outside.world c.overwrite_run.new.depot)) all
    (subst (λ (k : ℕ). HasAltered (mapping c.args.self) (RowAt (mapping c.args.self) c.args.spot c.args.row.now i j) (piece_of i k (length c.args.row.now / 8) c.args.from c.args.bytes.now)
    c.args.clusters.now (g.D.Outside.world c.args.depot.now) (g.D.Outside.world c.overwrite_run.new.depot)) slot
    (over_done c.args.spot i j (length c.args.row.now / 8) 0 (length c.args.row.now / 8) c.args.host c.args.from (c.args.host + c.args.from) c.args.row.now c.args.bytes.now c.requires.mapping (run g c) (omega arith) refl (short g c)
    c.args.clusters.now c.requires.file (g.met.D.Depot.sound _) e.puts.calls.run e.moves e.leaves e.entry e.partly e.rows stores (λ t t_in. refl) d.in-Ok.ensures.shows))

pub returns-in-Ok-clause-room : goal.returns-in-Ok-clause-room
returns-in-Ok-clause-room g d below =
    let c = (goal.at.returns-in-Ok-clause-room g d).After-overwrite_run in
    omega (arith, counted_none (is_open_at c.args.row.now) (length c.args.row.now / 8) (closed_run c.args.self.cluster_bits (length c.args.row.now / 8) c.args.host c.args.row.now (run g c)))

pub returns-in-Ok-clause-known : goal.returns-in-Ok-clause-known
returns-in-Ok-clause-known g c other = knows g (goal.at.returns-in-Ok-clause-known g c).After-overwrite_run

pub returns-in-Err-clause-alters : goal.returns-in-Err-clause-alters
returns-in-Err-clause-alters g c = alters g (goal.at.returns-in-Err-clause-alters g c).After-overwrite_run

pub returns-in-Err-clause-known : goal.returns-in-Err-clause-known
returns-in-Err-clause-known g c other = knows g (goal.at.returns-in-Err-clause-known g c).After-overwrite_run
