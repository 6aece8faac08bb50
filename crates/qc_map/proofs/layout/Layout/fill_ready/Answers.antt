use Rattle.std.proofs.Common.{◌≡◌, ℕ, ◌+◌, ◌-◌, ◌*◌, ◌/◌, ◌%◌, ◌^◌, ◌≤◌, min, List, length, take, ◌∙◌, ap, subst, arith}
use Rattle.std.proofs.lemmas.List.{length-take, take_min}
use Rattle.std.proofs.Math.Nat.{mul_comm}
use Rattle.qc_alloc.specs.Allocator.{Allocator, HandsOut, DiffersInUse}
use Rattle.qc_map.specs.Altering.{Alters, HasAltered, ToldRow}
use Rattle.qc_map.specs.Mapping.{mapping}
use Rattle.qc_map.proofs.Steps.{alters_more}
use Rattle.qc_map.proofs.Filled.{Fill, piece_of, shifted, run_below, piece_within, piece_small, fill_wider, fill_alters, fill_done, fill_known, fill_alike, freed_room, given_room, uses_few, taken_differs, taken_hands, given_differs, given_hands}
use Rattle.qc_map.proofs.layout.Layout.fill_ready.Given.{Over}
use Rattle.qc_map.proofs.layout.Layout.fill_ready.Goals.{After-write_run}
use Rattle.qc_map.proofs.layout.Layout.fill_ready.Goals as goal

pub write_links-requires-clause-below : goal.write_links-requires-clause-below
write_links-requires-clause-below g c = let t = c.take_neighbours-taken in run_below c.args.clusters.now.pool t.result.first t.result.count t.ensures.taken.some t.ensures.ready

pub overflow_add-at : goal.overflow_add-at
overflow_add-at g c =
    let t = c.take_neighbours-taken in
    let below = run_below c.args.clusters.now.pool t.result.first t.result.count t.ensures.taken.some t.ensures.ready in
    let at = shifted c.args.self.cluster_bits t.result.first c.requires.mapping.high (omega (arith, below, t.ensures.taken.some)) in
    let pow = (shifted c.args.self.cluster_bits 1 c.requires.mapping.high (omega arith)).1 in
    omega (arith, at, pow, c.requires.inside)

pub write_run-requires-clause-data_end : goal.write_run-requires-clause-data_end
write_run-requires-clause-data_end g c =
    let t = c.take_neighbours-taken in
    let below = run_below c.args.clusters.now.pool t.result.first t.result.count t.ensures.taken.some t.ensures.ready in
    let at = shifted c.args.self.cluster_bits t.result.first c.requires.mapping.high (omega (arith, below, t.ensures.taken.some)) in
    let end_is = c.min-end.ensures ∙ ap (λ (z : ℕ). min (t.result.count * z - c.args.from) (length c.args.bytes.now)) c.cluster_of.ensures.bytes in
    let piece = length-take c.min-end.result c.args.bytes.now in
    let small = piece_small c.args.self.cluster_bits t.result.count c.args.from c.min-end.result (length c.args.bytes.now) (length (take c.min-end.result c.args.bytes.now)) c.requires.mapping.high t.ensures.taken.some
    (omega (arith, t.ensures.most, c.requires.most)) c.requires.inside end_is (omega (arith, piece)) in
    omega (arith, at, small)

pub give_back_all-requires : goal.give_back_all-requires
give_back_all-requires g c = record {
  taken = λ k low high.
      let t = c.take_neighbours-taken in
      t.ensures.taken.spoken.inside k low high (omega (arith, (t.ensures.ready k low high).reach, t.ensures.allocator.pool.spoken));
}

-- ---- after the write, whatever it answered

module _ (g : Over) (c : After-write_run g) where
  end_is : c.min-end.result ≡ min (c.take_neighbours-taken.result.count * 2 ^ c.args.self.cluster_bits - c.args.from) (length c.args.bytes.now)
  end_is = c.min-end.ensures ∙ ap (λ (z : ℕ). min (c.take_neighbours-taken.result.count * z - c.args.from) (length c.args.bytes.now)) c.cluster_of.ensures.bytes

  within : c.args.from + length (take c.min-end.result c.args.bytes.now) ≤ 2 ^ c.args.self.cluster_bits * c.take_neighbours-taken.result.count
  within =
      piece_within c.args.self.cluster_bits c.take_neighbours-taken.result.count c.args.from c.min-end.result (length c.args.bytes.now) (length (take c.min-end.result c.args.bytes.now)) c.requires.mapping.high
      c.take_neighbours-taken.ensures.taken.some (omega (arith, c.take_neighbours-taken.ensures.most, c.requires.most)) c.requires.inside end_is (omega (arith, length-take c.min-end.result c.args.bytes.now))

  few : c.take_neighbours-taken.result.count ≤ length c.args.row.now / 8
  few = omega (arith, c.take_neighbours-taken.ensures.most, c.requires.long)

  filled : Fill (mapping c.args.self) c.args.clusters.now c.take_neighbours-taken.new.self c.args.spot (length c.args.row.now / 8) c.take_neighbours-taken.result.first c.take_neighbours-taken.result.count
      (c.take_neighbours-taken.result.first * 2 ^ c.args.self.cluster_bits % 18446744073709551616 + c.args.from) c.args.from c.args.row.now c.write_links.new.entries (take c.min-end.result c.args.bytes.now)
      (g.D.Outside.world c.args.depot.now) (g.D.Outside.world c.write_run.new.depot)
  filled =
      let t = c.take_neighbours-taken in
      let below = run_below c.args.clusters.now.pool t.result.first t.result.count t.ensures.taken.some t.ensures.ready in
      let at = shifted c.args.self.cluster_bits t.result.first c.requires.mapping.high (omega (arith, below, t.ensures.taken.some)) in
      record {
        is0 = t.ensures.allocator;
        file = c.requires.file;
        bits = c.requires.bits;
        taken = t.ensures.taken;
        ready = t.ensures.ready;
        same = t.ensures.same;
        hands = t.ensures.hands;
        clean = c.prepared_is_clean.ensures;
        use_law = c.use_leaves_image.ensures;
        exact_law = c.entries_stay_exact.ensures;
        mapping = c.requires.mapping;
        few = few;
        at_is = ap (λ (n : ℕ). n + c.args.from) at.0;
        within = within;
        links = c.write_links.ensures.links;
        opened = c.requires.open_row;
        run = c.write_run.ensures.puts.writes;
        sound = g.met.D.Depot.sound _;
        moves = c.write_run.ensures.moves;
        leaves = c.write_run.ensures.leaves;
        either = c.write_run.ensures.either;
        rows = c.write_run.ensures.rows;
      }

  altered : (a2 : Allocator) → DiffersInUse c.args.clusters.now a2 → ((first : ℕ) → HandsOut first c.args.clusters.now → HandsOut (c.take_neighbours-taken.result.first + c.take_neighbours-taken.result.count) a2)
      → (i j : ℕ) → Alters (mapping c.args.self) (ToldRow (mapping c.args.self) c.args.spot i j (length c.args.row.now / 8) c.args.row.now) (piece_of i j (length c.args.row.now / 8) c.args.from c.args.bytes.now)
      c.args.clusters.now a2 (g.D.Outside.world c.args.depot.now) (g.D.Outside.world c.write_run.new.depot)
  altered a2 differs hands i j =
      alters_more {a = piece_of i j c.take_neighbours-taken.result.count c.args.from (take c.min-end.result c.args.bytes.now)}
      (fill_wider (mapping c.args.self) (length c.args.row.now / 8) c.take_neighbours-taken.result.count c.args.from c.min-end.result i j c.args.bytes.now few (omega (arith, within)) end_is)
      (λ s is known told. record { index = (known told).linked.inside; slots = (known told).slots })
      (fill_alters filled a2 differs hands i j)

  piece_same : take c.min-end.result c.args.bytes.now ≡ take (2 ^ c.args.self.cluster_bits * c.take_neighbours-taken.result.count - c.args.from) c.args.bytes.now
  piece_same =
      ap (λ (n : ℕ). take n c.args.bytes.now) end_is ∙ take_min (c.take_neighbours-taken.result.count * 2 ^ c.args.self.cluster_bits - c.args.from) c.args.bytes.now
      ∙ ap (λ (n : ℕ). take (n - c.args.from) c.args.bytes.now) (mul_comm c.take_neighbours-taken.result.count (2 ^ c.args.self.cluster_bits))

pub returns-in-Ok-clause-alters : goal.returns-in-Ok-clause-alters
returns-in-Ok-clause-alters g d i j =
    let c = (goal.at.returns-in-Ok-clause-alters g d).After-write_run in
    altered g c d.give_back_named.new.clusters (given_differs (filled g c) _ _ d.give_back_named.ensures.freed) (given_hands (filled g c) _ _ d.give_back_named.ensures.freed) i j

pub returns-in-Ok-clause-done : goal.returns-in-Ok-clause-done
returns-in-Ok-clause-done g d i j =
    let c = (goal.at.returns-in-Ok-clause-done g d).After-write_run in
    subst
    (λ (l : List ℕ). HasAltered (mapping c.args.self) (ToldRow (mapping c.args.self) c.args.spot i j (length c.args.row.now / 8) c.args.row.now) (piece_of i j c.take_neighbours-taken.result.count c.args.from l)
    c.args.clusters.now (g.D.Outside.world c.args.depot.now) (g.D.Outside.world c.write_run.new.depot))
    (piece_same g c) (fill_done (filled g c) d.in-Ok.ensures.stored i j)

pub returns-in-Ok-clause-room : goal.returns-in-Ok-clause-room
returns-in-Ok-clause-room g d below =
    let c = (goal.at.returns-in-Ok-clause-room g d).After-write_run in
    freed_room (filled g c) d.give_back_named.new.clusters d.give_back_named.ensures.freed c.take_neighbours-taken.ensures.room below

pub returns-in-Ok-clause-uses : goal.returns-in-Ok-clause-uses
returns-in-Ok-clause-uses g d below =
    let c = (goal.at.returns-in-Ok-clause-uses g d).After-write_run in
    uses_few (filled g c) d.give_back_named.new.clusters (freed_room (filled g c) d.give_back_named.new.clusters d.give_back_named.ensures.freed c.take_neighbours-taken.ensures.room below)

pub returns-in-Ok-clause-known : goal.returns-in-Ok-clause-known
returns-in-Ok-clause-known g d other i j =
    let c = (goal.at.returns-in-Ok-clause-known g d).After-write_run in
    fill_known (filled g c) d.give_back_named.new.clusters d.in-Ok.ensures.stored d.give_back_named.ensures.freed i j

pub returns-in-Err-Data-clause-alters : goal.returns-in-Err-Data-clause-alters
returns-in-Err-Data-clause-alters g d i j =
    let c = (goal.at.returns-in-Err-Data-clause-alters g d).After-write_run in
    altered g c d.give_back_all.new.clusters (given_differs (filled g c) _ _ d.give_back_all.ensures.given) (given_hands (filled g c) _ _ d.give_back_all.ensures.given) i j

pub returns-in-Err-Data-clause-uses : goal.returns-in-Err-Data-clause-uses
returns-in-Err-Data-clause-uses g d below =
    let c = (goal.at.returns-in-Err-Data-clause-uses g d).After-write_run in
    uses_few (filled g c) d.give_back_all.new.clusters (given_room (filled g c) d.give_back_all.new.clusters d.give_back_all.ensures.given c.take_neighbours-taken.ensures.room)

pub returns-in-Err-Data-clause-known : goal.returns-in-Err-Data-clause-known
returns-in-Err-Data-clause-known g d other i j =
    let c = (goal.at.returns-in-Err-Data-clause-known g d).After-write_run in
    fill_alike (filled g c) d.give_back_all.new.clusters (d.in-Err-Data.ensures.alike cc) d.give_back_all.ensures.given i j

pub returns-in-Err-Entries-clause-alters : goal.returns-in-Err-Entries-clause-alters
returns-in-Err-Entries-clause-alters g d i j =
    let c = (goal.at.returns-in-Err-Entries-clause-alters g d).After-write_run in
    altered g c c.take_neighbours-taken.new.self (taken_differs (filled g c)) (taken_hands (filled g c)) i j
