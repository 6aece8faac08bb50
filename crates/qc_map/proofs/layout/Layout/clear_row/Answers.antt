use Rattle.std.proofs.Common.{◌≡◌, ℕ, ◌+◌, ◌*◌, ◌/◌, ◌^◌, ◌<◌, ◌≤◌, List, length, take, ⊎_elim, arith}
use Rattle.std.proofs.Math.Nat.{pow-le-pow_right}
use Rattle.disk_model.specs.World.{reads_of}
use Rattle.disk_model.proofs.Laws.{stay}
use Rattle.image_model.specs.Rows.{AreZero}
use Rattle.qc_map.specs.Mapping.{mapping}
use Rattle.qc_map.proofs.Given.{spoken_differs, nothing_differs}
use Rattle.qc_map.proofs.Steps.{left_alters}
use Rattle.qc_map.proofs.Zeroed.{zero_words, holes_left, freed_hands, freed_room, clear_alters, clear_done, clear_known, clear_tables}
use Rattle.qc_map.proofs.layout.Layout.clear_row.Given.{Over}
use Rattle.qc_map.proofs.layout.Layout.clear_row.Goals.{After-clear_entries}
use Rattle.qc_map.proofs.layout.Layout.clear_row.Goals as goal

pub are_holes-requires : goal.are_holes-requires
are_holes-requires g c =
    let most : 2 ^ c.args.self.cluster_bits ≤ 2 ^ 21 = pow-le-pow_right {n = 2} (omega arith) {i = c.args.self.cluster_bits} {j = 21} c.requires.mapping.high in
    record { few = omega (arith, most, c.requires.few) }

pub give_back_named-requires-clause-few : goal.give_back_named-requires-clause-few
give_back_named-requires-clause-few g c =
    let most : 2 ^ c.args.self.cluster_bits ≤ 2 ^ 21 = pow-le-pow_right {n = 2} (omega arith) {i = c.args.self.cluster_bits} {j = 21} c.requires.mapping.high in
    omega (arith, most, c.requires.few)

pub returns-then-are_holes-clause-alters : goal.returns-then-are_holes-clause-alters
returns-then-are_holes-clause-alters g c = λ i j. left_alters (stay (reads_of c.args.self.file.0) (g.D.Outside.world c.args.depot.now)) (λ none. none) c.requires.file (g.met.D.Depot.sound _)

pub returns-then-are_holes-clause-done : goal.returns-then-are_holes-clause-done
returns-then-are_holes-clause-done g c = λ i j.
    holes_left {m = mapping c.args.self} c.args.spot i j (length c.args.row.now / 8) c.args.row.now c.args.clusters.now (g.D.Outside.world c.args.depot.now) c.requires.mapping (c.are_holes.ensures.holes c.if-are_holes.true)

zeros : (g : Over) (c : After-clear_entries g) → AreZero (length c.args.row.now / 8) (take (length c.args.row.now) c.args.zeros.now)
zeros g c = zero_words c.args.zeros.now c.args.self.cluster_bits (length c.args.row.now) (length c.args.row.now / 8) c.requires.zeros c.requires.few (omega (arith, c.requires.row))

pub returns-in-Ok-clause-alters : goal.returns-in-Ok-clause-alters
returns-in-Ok-clause-alters g d = λ i j.
    let c = (goal.at.returns-in-Ok-clause-alters g d).After-clear_entries in
    clear_alters {m = mapping c.args.self} c.args.spot i j (length c.args.row.now / 8) c.args.row.now (take (length c.args.row.now) c.args.zeros.now) c.requires.mapping (zeros g c) c.args.clusters.now c.requires.file (g.met.D.Depot.sound _) c.clear_entries.ensures.puts.calls.run c.clear_entries.ensures.moves c.clear_entries.ensures.leaves c.clear_entries.ensures.whether c.clear_entries.ensures.rows (spoken_differs _ _ _ d.give_back_named.ensures.freed) (freed_hands d.give_back_named.ensures.freed)

pub returns-in-Ok-clause-done : goal.returns-in-Ok-clause-done
returns-in-Ok-clause-done g d = λ i j.
    let c = (goal.at.returns-in-Ok-clause-done g d).After-clear_entries in
    clear_done {m = mapping c.args.self} c.args.spot i j (length c.args.row.now / 8) c.args.row.now (take (length c.args.row.now) c.args.zeros.now) c.requires.mapping (zeros g c) c.args.clusters.now c.requires.file (g.met.D.Depot.sound _) c.clear_entries.ensures.puts.calls.run c.clear_entries.ensures.moves c.clear_entries.ensures.leaves c.clear_entries.ensures.whether c.clear_entries.ensures.rows d.in-Ok.ensures.cleared

pub returns-in-Ok-clause-room : goal.returns-in-Ok-clause-room
returns-in-Ok-clause-room g d = λ i j. freed_room {m = mapping d.args.self} d.args.spot i j (length d.args.row.now / 8) d.args.row.now d.requires.file d.give_back_named.ensures.freed

pub returns-in-Ok-clause-known : goal.returns-in-Ok-clause-known
returns-in-Ok-clause-known g d = λ fine i j.
    let c = (goal.at.returns-in-Ok-clause-known g d).After-clear_entries in
    clear_known {m = mapping c.args.self} c.args.spot i j (length c.args.row.now / 8) c.args.row.now (take (length c.args.row.now) c.args.zeros.now) c.requires.mapping (zeros g c) c.args.clusters.now c.requires.file (g.met.D.Depot.sound _) c.clear_entries.ensures.puts.calls.run c.clear_entries.ensures.moves c.clear_entries.ensures.leaves c.clear_entries.ensures.whether c.clear_entries.ensures.rows d.in-Ok.ensures.cleared d.give_back_named.ensures.freed

pub returns-in-Ok-clause-tables : goal.returns-in-Ok-clause-tables
returns-in-Ok-clause-tables g d = λ i j.
    let c = (goal.at.returns-in-Ok-clause-tables g d).After-clear_entries in
    clear_tables {m = mapping c.args.self} c.args.spot i j (length c.args.row.now / 8) c.args.row.now (take (length c.args.row.now) c.args.zeros.now) c.requires.mapping (zeros g c) c.args.clusters.now c.requires.file (g.met.D.Depot.sound _) c.clear_entries.ensures.puts.calls.run c.clear_entries.ensures.moves c.clear_entries.ensures.leaves c.clear_entries.ensures.whether c.clear_entries.ensures.rows

pub returns-in-Err-clause-alters : goal.returns-in-Err-clause-alters
returns-in-Err-clause-alters g d = λ i j.
    let c = (goal.at.returns-in-Err-clause-alters g d).After-clear_entries in
    clear_alters {m = mapping c.args.self} c.args.spot i j (length c.args.row.now / 8) c.args.row.now (take (length c.args.row.now) c.args.zeros.now) c.requires.mapping (zeros g c) c.args.clusters.now c.requires.file (g.met.D.Depot.sound _) c.clear_entries.ensures.puts.calls.run c.clear_entries.ensures.moves c.clear_entries.ensures.leaves c.clear_entries.ensures.whether c.clear_entries.ensures.rows (nothing_differs c.args.clusters.now) (λ k hands. hands)

pub returns-in-Err-clause-tables : goal.returns-in-Err-clause-tables
returns-in-Err-clause-tables g d = λ i j.
    let c = (goal.at.returns-in-Err-clause-tables g d).After-clear_entries in
    clear_tables {m = mapping c.args.self} c.args.spot i j (length c.args.row.now / 8) c.args.row.now (take (length c.args.row.now) c.args.zeros.now) c.requires.mapping (zeros g c) c.args.clusters.now c.requires.file (g.met.D.Depot.sound _) c.clear_entries.ensures.puts.calls.run c.clear_entries.ensures.moves c.clear_entries.ensures.leaves c.clear_entries.ensures.whether c.clear_entries.ensures.rows

pub returns-in-Ok-clause-same : goal.returns-in-Ok-clause-same
returns-in-Ok-clause-same g d = spoken_differs _ _ _ d.give_back_named.ensures.freed
