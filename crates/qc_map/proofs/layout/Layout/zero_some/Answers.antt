use Rattle.std.proofs.Common.{◌≡◌, inl, inr, refl, sym, ℕ, ◌+◌, ◌*◌, ◌/◌, ◌^◌, ◌<◌, ◌≤◌, List, length, replicate, take, ap, ◌∙◌, arith}
use Rattle.std.proofs.Math.Nat.{pow-le-pow_right}
use Rattle.disk_model.specs.World.{reads_of}
use Rattle.disk_model.proofs.Laws.{stay}
use Rattle.qc_map.specs.Mapping.{mapping}
use Rattle.qc_map.proofs.Steps.{left_alters}
use Rattle.qc_map.proofs.Requests.{zeros_long}
use Rattle.qc_map.proofs.Zeroed.{some_left, one_entry, bytes_inside, first_zeros, some_alters, some_done, some_known, some_tables}
use Rattle.qc_map.proofs.layout.Layout.zero_some.Given.{Over}
use Rattle.qc_map.proofs.layout.Layout.zero_some.Goals.{After-overwrite_run}
use Rattle.qc_map.proofs.layout.Layout.zero_some.Goals as goal

pub returns-then-bytes-eq0-clause-alters : goal.returns-then-bytes-eq0-clause-alters
returns-then-bytes-eq0-clause-alters g c = λ a spot i j file. left_alters (stay (reads_of c.args.self.file.0) (g.D.Outside.world c.args.depot.now)) (λ none. none) file (g.met.D.Depot.sound _)

pub returns-then-bytes-eq0-clause-done : goal.returns-then-bytes-eq0-clause-done
returns-then-bytes-eq0-clause-done g c = λ a spot i j file.
    some_left {m = mapping c.args.self} spot i j (length c.args.row.now / 8) c.args.from c.args.bytes c.args.row.now a (g.D.Outside.world c.args.depot.now) (omega (arith, c.requires.few)) c.requires.inside (inl c.if-bytes-eq0.true)

pub returns-then-host-eq0-clause-alters : goal.returns-then-host-eq0-clause-alters
returns-then-host-eq0-clause-alters g c = λ a spot i j file. left_alters (stay (reads_of c.args.self.file.0) (g.D.Outside.world c.args.depot.now)) (λ none. none) file (g.met.D.Depot.sound _)

pub returns-then-host-eq0-clause-done : goal.returns-then-host-eq0-clause-done
returns-then-host-eq0-clause-done g c = λ a spot i j file.
    some_left {m = mapping c.args.self} spot i j (length c.args.row.now / 8) c.args.from c.args.bytes c.args.row.now a (g.D.Outside.world c.args.depot.now) (omega (arith, c.requires.few)) c.requires.inside
    (inr (sym c.stored_at-host.ensures.stored ∙ c.if-host-eq0.true))

pub overwrite_run-requires-clause-data_end : goal.overwrite_run-requires-clause-data_end
overwrite_run-requires-clause-data_end g c =
    let inside = bytes_inside (2 ^ c.args.self.cluster_bits) c.args.from c.args.bytes (length c.args.row.now / 8) (omega (arith, c.requires.few)) c.requires.inside in
    let most : 2 ^ c.args.self.cluster_bits ≤ 2 ^ 21 = pow-le-pow_right {n = 2} (omega arith) {i = c.args.self.cluster_bits} {j = 21} c.requires.mapping.high in
    let long : length (take c.args.bytes c.args.zeros.now) ≡ c.args.bytes =
    ap (λ (l : List ℕ). length l) (first_zeros c.args.zeros.now c.args.self.cluster_bits c.args.bytes c.requires.zeros (omega (arith, inside))) ∙ zeros_long c.args.bytes in
    omega (arith, inside, most, long, c.stored_at-host.ensures.near)

module _ (g : Over) (c : After-overwrite_run g) where
  one : length c.args.row.now / 8 ≡ 1
  one = one_entry (2 ^ c.args.self.cluster_bits) c.args.from c.args.bytes (length c.args.row.now / 8) (omega (arith, c.requires.few)) c.if-bytes-eq0.false c.requires.inside

  bytes_are : take c.args.bytes c.args.zeros.now ≡ replicate c.args.bytes 0
  bytes_are =
      let inside = bytes_inside (2 ^ c.args.self.cluster_bits) c.args.from c.args.bytes (length c.args.row.now / 8) (omega (arith, c.requires.few)) c.requires.inside in
      first_zeros c.args.zeros.now c.args.self.cluster_bits c.args.bytes c.requires.zeros (omega (arith, inside))

pub returns-in-Ok-clause-alters : goal.returns-in-Ok-clause-alters
returns-in-Ok-clause-alters g d = λ a spot i j file.
    let c = (goal.at.returns-in-Ok-clause-alters g d).After-overwrite_run in
    some_alters {m = mapping c.args.self} spot i j (length c.args.row.now / 8) c.stored_at-host.result c.args.from c.args.bytes (c.stored_at-host.result + c.args.from) c.args.row.now (take c.args.bytes c.args.zeros.now) c.requires.mapping (one g c) c.if-host-eq0.false c.stored_at-host.ensures.stored refl (bytes_are g c) c.requires.inside a file (g.met.D.Depot.sound _) c.overwrite_run.ensures.puts.calls.run c.overwrite_run.ensures.moves c.overwrite_run.ensures.leaves c.overwrite_run.ensures.entry c.overwrite_run.ensures.partly c.overwrite_run.ensures.rows

pub returns-in-Ok-clause-done : goal.returns-in-Ok-clause-done
returns-in-Ok-clause-done g d = λ a spot i j file.
    let c = (goal.at.returns-in-Ok-clause-done g d).After-overwrite_run in
    some_done {m = mapping c.args.self} spot i j (length c.args.row.now / 8) c.stored_at-host.result c.args.from c.args.bytes (c.stored_at-host.result + c.args.from) c.args.row.now (take c.args.bytes c.args.zeros.now) c.requires.mapping (one g c) c.if-host-eq0.false c.stored_at-host.ensures.stored refl (bytes_are g c) c.requires.inside a file (g.met.D.Depot.sound _) c.overwrite_run.ensures.puts.calls.run c.overwrite_run.ensures.moves c.overwrite_run.ensures.leaves c.overwrite_run.ensures.entry c.overwrite_run.ensures.partly c.overwrite_run.ensures.rows d.in-Ok.ensures.shows

pub returns-in-Ok-clause-known : goal.returns-in-Ok-clause-known
returns-in-Ok-clause-known g d = λ a spot i j file.
    let c = (goal.at.returns-in-Ok-clause-known g d).After-overwrite_run in
    some_known {m = mapping c.args.self} spot i j (length c.args.row.now / 8) c.stored_at-host.result c.args.from c.args.bytes (c.stored_at-host.result + c.args.from) c.args.row.now (take c.args.bytes c.args.zeros.now) c.requires.mapping (one g c) c.if-host-eq0.false c.stored_at-host.ensures.stored refl (bytes_are g c) c.requires.inside a file (g.met.D.Depot.sound _) c.overwrite_run.ensures.puts.calls.run c.overwrite_run.ensures.moves c.overwrite_run.ensures.leaves c.overwrite_run.ensures.entry c.overwrite_run.ensures.partly c.overwrite_run.ensures.rows

pub returns-in-Ok-clause-tables : goal.returns-in-Ok-clause-tables
returns-in-Ok-clause-tables g d = λ a spot i j file.
    let c = (goal.at.returns-in-Ok-clause-tables g d).After-overwrite_run in
    some_tables {m = mapping c.args.self} spot i j (length c.args.row.now / 8) c.stored_at-host.result c.args.from c.args.bytes (c.stored_at-host.result + c.args.from) c.args.row.now (take c.args.bytes c.args.zeros.now) c.requires.mapping (one g c) c.if-host-eq0.false c.stored_at-host.ensures.stored refl (bytes_are g c) c.requires.inside a file (g.met.D.Depot.sound _) c.overwrite_run.ensures.puts.calls.run c.overwrite_run.ensures.moves c.overwrite_run.ensures.leaves c.overwrite_run.ensures.entry c.overwrite_run.ensures.partly c.overwrite_run.ensures.rows

pub returns-in-Err-clause-alters : goal.returns-in-Err-clause-alters
returns-in-Err-clause-alters g d = λ a spot i j file.
    let c = (goal.at.returns-in-Err-clause-alters g d).After-overwrite_run in
    some_alters {m = mapping c.args.self} spot i j (length c.args.row.now / 8) c.stored_at-host.result c.args.from c.args.bytes (c.stored_at-host.result + c.args.from) c.args.row.now (take c.args.bytes c.args.zeros.now) c.requires.mapping (one g c) c.if-host-eq0.false c.stored_at-host.ensures.stored refl (bytes_are g c) c.requires.inside a file (g.met.D.Depot.sound _) c.overwrite_run.ensures.puts.calls.run c.overwrite_run.ensures.moves c.overwrite_run.ensures.leaves c.overwrite_run.ensures.entry c.overwrite_run.ensures.partly c.overwrite_run.ensures.rows

pub returns-in-Err-clause-known : goal.returns-in-Err-clause-known
returns-in-Err-clause-known g d = λ a spot i j file.
    let c = (goal.at.returns-in-Err-clause-known g d).After-overwrite_run in
    some_known {m = mapping c.args.self} spot i j (length c.args.row.now / 8) c.stored_at-host.result c.args.from c.args.bytes (c.stored_at-host.result + c.args.from) c.args.row.now (take c.args.bytes c.args.zeros.now) c.requires.mapping (one g c) c.if-host-eq0.false c.stored_at-host.ensures.stored refl (bytes_are g c) c.requires.inside a file (g.met.D.Depot.sound _) c.overwrite_run.ensures.puts.calls.run c.overwrite_run.ensures.moves c.overwrite_run.ensures.leaves c.overwrite_run.ensures.entry c.overwrite_run.ensures.partly c.overwrite_run.ensures.rows

pub returns-in-Err-clause-tables : goal.returns-in-Err-clause-tables
returns-in-Err-clause-tables g d = λ a spot i j file.
    let c = (goal.at.returns-in-Err-clause-tables g d).After-overwrite_run in
    some_tables {m = mapping c.args.self} spot i j (length c.args.row.now / 8) c.stored_at-host.result c.args.from c.args.bytes (c.stored_at-host.result + c.args.from) c.args.row.now (take c.args.bytes c.args.zeros.now) c.requires.mapping (one g c) c.if-host-eq0.false c.stored_at-host.ensures.stored refl (bytes_are g c) c.requires.inside a file (g.met.D.Depot.sound _) c.overwrite_run.ensures.puts.calls.run c.overwrite_run.ensures.moves c.overwrite_run.ensures.leaves c.overwrite_run.ensures.entry c.overwrite_run.ensures.partly c.overwrite_run.ensures.rows
