use Rattle.std.proofs.Common.{◌≡◌, ℕ, ◌+◌, ◌*◌, ◌/◌, ◌^◌, ◌<◌, length, ◌∙◌, ap, subst, arith}
use Rattle.std.specs.Prelude.{count_by}
use Rattle.std.specs.List.{range_with_len}
use Rattle.std.proofs.lemmas.Result.{on_ok_weaker}
use Rattle.image_model.specs.Clusters.{size}
use Rattle.cluster_pool.specs.Pool.{room}
use Rattle.map_rows.specs.Stores.{is_open_at}
use Rattle.qc_map.specs.Altering.{UsesUpTo, Alters, HasAltered, KnowsOn, ToldRow}
use Rattle.qc_map.specs.Filling.{NamesBelow}
use Rattle.qc_map.specs.Mapping.{mapping, shape_by}
use Rattle.qc_map.proofs.Parts.{IsReadPart, opened_there, opened_linked, linked_alters, linked_known, linked_need, part_alters, part_done, part_known, part_room, part_uses, part_short}
use Rattle.qc_map.proofs.Places.{cluster_by, cluster_small}
use Rattle.qc_map.proofs.Rowwise.{piece_of}
use Rattle.qc_map.proofs.Steps.{left_alters, left_known, went_on, went_ok, went_why, why_back}
use Rattle.qc_map.proofs.layout.Layout.write_part.Goals as goal

pub returns-in-Err-clause-alters : goal.returns-in-Err-clause-alters
returns-in-Err-clause-alters g c = left_alters c.read_row.ensures.looks.reads (λ none. none) c.requires.file (g.met.D.Depot.sound _)

pub returns-in-Err-clause-known : goal.returns-in-Err-clause-known
returns-in-Err-clause-known g c other = left_known c.read_row.ensures.looks.reads (λ none. none)

pub returns-then-table-ne0-clause-alters : goal.returns-then-table-ne0-clause-alters
returns-then-table-ne0-clause-alters g c =
    let m = mapping c.args.self in
    let p = c.args.part.now in
    let row = c.read_row.new.row in
    let n : length row / 8 ≡ p.count = omega (arith, c.requires.long, c.read_row.auto.row) in
    let part : IsReadPart m p.table p.slot p.count c.in-Ok.table row (g.D.Outside.world c.args.depot.now) = record { words = c.in-Ok.ensures.row; at = c.in-Ok.ensures.table; index = c.requires.part.table; slots = c.requires.part.slots } in
    let opened = opened_there {p = c.args.clusters.now} p.from c.requires.mapping c.requires.file (g.met.D.Depot.sound _) c.in-Ok.ensures.looks part c.if-table-ne0.true in
    let written = subst (λ (k : ℕ). Alters m (ToldRow m (c.in-Ok.table + 8 * p.slot) p.table p.slot k row) (piece_of p.table p.slot k p.from c.args.bytes.now) c.args.clusters.now c.write_row.new.clusters (g.D.Outside.world c.read_row.new.depot) (g.D.Outside.world c.write_row.new.depot)) n (c.write_row.ensures.alters p.table p.slot) in
    part_alters opened c.requires.mapping c.requires.file c.requires.part.table c.requires.part.slots (g.met.D.Depot.sound _) written c.write_row.ensures.went

pub returns-then-table-ne0-clause-done : goal.returns-then-table-ne0-clause-done
returns-then-table-ne0-clause-done g c =
    let m = mapping c.args.self in
    let p = c.args.part.now in
    let row = c.read_row.new.row in
    let n : length row / 8 ≡ p.count = omega (arith, c.requires.long, c.read_row.auto.row) in
    let part : IsReadPart m p.table p.slot p.count c.in-Ok.table row (g.D.Outside.world c.args.depot.now) = record { words = c.in-Ok.ensures.row; at = c.in-Ok.ensures.table; index = c.requires.part.table; slots = c.requires.part.slots } in
    let opened = opened_there {p = c.args.clusters.now} p.from c.requires.mapping c.requires.file (g.met.D.Depot.sound _) c.in-Ok.ensures.looks part c.if-table-ne0.true in
    let written = subst (λ (k : ℕ). Alters m (ToldRow m (c.in-Ok.table + 8 * p.slot) p.table p.slot k row) (piece_of p.table p.slot k p.from c.args.bytes.now) c.args.clusters.now c.write_row.new.clusters (g.D.Outside.world c.read_row.new.depot) (g.D.Outside.world c.write_row.new.depot)) n (c.write_row.ensures.alters p.table p.slot) in
    on_ok_weaker c.write_row.result (λ done. part_done opened c.requires.mapping c.requires.file c.requires.part.table c.requires.part.slots (g.met.D.Depot.sound _) written c.write_row.ensures.went
    (subst (λ (k : ℕ). HasAltered m (ToldRow m (c.in-Ok.table + 8 * p.slot) p.table p.slot k row) (piece_of p.table p.slot k p.from c.args.bytes.now) c.args.clusters.now (g.D.Outside.world c.read_row.new.depot) (g.D.Outside.world c.write_row.new.depot)) n (done p.table p.slot))) c.write_row.ensures.done

pub returns-then-table-ne0-clause-room : goal.returns-then-table-ne0-clause-room
returns-then-table-ne0-clause-room g c =
    let m = mapping c.args.self in
    let p = c.args.part.now in
    let row = c.read_row.new.row in
    let n : length row / 8 ≡ p.count = omega (arith, c.requires.long, c.read_row.auto.row) in
    let part : IsReadPart m p.table p.slot p.count c.in-Ok.table row (g.D.Outside.world c.args.depot.now) = record { words = c.in-Ok.ensures.row; at = c.in-Ok.ensures.table; index = c.requires.part.table; slots = c.requires.part.slots } in
    let opened = opened_there {p = c.args.clusters.now} p.from c.requires.mapping c.requires.file (g.met.D.Depot.sound _) c.in-Ok.ensures.looks part c.if-table-ne0.true in
    let written = subst (λ (k : ℕ). Alters m (ToldRow m (c.in-Ok.table + 8 * p.slot) p.table p.slot k row) (piece_of p.table p.slot k p.from c.args.bytes.now) c.args.clusters.now c.write_row.new.clusters (g.D.Outside.world c.read_row.new.depot) (g.D.Outside.world c.write_row.new.depot)) n (c.write_row.ensures.alters p.table p.slot) in
    on_ok_weaker c.write_row.result (λ rooms s disks low is hands al told. part_room opened c.requires.mapping c.requires.file c.requires.part.table c.requires.part.slots (g.met.D.Depot.sound _) written s disks low is hands al told
    (subst (λ (k : ℕ). NamesBelow m.bits k row c.args.clusters.now.pool.next → room c.write_row.new.clusters.pool + count_by (is_open_at row) (range_with_len 0 k) ≡ room c.args.clusters.now.pool) n rooms)) c.write_row.ensures.room

pub returns-then-table-ne0-clause-uses : goal.returns-then-table-ne0-clause-uses
returns-then-table-ne0-clause-uses g c s disks low is hands al told =
    let m = mapping c.args.self in
    let p = c.args.part.now in
    let row = c.read_row.new.row in
    let n : length row / 8 ≡ p.count = omega (arith, c.requires.long, c.read_row.auto.row) in
    let part : IsReadPart m p.table p.slot p.count c.in-Ok.table row (g.D.Outside.world c.args.depot.now) = record { words = c.in-Ok.ensures.row; at = c.in-Ok.ensures.table; index = c.requires.part.table; slots = c.requires.part.slots } in
    let opened = opened_there {p = c.args.clusters.now} p.from c.requires.mapping c.requires.file (g.met.D.Depot.sound _) c.in-Ok.ensures.looks part c.if-table-ne0.true in
    let written = subst (λ (k : ℕ). Alters m (ToldRow m (c.in-Ok.table + 8 * p.slot) p.table p.slot k row) (piece_of p.table p.slot k p.from c.args.bytes.now) c.args.clusters.now c.write_row.new.clusters (g.D.Outside.world c.read_row.new.depot) (g.D.Outside.world c.write_row.new.depot)) n (c.write_row.ensures.alters p.table p.slot) in
    part_uses opened c.requires.mapping c.requires.file c.requires.part.table c.requires.part.slots (g.met.D.Depot.sound _) written s disks low is hands al told (subst (λ (k : ℕ). NamesBelow m.bits k row c.args.clusters.now.pool.next → UsesUpTo c.args.clusters.now c.write_row.new.clusters (count_by (is_open_at row) (range_with_len 0 k))) n c.write_row.ensures.uses)

pub returns-then-table-ne0-clause-short : goal.returns-then-table-ne0-clause-short
returns-then-table-ne0-clause-short g c none s disks low is hands al told =
    let m = mapping c.args.self in
    let p = c.args.part.now in
    let row = c.read_row.new.row in
    let n : length row / 8 ≡ p.count = omega (arith, c.requires.long, c.read_row.auto.row) in
    let part : IsReadPart m p.table p.slot p.count c.in-Ok.table row (g.D.Outside.world c.args.depot.now) = record { words = c.in-Ok.ensures.row; at = c.in-Ok.ensures.table; index = c.requires.part.table; slots = c.requires.part.slots } in
    let opened = opened_there {p = c.args.clusters.now} p.from c.requires.mapping c.requires.file (g.met.D.Depot.sound _) c.in-Ok.ensures.looks part c.if-table-ne0.true in
    let written = subst (λ (k : ℕ). Alters m (ToldRow m (c.in-Ok.table + 8 * p.slot) p.table p.slot k row) (piece_of p.table p.slot k p.from c.args.bytes.now) c.args.clusters.now c.write_row.new.clusters (g.D.Outside.world c.read_row.new.depot) (g.D.Outside.world c.write_row.new.depot)) n (c.write_row.ensures.alters p.table p.slot) in
    part_short opened c.requires.mapping c.requires.file c.requires.part.table c.requires.part.slots (g.met.D.Depot.sound _) written s disks low is hands al told (subst (λ (k : ℕ). NamesBelow m.bits k row c.args.clusters.now.pool.next → room c.args.clusters.now.pool < count_by (is_open_at row) (range_with_len 0 k)) n (c.write_row.ensures.short none))

pub returns-then-table-ne0-clause-known : goal.returns-then-table-ne0-clause-known
returns-then-table-ne0-clause-known g c other =
    let m = mapping c.args.self in
    let p = c.args.part.now in
    let row = c.read_row.new.row in
    let n : length row / 8 ≡ p.count = omega (arith, c.requires.long, c.read_row.auto.row) in
    let part : IsReadPart m p.table p.slot p.count c.in-Ok.table row (g.D.Outside.world c.args.depot.now) = record { words = c.in-Ok.ensures.row; at = c.in-Ok.ensures.table; index = c.requires.part.table; slots = c.requires.part.slots } in
    let opened = opened_there {p = c.args.clusters.now} p.from c.requires.mapping c.requires.file (g.met.D.Depot.sound _) c.in-Ok.ensures.looks part c.if-table-ne0.true in
    let written = subst (λ (k : ℕ). Alters m (ToldRow m (c.in-Ok.table + 8 * p.slot) p.table p.slot k row) (piece_of p.table p.slot k p.from c.args.bytes.now) c.args.clusters.now c.write_row.new.clusters (g.D.Outside.world c.read_row.new.depot) (g.D.Outside.world c.write_row.new.depot)) n (c.write_row.ensures.alters p.table p.slot) in
    part_known opened c.requires.mapping c.requires.file c.requires.part.table c.requires.part.slots (g.met.D.Depot.sound _) written (subst (λ (k : ℕ). KnowsOn m (ToldRow m (c.in-Ok.table + 8 * p.slot) p.table p.slot k row) c.args.clusters.now c.write_row.new.clusters (g.D.Outside.world c.read_row.new.depot) (g.D.Outside.world c.write_row.new.depot)) n (c.write_row.ensures.known other p.table p.slot))

pub returns-then-table-ne0-clause-went : goal.returns-then-table-ne0-clause-went
returns-then-table-ne0-clause-went g c =
    let m = mapping c.args.self in
    let p = c.args.part.now in
    let row = c.read_row.new.row in
    let n : length row / 8 ≡ p.count = omega (arith, c.requires.long, c.read_row.auto.row) in
    let part : IsReadPart m p.table p.slot p.count c.in-Ok.table row (g.D.Outside.world c.args.depot.now) = record { words = c.in-Ok.ensures.row; at = c.in-Ok.ensures.table; index = c.requires.part.table; slots = c.requires.part.slots } in
    let opened = opened_there {p = c.args.clusters.now} p.from c.requires.mapping c.requires.file (g.met.D.Depot.sound _) c.in-Ok.ensures.looks part c.if-table-ne0.true in
    let written = subst (λ (k : ℕ). Alters m (ToldRow m (c.in-Ok.table + 8 * p.slot) p.table p.slot k row) (piece_of p.table p.slot k p.from c.args.bytes.now) c.args.clusters.now c.write_row.new.clusters (g.D.Outside.world c.read_row.new.depot) (g.D.Outside.world c.write_row.new.depot)) n (c.write_row.ensures.alters p.table p.slot) in
    went_on opened.went c.write_row.ensures.went

pub returns-in-Ok-open_table-clause-alters : goal.returns-in-Ok-open_table-clause-alters
returns-in-Ok-open_table-clause-alters g c =
    let m = mapping c.args.self in
    let p = c.args.part.now in
    let row = c.read_row.new.row in
    let n : length row / 8 ≡ p.count = omega (arith, c.requires.long, c.read_row.auto.row) in
    let part : IsReadPart m p.table p.slot p.count c.in-Ok.table row (g.D.Outside.world c.args.depot.now) = record { words = c.in-Ok.ensures.row; at = c.in-Ok.ensures.table; index = c.requires.part.table; slots = c.requires.part.slots } in
    let e = c.in-Ok-open_table.ensures in
    let opened = opened_linked p.from c.requires.mapping c.requires.file (g.met.D.Depot.sound _) (g.met.D.Depot.sound _) c.in-Ok.ensures.looks part c.if-table-ne0.false e.links e.went e.linked e.room (e.known (λ same. cc)) e.same in
    let written = subst (λ (k : ℕ). Alters m (ToldRow m (c.in-Ok-open_table.opened + 8 * p.slot) p.table p.slot k row) (piece_of p.table p.slot k p.from c.args.bytes.now) c.open_table.new.clusters c.write_row-in-Ok-open_table.new.clusters (g.D.Outside.world c.open_table.new.depot) (g.D.Outside.world c.write_row-in-Ok-open_table.new.depot)) n (c.write_row-in-Ok-open_table.ensures.alters p.table p.slot) in
    part_alters opened c.requires.mapping c.requires.file c.requires.part.table c.requires.part.slots (g.met.D.Depot.sound _) written c.write_row-in-Ok-open_table.ensures.went

pub returns-in-Ok-open_table-clause-done : goal.returns-in-Ok-open_table-clause-done
returns-in-Ok-open_table-clause-done g c =
    let m = mapping c.args.self in
    let p = c.args.part.now in
    let row = c.read_row.new.row in
    let n : length row / 8 ≡ p.count = omega (arith, c.requires.long, c.read_row.auto.row) in
    let part : IsReadPart m p.table p.slot p.count c.in-Ok.table row (g.D.Outside.world c.args.depot.now) = record { words = c.in-Ok.ensures.row; at = c.in-Ok.ensures.table; index = c.requires.part.table; slots = c.requires.part.slots } in
    let e = c.in-Ok-open_table.ensures in
    let opened = opened_linked p.from c.requires.mapping c.requires.file (g.met.D.Depot.sound _) (g.met.D.Depot.sound _) c.in-Ok.ensures.looks part c.if-table-ne0.false e.links e.went e.linked e.room (e.known (λ same. cc)) e.same in
    let written = subst (λ (k : ℕ). Alters m (ToldRow m (c.in-Ok-open_table.opened + 8 * p.slot) p.table p.slot k row) (piece_of p.table p.slot k p.from c.args.bytes.now) c.open_table.new.clusters c.write_row-in-Ok-open_table.new.clusters (g.D.Outside.world c.open_table.new.depot) (g.D.Outside.world c.write_row-in-Ok-open_table.new.depot)) n (c.write_row-in-Ok-open_table.ensures.alters p.table p.slot) in
    on_ok_weaker c.write_row-in-Ok-open_table.result (λ done. part_done opened c.requires.mapping c.requires.file c.requires.part.table c.requires.part.slots (g.met.D.Depot.sound _) written c.write_row-in-Ok-open_table.ensures.went
    (subst (λ (k : ℕ). HasAltered m (ToldRow m (c.in-Ok-open_table.opened + 8 * p.slot) p.table p.slot k row) (piece_of p.table p.slot k p.from c.args.bytes.now) c.open_table.new.clusters (g.D.Outside.world c.open_table.new.depot) (g.D.Outside.world c.write_row-in-Ok-open_table.new.depot)) n (done p.table p.slot))) c.write_row-in-Ok-open_table.ensures.done

pub returns-in-Ok-open_table-clause-room : goal.returns-in-Ok-open_table-clause-room
returns-in-Ok-open_table-clause-room g c =
    let m = mapping c.args.self in
    let p = c.args.part.now in
    let row = c.read_row.new.row in
    let n : length row / 8 ≡ p.count = omega (arith, c.requires.long, c.read_row.auto.row) in
    let part : IsReadPart m p.table p.slot p.count c.in-Ok.table row (g.D.Outside.world c.args.depot.now) = record { words = c.in-Ok.ensures.row; at = c.in-Ok.ensures.table; index = c.requires.part.table; slots = c.requires.part.slots } in
    let e = c.in-Ok-open_table.ensures in
    let opened = opened_linked p.from c.requires.mapping c.requires.file (g.met.D.Depot.sound _) (g.met.D.Depot.sound _) c.in-Ok.ensures.looks part c.if-table-ne0.false e.links e.went e.linked e.room (e.known (λ same. cc)) e.same in
    let written = subst (λ (k : ℕ). Alters m (ToldRow m (c.in-Ok-open_table.opened + 8 * p.slot) p.table p.slot k row) (piece_of p.table p.slot k p.from c.args.bytes.now) c.open_table.new.clusters c.write_row-in-Ok-open_table.new.clusters (g.D.Outside.world c.open_table.new.depot) (g.D.Outside.world c.write_row-in-Ok-open_table.new.depot)) n (c.write_row-in-Ok-open_table.ensures.alters p.table p.slot) in
    on_ok_weaker c.write_row-in-Ok-open_table.result (λ rooms s disks low is hands al told. part_room opened c.requires.mapping c.requires.file c.requires.part.table c.requires.part.slots (g.met.D.Depot.sound _) written s disks low is hands al told
    (subst (λ (k : ℕ). NamesBelow m.bits k row c.open_table.new.clusters.pool.next → room c.write_row-in-Ok-open_table.new.clusters.pool + count_by (is_open_at row) (range_with_len 0 k) ≡ room c.open_table.new.clusters.pool) n rooms)) c.write_row-in-Ok-open_table.ensures.room

pub returns-in-Ok-open_table-clause-uses : goal.returns-in-Ok-open_table-clause-uses
returns-in-Ok-open_table-clause-uses g c s disks low is hands al told =
    let m = mapping c.args.self in
    let p = c.args.part.now in
    let row = c.read_row.new.row in
    let n : length row / 8 ≡ p.count = omega (arith, c.requires.long, c.read_row.auto.row) in
    let part : IsReadPart m p.table p.slot p.count c.in-Ok.table row (g.D.Outside.world c.args.depot.now) = record { words = c.in-Ok.ensures.row; at = c.in-Ok.ensures.table; index = c.requires.part.table; slots = c.requires.part.slots } in
    let e = c.in-Ok-open_table.ensures in
    let opened = opened_linked p.from c.requires.mapping c.requires.file (g.met.D.Depot.sound _) (g.met.D.Depot.sound _) c.in-Ok.ensures.looks part c.if-table-ne0.false e.links e.went e.linked e.room (e.known (λ same. cc)) e.same in
    let written = subst (λ (k : ℕ). Alters m (ToldRow m (c.in-Ok-open_table.opened + 8 * p.slot) p.table p.slot k row) (piece_of p.table p.slot k p.from c.args.bytes.now) c.open_table.new.clusters c.write_row-in-Ok-open_table.new.clusters (g.D.Outside.world c.open_table.new.depot) (g.D.Outside.world c.write_row-in-Ok-open_table.new.depot)) n (c.write_row-in-Ok-open_table.ensures.alters p.table p.slot) in
    part_uses opened c.requires.mapping c.requires.file c.requires.part.table c.requires.part.slots (g.met.D.Depot.sound _) written s disks low is hands al told (subst (λ (k : ℕ). NamesBelow m.bits k row c.open_table.new.clusters.pool.next → UsesUpTo c.open_table.new.clusters c.write_row-in-Ok-open_table.new.clusters (count_by (is_open_at row) (range_with_len 0 k))) n c.write_row-in-Ok-open_table.ensures.uses)

pub returns-in-Ok-open_table-clause-short : goal.returns-in-Ok-open_table-clause-short
returns-in-Ok-open_table-clause-short g c none s disks low is hands al told =
    let m = mapping c.args.self in
    let p = c.args.part.now in
    let row = c.read_row.new.row in
    let n : length row / 8 ≡ p.count = omega (arith, c.requires.long, c.read_row.auto.row) in
    let part : IsReadPart m p.table p.slot p.count c.in-Ok.table row (g.D.Outside.world c.args.depot.now) = record { words = c.in-Ok.ensures.row; at = c.in-Ok.ensures.table; index = c.requires.part.table; slots = c.requires.part.slots } in
    let e = c.in-Ok-open_table.ensures in
    let opened = opened_linked p.from c.requires.mapping c.requires.file (g.met.D.Depot.sound _) (g.met.D.Depot.sound _) c.in-Ok.ensures.looks part c.if-table-ne0.false e.links e.went e.linked e.room (e.known (λ same. cc)) e.same in
    let written = subst (λ (k : ℕ). Alters m (ToldRow m (c.in-Ok-open_table.opened + 8 * p.slot) p.table p.slot k row) (piece_of p.table p.slot k p.from c.args.bytes.now) c.open_table.new.clusters c.write_row-in-Ok-open_table.new.clusters (g.D.Outside.world c.open_table.new.depot) (g.D.Outside.world c.write_row-in-Ok-open_table.new.depot)) n (c.write_row-in-Ok-open_table.ensures.alters p.table p.slot) in
    part_short opened c.requires.mapping c.requires.file c.requires.part.table c.requires.part.slots (g.met.D.Depot.sound _) written s disks low is hands al told (subst (λ (k : ℕ). NamesBelow m.bits k row c.open_table.new.clusters.pool.next → room c.open_table.new.clusters.pool < count_by (is_open_at row) (range_with_len 0 k)) n (c.write_row-in-Ok-open_table.ensures.short none))

pub returns-in-Ok-open_table-clause-known : goal.returns-in-Ok-open_table-clause-known
returns-in-Ok-open_table-clause-known g c other =
    let m = mapping c.args.self in
    let p = c.args.part.now in
    let row = c.read_row.new.row in
    let n : length row / 8 ≡ p.count = omega (arith, c.requires.long, c.read_row.auto.row) in
    let part : IsReadPart m p.table p.slot p.count c.in-Ok.table row (g.D.Outside.world c.args.depot.now) = record { words = c.in-Ok.ensures.row; at = c.in-Ok.ensures.table; index = c.requires.part.table; slots = c.requires.part.slots } in
    let e = c.in-Ok-open_table.ensures in
    let opened = opened_linked p.from c.requires.mapping c.requires.file (g.met.D.Depot.sound _) (g.met.D.Depot.sound _) c.in-Ok.ensures.looks part c.if-table-ne0.false e.links e.went e.linked e.room (e.known (λ same. cc)) e.same in
    let written = subst (λ (k : ℕ). Alters m (ToldRow m (c.in-Ok-open_table.opened + 8 * p.slot) p.table p.slot k row) (piece_of p.table p.slot k p.from c.args.bytes.now) c.open_table.new.clusters c.write_row-in-Ok-open_table.new.clusters (g.D.Outside.world c.open_table.new.depot) (g.D.Outside.world c.write_row-in-Ok-open_table.new.depot)) n (c.write_row-in-Ok-open_table.ensures.alters p.table p.slot) in
    part_known opened c.requires.mapping c.requires.file c.requires.part.table c.requires.part.slots (g.met.D.Depot.sound _) written (subst (λ (k : ℕ). KnowsOn m (ToldRow m (c.in-Ok-open_table.opened + 8 * p.slot) p.table p.slot k row) c.open_table.new.clusters c.write_row-in-Ok-open_table.new.clusters (g.D.Outside.world c.open_table.new.depot) (g.D.Outside.world c.write_row-in-Ok-open_table.new.depot)) n (c.write_row-in-Ok-open_table.ensures.known other p.table p.slot))

pub returns-in-Ok-open_table-clause-went : goal.returns-in-Ok-open_table-clause-went
returns-in-Ok-open_table-clause-went g c =
    let m = mapping c.args.self in
    let p = c.args.part.now in
    let row = c.read_row.new.row in
    let n : length row / 8 ≡ p.count = omega (arith, c.requires.long, c.read_row.auto.row) in
    let part : IsReadPart m p.table p.slot p.count c.in-Ok.table row (g.D.Outside.world c.args.depot.now) = record { words = c.in-Ok.ensures.row; at = c.in-Ok.ensures.table; index = c.requires.part.table; slots = c.requires.part.slots } in
    let e = c.in-Ok-open_table.ensures in
    let opened = opened_linked p.from c.requires.mapping c.requires.file (g.met.D.Depot.sound _) (g.met.D.Depot.sound _) c.in-Ok.ensures.looks part c.if-table-ne0.false e.links e.went e.linked e.room (e.known (λ same. cc)) e.same in
    let written = subst (λ (k : ℕ). Alters m (ToldRow m (c.in-Ok-open_table.opened + 8 * p.slot) p.table p.slot k row) (piece_of p.table p.slot k p.from c.args.bytes.now) c.open_table.new.clusters c.write_row-in-Ok-open_table.new.clusters (g.D.Outside.world c.open_table.new.depot) (g.D.Outside.world c.write_row-in-Ok-open_table.new.depot)) n (c.write_row-in-Ok-open_table.ensures.alters p.table p.slot) in
    went_on opened.went c.write_row-in-Ok-open_table.ensures.went

pub overflow_mul-spot : goal.overflow_mul-spot
overflow_mul-spot g c = omega (arith, cluster_small (mapping c.args.self) c.requires.mapping, c.requires.part.slots)

pub overflow_add-spot : goal.overflow_add-spot
overflow_add-spot g c = omega (arith, cluster_small (mapping c.args.self) c.requires.mapping, c.requires.part.slots, c.in-Ok.ensures.near)

pub write_row-requires-clause-few : goal.write_row-requires-clause-few
write_row-requires-clause-few g c = omega (arith, cluster_small (mapping c.args.self) c.requires.mapping, c.requires.part.slots, c.requires.long, c.read_row.auto.row)

pub write_row-requires-clause-end : goal.write_row-requires-clause-end
write_row-requires-clause-end g c = omega (arith, cluster_small (mapping c.args.self) c.requires.mapping, c.requires.part.slots, c.requires.long, c.read_row.auto.row, c.in-Ok.ensures.near)

pub write_row-requires-clause-inside : goal.write_row-requires-clause-inside
write_row-requires-clause-inside g c = omega (arith, c.requires.part.inside, cluster_by (mapping c.args.self) c.requires.mapping)

pub write_row-requires-clause-covers : goal.write_row-requires-clause-covers
write_row-requires-clause-covers g c =
    let n : c.args.part.now.count ≡ length c.read_row.new.row / 8 = omega (arith, c.requires.long, c.read_row.auto.row) in
    let times : size (shape_by (mapping c.args.self)) * c.args.part.now.count ≡ 2 ^ c.args.self.cluster_bits * (length c.read_row.new.row / 8) = ap (λ (z : ℕ). z * c.args.part.now.count) (cluster_by (mapping c.args.self) c.requires.mapping) ∙ ap (λ (k : ℕ). 2 ^ c.args.self.cluster_bits * k) n in
    omega (arith, times, c.requires.part.covers, c.requires.bytes)

pub overflow_mul-spot-in-Ok-open_table : goal.overflow_mul-spot-in-Ok-open_table
overflow_mul-spot-in-Ok-open_table g c = omega (arith, cluster_small (mapping c.args.self) c.requires.mapping, c.requires.part.slots)

pub overflow_add-spot-in-Ok-open_table : goal.overflow_add-spot-in-Ok-open_table
overflow_add-spot-in-Ok-open_table g c = omega (arith, cluster_small (mapping c.args.self) c.requires.mapping, c.requires.part.slots, c.in-Ok-open_table.ensures.near)

pub write_row-requires-in-Ok-open_table-clause-few : goal.write_row-requires-in-Ok-open_table-clause-few
write_row-requires-in-Ok-open_table-clause-few g c = omega (arith, cluster_small (mapping c.args.self) c.requires.mapping, c.requires.part.slots, c.requires.long, c.read_row.auto.row)

pub write_row-requires-in-Ok-open_table-clause-end : goal.write_row-requires-in-Ok-open_table-clause-end
write_row-requires-in-Ok-open_table-clause-end g c = omega (arith, cluster_small (mapping c.args.self) c.requires.mapping, c.requires.part.slots, c.requires.long, c.read_row.auto.row, c.in-Ok-open_table.ensures.near)

pub write_row-requires-in-Ok-open_table-clause-inside : goal.write_row-requires-in-Ok-open_table-clause-inside
write_row-requires-in-Ok-open_table-clause-inside g c = omega (arith, c.requires.part.inside, cluster_by (mapping c.args.self) c.requires.mapping)

pub write_row-requires-in-Ok-open_table-clause-covers : goal.write_row-requires-in-Ok-open_table-clause-covers
write_row-requires-in-Ok-open_table-clause-covers g c =
    let n : c.args.part.now.count ≡ length c.read_row.new.row / 8 = omega (arith, c.requires.long, c.read_row.auto.row) in
    let times : size (shape_by (mapping c.args.self)) * c.args.part.now.count ≡ 2 ^ c.args.self.cluster_bits * (length c.read_row.new.row / 8) = ap (λ (z : ℕ). z * c.args.part.now.count) (cluster_by (mapping c.args.self) c.requires.mapping) ∙ ap (λ (k : ℕ). 2 ^ c.args.self.cluster_bits * k) n in
    omega (arith, times, c.requires.part.covers, c.requires.bytes)

pub returns-in-Err-open_table-clause-alters : goal.returns-in-Err-open_table-clause-alters
returns-in-Err-open_table-clause-alters g c =
    let m = mapping c.args.self in
    let p = c.args.part.now in
    let row = c.read_row.new.row in
    let part : IsReadPart m p.table p.slot p.count c.in-Ok.table row (g.D.Outside.world c.args.depot.now) = record { words = c.in-Ok.ensures.row; at = c.in-Ok.ensures.table; index = c.requires.part.table; slots = c.requires.part.slots } in
    linked_alters p.from c.requires.mapping c.requires.file (g.met.D.Depot.sound _) (g.met.D.Depot.sound _) c.in-Ok.ensures.looks part c.if-table-ne0.false c.open_table.ensures.links c.args.bytes.now c.in-Err-open_table.ensures.went

pub returns-in-Err-open_table-clause-known : goal.returns-in-Err-open_table-clause-known
returns-in-Err-open_table-clause-known g c other =
    let m = mapping c.args.self in
    let p = c.args.part.now in
    let row = c.read_row.new.row in
    let part : IsReadPart m p.table p.slot p.count c.in-Ok.table row (g.D.Outside.world c.args.depot.now) = record { words = c.in-Ok.ensures.row; at = c.in-Ok.ensures.table; index = c.requires.part.table; slots = c.requires.part.slots } in
    linked_known p.from c.requires.mapping c.requires.file (g.met.D.Depot.sound _) (g.met.D.Depot.sound _) c.in-Ok.ensures.looks part c.if-table-ne0.false c.open_table.ensures.links (c.in-Err-open_table.ensures.known (λ same. other (why_back same)))

pub returns-in-Err-open_table-clause-uses : goal.returns-in-Err-open_table-clause-uses
returns-in-Err-open_table-clause-uses g c s disks low is hands al told =
    let m = mapping c.args.self in
    let p = c.args.part.now in
    let row = c.read_row.new.row in
    let part : IsReadPart m p.table p.slot p.count c.in-Ok.table row (g.D.Outside.world c.args.depot.now) = record { words = c.in-Ok.ensures.row; at = c.in-Ok.ensures.table; index = c.requires.part.table; slots = c.requires.part.slots } in
    let u = c.in-Err-open_table.ensures.uses in
    let need = linked_need p.from c.requires.mapping c.requires.file (g.met.D.Depot.sound _) (g.met.D.Depot.sound _) c.in-Ok.ensures.looks part c.if-table-ne0.false c.open_table.ensures.links s is told in
    record { least = omega (arith, u.least, need); most = u.most }

pub returns-in-Err-open_table-clause-short : goal.returns-in-Err-open_table-clause-short
returns-in-Err-open_table-clause-short g c none s disks low is hands al told =
    let m = mapping c.args.self in
    let p = c.args.part.now in
    let row = c.read_row.new.row in
    let part : IsReadPart m p.table p.slot p.count c.in-Ok.table row (g.D.Outside.world c.args.depot.now) = record { words = c.in-Ok.ensures.row; at = c.in-Ok.ensures.table; index = c.requires.part.table; slots = c.requires.part.slots } in
    omega (arith, linked_need p.from c.requires.mapping c.requires.file (g.met.D.Depot.sound _) (g.met.D.Depot.sound _) c.in-Ok.ensures.looks part c.if-table-ne0.false c.open_table.ensures.links s is told, c.in-Err-open_table.ensures.short (why_back none))

pub returns-in-Err-open_table-clause-went : goal.returns-in-Err-open_table-clause-went
returns-in-Err-open_table-clause-went g c = went_on (went_ok c.in-Ok.ensures.looks.calls) (went_why ℕ (Unit {0}) c.in-Err-open_table.why c.in-Err-open_table.ensures.went)
