use Rattle.std.proofs.Common.{◌≡◌, ℕ, List, length, rules, ap, ◌∙◌}
use Rattle.std.specs.Int.{from_be_bytes, w64}
use Rattle.std.proofs.lemmas.Result.{on_ok_weaker}
use Rattle.std.proofs.lemmas.Nat.{from_be_bytes-to_be_bytes_8}
use Rattle.image_model.specs.Clusters.{IsSafe}
use Rattle.image_steps.proofs.Standing.{moves_of}
use Rattle.image_steps.proofs.Entries.{table_added, table_done, table_either, table_leaves, table_words}
use Rattle.image_calls.proofs.Beside.{wrote_beside}
use Rattle.image_calls.proofs.entries.add_table.Goals as goal

pub returns-clause-moves : goal.returns-clause-moves
returns-clause-moves g c s disks first last t i is =
    let sound = g.met.D.Depot.sound in
    let eight : length c.to_be_bytes.result ≡ 8 = search rules in
    let says : from_be_bytes w64 c.to_be_bytes.result ≡ c.args.entry =
    ap (λ (bs : List ℕ). from_be_bytes w64 bs) c.to_be_bytes.ensures ∙ from_be_bytes-to_be_bytes_8 c.args.entry c.ranges.entry.fits in
    moves_of (IsSafe s disks) c.write.ensures.wrote.call.run (sound _) (λ told st. table_added is (sound _) (sound _) c.write.ensures.wrote.call eight says told st)

pub returns-clause-linked : goal.returns-clause-linked
returns-clause-linked g c =
    let sound = g.met.D.Depot.sound in
    let eight : length c.to_be_bytes.result ≡ 8 = search rules in
    let says : from_be_bytes w64 c.to_be_bytes.result ≡ c.args.entry =
    ap (λ (bs : List ℕ). from_be_bytes w64 bs) c.to_be_bytes.ensures ∙ from_be_bytes-to_be_bytes_8 c.args.entry c.ranges.entry.fits in
    on_ok_weaker c.write.result
    (λ done s disks first last t i is stands told. table_done is (sound _) (sound _) c.write.ensures.wrote.call eight says told (stands told) done)
    c.write.ensures.wrote.done

pub returns-clause-leaves : goal.returns-clause-leaves
returns-clause-leaves g c s disks first last t i is stands told =
    let sound = g.met.D.Depot.sound in
    let eight : length c.to_be_bytes.result ≡ 8 = search rules in
    let says : from_be_bytes w64 c.to_be_bytes.result ≡ c.args.entry =
    ap (λ (bs : List ℕ). from_be_bytes w64 bs) c.to_be_bytes.ensures ∙ from_be_bytes-to_be_bytes_8 c.args.entry c.ranges.entry.fits in
    table_leaves is (sound _) (sound _) c.write.ensures.wrote.call eight says told (stands told)

pub returns-clause-rows : goal.returns-clause-rows
returns-clause-rows g c s disks first last t i is stands told =
    let sound = g.met.D.Depot.sound in
    let eight : length c.to_be_bytes.result ≡ 8 = search rules in
    let says : from_be_bytes w64 c.to_be_bytes.result ≡ c.args.entry =
    ap (λ (bs : List ℕ). from_be_bytes w64 bs) c.to_be_bytes.ensures ∙ from_be_bytes-to_be_bytes_8 c.args.entry c.ranges.entry.fits in
    table_words is (sound _) (sound _) c.write.ensures.wrote.call eight says told (stands told)

pub returns-clause-frame : goal.returns-clause-frame
returns-clause-frame g c told x out = wrote_beside c.write.ensures.wrote.call (search rules) told x out

pub returns-clause-either : goal.returns-clause-either
returns-clause-either g c s disks first last t i is stands told =
    let sound = g.met.D.Depot.sound in
    let eight : length c.to_be_bytes.result ≡ 8 = search rules in
    let says : from_be_bytes w64 c.to_be_bytes.result ≡ c.args.entry =
    ap (λ (bs : List ℕ). from_be_bytes w64 bs) c.to_be_bytes.ensures ∙ from_be_bytes-to_be_bytes_8 c.args.entry c.ranges.entry.fits in
    table_either is (sound _) (sound _) c.write.ensures.wrote.call eight says told (stands told)
