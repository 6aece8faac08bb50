use Rattle.std.proofs.Common.{◌≡◌, ℕ, ◌+◌, ◌*◌, ◌/◌, ◌%◌, ◌<◌, List, length, ap, sym, ◌∙◌, arith}
use Rattle.std.proofs.lemmas.Result.{on_ok_weaker}
use Rattle.disk_model.specs.Files.{byte}
use Rattle.file_device.specs.File.{file_of, Gives}
use Rattle.file_device.proofs.Laws.{gives_back}
use Rattle.image_model.specs.Clusters.{guest, size}
use Rattle.qc_map.specs.Mapping.{mapping, shape_by}
use Rattle.qc_map.specs.Reading.{row_byte}
use Rattle.qc_map.proofs.Places.{cluster_by, cluster_small, cluster_some, row_guest}
use Rattle.qc_map.proofs.layout.Layout.read_part.Goals as goal

pub read_clusters-requires-clause-inside : goal.read_clusters-requires-clause-inside
read_clusters-requires-clause-inside g c = omega (arith, cluster_by (mapping c.args.self) c.requires.mapping, c.requires.part.inside, c.cluster_of.ensures.bytes)

pub read_clusters-requires-clause-few : goal.read_clusters-requires-clause-few
read_clusters-requires-clause-few g c = omega (arith, cluster_small (mapping c.args.self) c.requires.mapping, c.requires.part.slots, c.requires.long, c.read_row.auto.row)

pub read_clusters-requires-clause-covers : goal.read_clusters-requires-clause-covers
read_clusters-requires-clause-covers g c =
    let n : length c.read_row.new.row / 8 ≡ c.args.part.now.count = omega (arith, c.requires.long, c.read_row.auto.row) in
    let same : c.cluster_of.result ≡ size (shape_by (mapping c.args.self)) = c.cluster_of.ensures.bytes ∙ sym (cluster_by (mapping c.args.self) c.requires.mapping) in
    let times : c.cluster_of.result * (length c.read_row.new.row / 8) ≡ size (shape_by (mapping c.args.self)) * c.args.part.now.count =
    ap (λ (k : ℕ). c.cluster_of.result * k) n ∙ ap (λ (k : ℕ). k * c.args.part.now.count) same in
    omega (arith, times, c.requires.part.covers, c.requires.bytes)

pub returns-clause-bytes : goal.returns-clause-bytes
returns-clause-bytes g c =
    let s = shape_by (mapping c.args.self) in
    let part = c.args.part.now in
    let file = file_of (g.D.Outside.world c.args.depot.now) c.args.self.file.0 in
    let later = file_of (g.D.Outside.world c.read_row.new.depot) c.args.self.file.0 in
    let row = c.read_row.new.row in
    let out = c.read_clusters.new.out in
    let same : c.cluster_of.result ≡ size s = c.cluster_of.ensures.bytes ∙ sym (cluster_by (mapping c.args.self) c.requires.mapping) in
    let P : List ℕ → Type 0 = λ b. (x : ℕ) → x < length c.args.out.now → byte out x ≡ row_byte c.cluster_of.result row b (part.from + x) in
    let Q : List ℕ → Type 0 = λ b. (x : ℕ) → x < part.length → byte out x ≡ guest s b part.table (part.slot + (part.from + x) / size s) ((part.from + x) % size s) in
    on_ok_weaker {P = Gives later P} {Q = Gives file Q} c.read_clusters.result
    (λ is told x inside.
    gives_back P c.in_ok-read_row.ensures.looks is told x (omega (arith, inside, c.requires.bytes))
    ∙ ap (λ (k : ℕ). row_byte k row file.bytes (part.from + x)) same
    ∙ row_guest s file.bytes (cluster_some (mapping c.args.self) c.requires.mapping) row part.table part.slot part.count (part.from + x) (c.in_ok-read_row.ensures.row told) (omega (arith, inside, c.requires.part.covers)))
    c.read_clusters.ensures.bytes
