use Rattle.std.proofs.Common.{◌≡◌, ◌+◌, ◌*◌, ◌≤◌, ℕ, List, length, arith}
use Rattle.disk_model.specs.Files.{u64_at}
use Rattle.file_device.specs.File.{file_of}
use Rattle.file_device.proofs.Laws.{gives_back}
use Rattle.image_model.specs.Clusters.{pick}
use Rattle.qc_map.specs.Mapping.{mapping}
use Rattle.qc_map.proofs.Looking.{looks_failed}
use Rattle.qc_map.proofs.Places.{cluster_small}
use Rattle.qc_map.proofs.Words.{is_row}
use Rattle.qc_map.proofs.layout.Layout.read_row.Goals as goal

pub read_words-requires-clause-slot : goal.read_words-requires-clause-slot
read_words-requires-clause-slot g c = omega (arith, cluster_small (mapping c.args.self) c.requires.mapping, c.requires.part.slots)

pub read_words-requires-clause-long : goal.read_words-requires-clause-long
read_words-requires-clause-long g c = omega (arith, cluster_small (mapping c.args.self) c.requires.mapping, c.requires.part.slots, c.requires.long)

pub returns-in_err-read_words-clause-looks : goal.returns-in_err-read_words-clause-looks
returns-in_err-read_words-clause-looks g c = looks_failed c.from_residual-in_err-read_words.result _ c.in_ok-table.ensures.looks c.in_err-read_words.ensures.looks c.from_residual-in_err-read_words.ensures.1

pub returns-clause-row : goal.returns-clause-row
returns-clause-row g c = λ told.
    let bytes = (file_of (g.D.Outside.world c.args.depot.now) c.args.self.file.0).bytes in
    let part = c.args.part.now in
    let n : ℕ = length c.args.row.now in
    let P : List ℕ → Type 0 = λ b. (m : ℕ) → 8 * m + 8 ≤ n → u64_at c.read_words.new.row (8 * m) ≡ pick c.in_ok-table.table (u64_at b (c.in_ok-table.table + 8 * (part.slot + m))) in
    is_row (mapping c.args.self) bytes c.read_words.new.row c.in_ok-table.table part.table part.slot part.count (c.in_ok-table.ensures.table told)
    (λ m inside. gives_back P c.in_ok-table.ensures.looks c.in_ok-read_words.ensures.words told m (omega (arith, inside, c.requires.long)))
