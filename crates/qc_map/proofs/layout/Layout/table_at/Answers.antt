use Rattle.std.proofs.Common.{◌≡◌, ◌+◌, ◌*◌, ℕ, ap, ◌∙◌, arith}
use Rattle.disk_model.specs.Files.{u64_at}
use Rattle.file_device.specs.File.{file_of}
use Rattle.image_model.specs.Clusters.{offset}
use Rattle.qc_map.proofs.Words.{word_read}
use Rattle.qc_map.proofs.layout.Layout.table_at.Goals as goal

pub returns-clause-table : goal.returns-clause-table
returns-clause-table g c = λ told.
    let bytes = (file_of (g.D.Outside.world c.args.depot.now) c.args.self.file.0).bytes in
    let at : ℕ = c.args.self.first_level + 8 * c.args.index in
    let same : at + 8 * 0 ≡ at = omega arith in
    c.offset_at.ensures.offset ∙ ap offset (word_read bytes c.read.new.out at 8 0 (c.in_ok-read.ensures.bytes told) (omega arith) ∙ ap (u64_at bytes) same)
