use Rattle.std.proofs.Common.{ℕ, ◌+◌, ◌*◌, ap, sym, ◌∙◌}
use Rattle.disk_model.specs.Files.{u64_at}
use Rattle.file_device.specs.File.{file_of}
use Rattle.image_model.specs.Clusters.{offset}
use Rattle.qc_map.specs.Mapping.{mapping, shape_by}
use Rattle.qc_map.proofs.More.{row_needs}
use Rattle.qc_map.proofs.Words.{first_level_by}
use Rattle.qc_map.proofs.layout.Layout.need_part.Goals as goal

pub returns-clause-need : goal.returns-clause-need
returns-clause-need g c = λ told.
    let m = mapping c.args.self in
    let part = c.args.part.now in
    let file = (file_of (g.D.Outside.world c.args.depot.now) c.args.self.file.0).bytes in
    c.needed.ensures.need
    ∙ row_needs (shape_by m) file c.read_row.new.row part.table part.slot part.count c.in_ok-table.table (c.in_ok-table.ensures.row told)
    (c.in_ok-table.ensures.table told ∙ ap (λ (l : ℕ). offset (u64_at file (l + 8 * part.table))) (sym (first_level_by m)))
