use Rattle.std.proofs.Common.{◌≡◌, ◌≢◌, ◌+◌, ◌*◌, ℕ, List, IsTrue, subst, ◌∙◌, sym, ap}
use Rattle.qc_layout.specs.Entries.{offset_in}
use Rattle.disk_model.specs.Files.{u64_at}
use Rattle.qc_layout.specs.FirstForm.{table_offset}
use Rattle.qback_top.proofs.Disk.{host_none, host_some}
use Rattle.qback_top.proofs.image.host.Goals as goal

pub returns-then-table-eq0-clause-host : goal.returns-then-table-eq0-clause-host
returns-then-table-eq0-clause-host g c = λ told opened. host_none _ c.args.cluster (sym (c.in_ok-table.ensures.table told opened) ∙ c.if-table-eq0.true)

pub returns-clause-host : goal.returns-clause-host
returns-clause-host g c = λ told opened.
    let file = (g.D.Outside.world c.args.depot.now).seen c.args.image.now.file.0 in
    let is : c.in_ok-table.table ≡ table_offset file = c.in_ok-table.ensures.table told opened in
    let some : table_offset file ≢ 0 = λ z. c.if-table-eq0.false (is ∙ z) in
    let run = c.table.ensures.run in
    let same : (g.D.Outside.world c.table.new.depot).seen c.args.image.now.file.0 ≡ file = (run.files c.args.image.now.file.0 (λ none. none)).seen in
    let read = c.in_ok-number_at.ensures.number (subst IsTrue (sym run.goes.tells) told) in
    c.offset.ensures.value ∙ ap offset_in (read ∙ ap (λ (f : List ℕ). u64_at f (c.in_ok-table.table + 8 * c.args.cluster)) same ∙ ap (λ (t : ℕ). u64_at file (t + 8 * c.args.cluster)) is) ∙ host_some file c.args.cluster some
