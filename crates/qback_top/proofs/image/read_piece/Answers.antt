use Rattle.std.proofs.Common.{◌≡◌, ◌≢◌, ◌+◌, ◌/◌, ◌%◌, ℕ, List, IsTrue, length, subst, ◌∙◌, sym, ap}
use Rattle.disk_model.specs.Files.{reading}
use Rattle.qc_layout.specs.FirstForm.{host_of}
use Rattle.qback_top.proofs.Disk.{hole_piece, stored_piece}
use Rattle.qback_top.proofs.image.read_piece.Goals as goal

pub returns-then-host-eq0-clause-bytes : goal.returns-then-host-eq0-clause-bytes
returns-then-host-eq0-clause-bytes g c = λ told opened inside.
    c.clear.ensures ∙ hole_piece ((g.D.Outside.world c.args.depot.now).seen c.args.image.now.file.0) c.args.at (length c.args.out.now) inside c.requires.piece (sym (c.in_ok-host.ensures.host told opened) ∙ c.if-host-eq0.true)

pub returns-clause-bytes : goal.returns-clause-bytes
returns-clause-bytes g c = λ told opened inside.
    let file = (g.D.Outside.world c.args.depot.now).seen c.args.image.now.file.0 in
    let is : c.in_ok-host.host ≡ host_of file (c.args.at / 4096) = c.in_ok-host.ensures.host told opened in
    let some : host_of file (c.args.at / 4096) ≢ 0 = λ z. c.if-host-eq0.false (is ∙ z) in
    let run = c.host.ensures.run in
    let same : (g.D.Outside.world c.host.new.depot).seen c.args.image.now.file.0 ≡ file = (run.files c.args.image.now.file.0 (λ none. none)).seen in
    c.in_ok-read_at.ensures.bytes (subst IsTrue (sym run.goes.tells) told)
    ∙ ap (λ (f : List ℕ). reading f (c.in_ok-host.host + c.args.at % 4096) (length c.args.out.now)) same
    ∙ ap (λ (h : ℕ). reading file (h + c.args.at % 4096) (length c.args.out.now)) is
    ∙ stored_piece file c.args.at (length c.args.out.now) inside c.requires.piece some
