use Rattle.std.proofs.Common.{◌≡◌, ℕ, List, length, refl, ap, ◌∙◌, arith}
use Rattle.std.proofs.lemmas.List.{take_at}
use Rattle.disk_model.specs.Files.{reading}
use Rattle.disk_model.proofs.Words.{reading_all}
use Rattle.qback_top.proofs.Growing.{read_same, told_on}
use Rattle.qback_top.proofs.replays.read_short.Goals as goal

pub returns-clause-content : goal.returns-clause-content
returns-clause-content g c = λ told.
    let f = c.args.file.0 in
    let file = (g.D.Outside.world c.args.depot.now).seen f in
    let run = c.size.ensures.run in
    let size : c.in_ok-length.length ≡ length file = c.in_ok-length.ensures.size told in
    let read : c.read_at.new.out ≡ reading file 0 (length c.deref_mut.result.now) =
    c.in_ok-read_at.ensures.bytes (told_on run told) ∙ ap (λ (h : List ℕ). reading h 0 (length c.deref_mut.result.now)) (read_same f run) in
    let long : length c.deref_mut.result.now ≡ c.in_ok-length.length = let v = c.deref_mut.ensures in let w = c.in_ok-content.ensures.len in omega (arith, c.in_ok-content.content.ok.0) in
    let whole : c.read_at.new.out ≡ file = read ∙ ap (reading file 0) (long ∙ size) ∙ reading_all file (length file) refl in
    (omega (arith, c.if-length-limit.false), take_at c.read_at.new.out _ c.in_ok-content.content.len (omega (arith, ap length whole, c.in_ok-content.ensures.len)) ∙ whole)
