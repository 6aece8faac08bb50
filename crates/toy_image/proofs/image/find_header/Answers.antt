use Rattle.std.proofs.Common.{◌∙◌}
use Rattle.toy_image.proofs.Looking.{start_spells, start_refused}
use Rattle.toy_image.proofs.image.find_header.Goals as goal

pub returns-in-Ok-clause-spells : goal.returns-in-Ok-clause-spells
returns-in-Ok-clause-spells g c = λ told opens.
    start_spells _ c.deref.result.now c.in-Ok.header (c.deref.ensures.value ∙ c.in_ok-bytes.ensures.bytes told) opens c.in-Ok.ensures

pub returns-clause-not : goal.returns-clause-not
returns-clause-not g c =
    start_refused (g.D.Outside.world c.args.depot.now) (g.D.Outside.world c.read_start.new.depot) c.args.file.0 c.deref.result.now c.in-Err.fault c.refusal.result c.refusal.ensures
    (λ told. c.deref.ensures.value ∙ c.in_ok-bytes.ensures.bytes told) c.in-Err.ensures
