use Rattle.std.specs.Int.{w64}
use Rattle.std.proofs.Common.{sym, ◌∙◌}
use Rattle.disk_model.proofs.Words.{number_read}
use Rattle.qback_top.proofs.image.number_at.Goals as goal

pub returns-clause-number : goal.returns-clause-number
returns-clause-number g c = λ told. c.from_be_bytes.ensures ∙ sym (number_read w64 ((g.D.Outside.world c.args.depot.now).seen c.args.file.0) c.read_at.new.out c.args.at (sym (c.in_ok-read_at.ensures.bytes told)))
