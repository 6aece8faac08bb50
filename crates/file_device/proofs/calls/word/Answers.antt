use Rattle.std.specs.Int.{w64}
use Rattle.std.proofs.Common.{sym, ◌∙◌}
use Rattle.disk_model.proofs.Words.{number_read}
use Rattle.file_device.proofs.calls.word.Goals as goal

pub returns-clause-number : goal.returns-clause-number
returns-clause-number g c = λ told. c.from_be_bytes.ensures ∙ sym (number_read w64 _ c.read.new.out c.args.at (sym (c.in_ok-read.ensures.bytes told)))
