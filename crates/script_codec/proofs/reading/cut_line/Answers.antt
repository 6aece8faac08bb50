use Rattle.std.proofs.Common.{length, ◌∙◌, ap, arith}
use Rattle.script_model.specs.Words.{lines_of}
use Rattle.script_model.proofs.WordLaws.{line_at_front, last_line}
use Rattle.script_codec.proofs.reading.cut_line.Goals as goal

pub returns-in-Some-clause-lines : goal.returns-in-Some-clause-lines
returns-in-Some-clause-lines c = let f = c.in-Some.ensures.found in ap lines_of f.0 ∙ line_at_front _ _ f.1

pub returns-in-None-clause-lines : goal.returns-in-None-clause-lines
returns-in-None-clause-lines c = last_line c.args.text.now (λ e. absurd (omega (arith, ap length e))) c.in-None.ensures.none
