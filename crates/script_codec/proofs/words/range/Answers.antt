use Rattle.script_codec.proofs.FormLaws.{range_parts, range_made}
use Rattle.script_codec.proofs.words.range.Goals as goal

pub returns-in_default-number-2 : goal.returns-in_default-number-2
returns-in_default-number-2 c = λ at n h. c.in_default-number-2.ensures n (range_parts c.args.text.now _ c.in-Some.length.now at n c.in-Some.ensures h).1

pub returns : goal.returns
returns c = range_made c.args.text.now _ c.in-Some.length.now _ _ c.in-Some.ensures c.in-Some-number.ensures c.in-Some-number-2.ensures
