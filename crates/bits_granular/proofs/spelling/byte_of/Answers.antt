use Rattle.bits_granular.proofs.OneWord.{has-byte}
use Rattle.bits_granular.proofs.spelling.byte_of.Goals as goal

pub returns : goal.returns
returns c i inside = has-byte c.args.word c.args.place i inside
