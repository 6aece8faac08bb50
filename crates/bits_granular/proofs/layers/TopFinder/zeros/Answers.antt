use Rattle.bits_granular.proofs.Rows.{bits-zeros}
use Rattle.bits_granular.proofs.layers.TopFinder.zeros.Goals as goal

pub returns : goal.returns
returns c = bits-zeros c.args.count 1
