use Rattle.core_loop.proofs.Opening.{covers_on}
use Rattle.core_loop.proofs.laws.covers_go_on.Goals as goal

pub returns : goal.returns
returns c = covers_on
