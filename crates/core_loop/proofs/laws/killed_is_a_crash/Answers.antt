use Rattle.core_loop.proofs.Refusals.{killed}
use Rattle.core_loop.proofs.laws.killed_is_a_crash.Goals as goal

pub returns : goal.returns
returns c = killed
