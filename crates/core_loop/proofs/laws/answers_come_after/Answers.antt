use Rattle.std.proofs.Common.{IsTrue}
use Rattle.core_node.specs.Files.{IsHeldAs}
use Rattle.core_loop.proofs.Refusals.{comes_after}
use Rattle.core_loop.proofs.laws.answers_come_after.Goals as goal

pub returns : goal.returns
returns c own source from move step prints some = comes_after IsHeldAs (λ f. IsTrue (own f)) source from move step prints some
