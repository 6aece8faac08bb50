use Rattle.std.proofs.Common.{arith}
use Rattle.std.proofs.lemmas.Grind.{common_steps}
use Rattle.qc_layout.proofs.Puts.{puts_over}
use Rattle.qc_layout.proofs.writing.put.Goals as goal

pub returns : goal.returns
returns c = puts_over c.args.bytes.now c.args.out.now _ c.args.at (grind (arith, common_steps))
