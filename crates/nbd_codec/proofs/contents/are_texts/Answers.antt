use Rattle.std.proofs.Common.{◌∙◌, arith}
use Rattle.nbd_codec.proofs.Texts.{one_less}
use Rattle.nbd_codec.proofs.contents.are_texts.Goals as goal

pub loop-left-preserved : goal.loop-left-preserved
loop-left-preserved c = one_less c.loop-left.left c.loop-left.rest.now _ c.in-Some.ensures (omega arith) ∙ c.loop-left.invariant
