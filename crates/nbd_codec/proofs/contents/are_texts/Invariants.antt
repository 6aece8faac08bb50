use Rattle.std.proofs.Common.{◌≡◌}
use Rattle.std.specs.Prelude.{is_some}
use Rattle.nbd_model.specs.Options.{texts_of}
use Rattle.nbd_codec.proofs.contents.are_texts.Given as goal

abbrev pub invariant-loop-left : goal.invariant-loop-left
invariant-loop-left l = is_some (texts_of l.left l.rest) ≡ is_some (texts_of l.fn.count l.fn.bytes)

abbrev pub decreases-loop-left : goal.decreases-loop-left
decreases-loop-left l = l.left
