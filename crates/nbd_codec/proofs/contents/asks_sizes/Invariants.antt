use Rattle.std.proofs.Common.{◌≡◌, length}
use Rattle.nbd_model.specs.Options.{asks_kind}
use Rattle.nbd_codec.proofs.contents.asks_sizes.Given as goal

abbrev pub invariant-loop-rest : goal.invariant-loop-rest
invariant-loop-rest l = asks_kind 3 l.rest ≡ asks_kind 3 l.fn.kinds

abbrev pub decreases-loop-rest : goal.decreases-loop-rest
decreases-loop-rest l = length l.rest
