use Rattle.std.proofs.Common.{◌≡◌, ◌∷◌, take, map}
use Rattle.std.specs.Prelude.{codes}
use Rattle.nbd_model.specs.Options.{once_each, bitmap_context}
use Rattle.nbd_session.proofs.contexts.contexts_of.Given as goal

abbrev pub invariant-loop-bitmap : goal.invariant-loop-bitmap
invariant-loop-bitmap l = l.names ≡ once_each (codes "base:allocation" ∷ map bitmap_context (take l.bitmap-index l.bitmap-items))
