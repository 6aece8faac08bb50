use Rattle.std.proofs.Common.{rules}
use Rattle.nbd_session.proofs.Listing.{contexts_on}
use Rattle.nbd_session.proofs.contexts.contexts_of.Goals as goal

pub loop-bitmap-preserved : goal.loop-bitmap-preserved
loop-bitmap-preserved c =
    contexts_on _ c.loop-bitmap.bitmap-index c.bitmap-item.result c.in_ok-name.name c.loop-bitmap.names c.add_once.new.names c.loop-bitmap-test.true c.bitmap-item.is (search rules)
    c.in_ok-add_once.ensures.once c.loop-bitmap.invariant
