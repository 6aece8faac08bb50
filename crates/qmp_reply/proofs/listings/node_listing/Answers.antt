use Rattle.qmp_reply.proofs.Lists.{node_items-map}
use Rattle.qmp_reply.proofs.listings.node_listing.Goals as goal

pub returns : goal.returns
returns c = rw (node_items-map, ← c.nodes.view_is) c.listing.ensures
