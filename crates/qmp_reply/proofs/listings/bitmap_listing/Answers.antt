use Rattle.qmp_reply.proofs.Lists.{bitmap_items-map}
use Rattle.qmp_reply.proofs.listings.bitmap_listing.Goals as goal

pub returns : goal.returns
returns c = rw (bitmap_items-map, ← c.bitmaps.view_is) c.listing.ensures
