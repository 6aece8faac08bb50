use Rattle.qmp_reply.proofs.Lists.{job_items-map}
use Rattle.qmp_reply.proofs.listings.job_listing.Goals as goal

pub returns : goal.returns
returns c = rw (job_items-map, ← c.jobs.view_is) c.listing.ensures
