use Rattle.qc_layout.proofs.Listing.{one_listing}
use Rattle.qc_layout.proofs.laws.one_listing.Goals as goal

pub returns : goal.returns
returns c = one_listing
