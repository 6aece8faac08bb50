use Rattle.std.proofs.Common.{◌≡◌, map, take, All}
use Rattle.serde_json.specs.View.{view}
use Rattle.qmp_reply.proofs.listings.listing.Given as goal

abbrev pub invariant-loop-one : goal.invariant-loop-one
invariant-loop-one g l = All g.T.Listed.is_text l.listed.items → map view l.values.items ≡ map g.T.Listed.shown (take l.one-index l.listed.items)
