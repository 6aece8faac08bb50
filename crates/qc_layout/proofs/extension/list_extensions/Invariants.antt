use Rattle.std.proofs.Common.{◌+◌, ◌-◌, ◌≤◌}
use Rattle.qc_layout.proofs.Listing.{Follows}
use Rattle.qc_layout.proofs.extension.list_extensions.Given as goal

abbrev pub invariant-loop-found : goal.invariant-loop-found
invariant-loop-found l = record { near : l.at ≤ l.end + 65536; follows : Follows l.bytes l.end l.from l.at l.found.items }

abbrev pub decreases-loop-found : goal.decreases-loop-found
decreases-loop-found l = l.end + 8 - l.at
