use Rattle.std.proofs.Common.{◌+◌, ◌-◌, ◌≤◌, ◌^◌}
use Rattle.qc_layout.proofs.Parting.{Decides}
use Rattle.qc_layout.proofs.kind.kind_of.Given as goal

abbrev pub invariant-loop-e : goal.invariant-loop-e
invariant-loop-e l = record { near : l.at ≤ 2 ^ 32; decides : Decides l.bytes l.end l.at }

abbrev pub decreases-loop-e : goal.decreases-loop-e
decreases-loop-e l = l.end + 8 - l.at
