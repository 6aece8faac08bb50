use Rattle.std.proofs.Common.{◌≡◌, ◌-◌, ◌≤◌, length}
use Rattle.bits_granular.proofs.Merging.{merged_below}
use Rattle.bits_granular.proofs.bits.GranularBits.merge_from.Given as goal

abbrev pub invariant-loop-first : goal.invariant-loop-first
invariant-loop-first l = record {
  merged : l.self ≡ merged_below l.initial.self l.other.granularity l.other.set l.from;
  within : l.from ≤ length l.other.set;
}

abbrev pub decreases-loop-first : goal.decreases-loop-first
decreases-loop-first l = length l.other.set - l.from
