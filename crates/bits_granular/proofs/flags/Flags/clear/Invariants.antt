use Rattle.std.proofs.Common.{◌≡◌, ℕ, ◌-◌, ◌/◌, ◌≤◌, ◌<◌, false, length}
use Rattle.bitmap_model.specs.Granules.{is_in}
use Rattle.bits_granular.specs.Words.{words_for}
use Rattle.bits_granular.proofs.flags.Flags.clear.Given as goal

abbrev pub invariant-loop-number : goal.invariant-loop-number
invariant-loop-number l = record {
  count : length l.self ≡ length l.initial.self;
  bits : (k : ℕ) → k / 64 < l.from → is_in l.self k ≡ false;
  within : l.from ≤ words_for (length l.initial.self);
}

abbrev pub decreases-loop-number : goal.decreases-loop-number
decreases-loop-number l = words_for (length l.initial.self) - l.from
