use Rattle.std.proofs.Common.{◌≡◌, ℕ, ◌-◌, ◌/◌, ◌≤◌, ◌&&◌, ◌||◌, length}
use Rattle.std.specs.Prelude.{nat_lt}
use Rattle.bitmap_model.specs.Granules.{is_in}
use Rattle.bits_granular.specs.Words.{words_for}
use Rattle.bits_granular.proofs.flags.Flags.join.Given as goal

abbrev pub invariant-loop-number : goal.invariant-loop-number
invariant-loop-number l = record {
  count : length l.self ≡ length l.initial.self;
  bits : (k : ℕ) → is_in l.self k ≡ (is_in l.initial.self k || (nat_lt (k / 64) l.from && is_in l.other k));
  within : l.from ≤ words_for (length l.initial.self);
}

abbrev pub decreases-loop-number : goal.decreases-loop-number
decreases-loop-number l = words_for (length l.initial.self) - l.from
