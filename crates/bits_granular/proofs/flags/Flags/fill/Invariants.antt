use Rattle.std.proofs.Common.{◌≡◌, ℕ, ◌/◌, ◌&&◌, ◌||◌, length}
use Rattle.std.specs.Prelude.{nat_lt, nat_le}
use Rattle.bitmap_model.specs.Granules.{is_in}
use Rattle.bits_granular.proofs.flags.Flags.fill.Given as goal

abbrev pub invariant-loop-number : goal.invariant-loop-number
invariant-loop-number l = record {
  count : length l.self ≡ length l.initial.self;
  bits : (k : ℕ) → is_in l.self k ≡ (is_in l.initial.self k || (nat_lt (k / 64) l.number && (nat_le l.first k && nat_lt k l.past)));
}
