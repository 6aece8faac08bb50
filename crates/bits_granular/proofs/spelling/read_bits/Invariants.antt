use Rattle.std.proofs.Common.{◌≡◌, ℕ, ◌/◌, ◌&&◌, length}
use Rattle.std.specs.Prelude.{nat_lt}
use Rattle.bitmap_model.specs.Granules.{is_in}
use Rattle.bits_granular.specs.Bytes.{bit_of}
use Rattle.bits_granular.proofs.spelling.read_bits.Given as goal

abbrev pub invariant-loop-number : goal.invariant-loop-number
invariant-loop-number l = record {
  count : length l.flags ≡ l.count;
  bits : (k : ℕ) → is_in l.flags k ≡ (nat_lt (k / 64) l.number && bit_of l.bytes k);
}
