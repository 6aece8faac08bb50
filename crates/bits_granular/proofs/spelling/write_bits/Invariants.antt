use Rattle.std.proofs.Common.{◌≡◌, ℕ, ◌*◌, ◌<◌, length}
use Rattle.bitmap_model.specs.Granules.{is_in}
use Rattle.bits_granular.specs.Bytes.{bit_of}
use Rattle.bits_granular.proofs.spelling.write_bits.Given as goal

abbrev pub invariant-loop-number : goal.invariant-loop-number
invariant-loop-number l = record {
  count : length l.bytes.items ≡ l.number;
  bits : (k : ℕ) → k < l.number * 8 → bit_of l.bytes.items k ≡ is_in l.flags k;
}
