use Rattle.std.proofs.Common.{◌≡◌, ℕ, ◌+◌, ◌*◌, ◌<◌, ◌&&◌}
use Rattle.std.specs.Prelude.{nat_lt}
use Rattle.bits_granular.specs.Words.{has}
use Rattle.bits_granular.specs.Bytes.{bit_of}
use Rattle.bits_granular.proofs.spelling.word_of.Given as goal

abbrev pub invariant-loop-place : goal.invariant-loop-place
invariant-loop-place l = (i : ℕ) → i < 64 → has l.word i ≡ (nat_lt i (l.place * 8) && bit_of l.bytes (l.number * 64 + i))
