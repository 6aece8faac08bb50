-- Sizes of clusters.
use Rattle.std.proofs.Common.{ℕ, ◌*◌, ◌/◌, ◌%◌, ◌^◌, ◌≤◌, arith}
use Rattle.std.proofs.Math.Nat.{pow-le-pow_right, one-le-mul}

pub bits_low : (bits : ℕ) → 9 ≤ bits → 512 ≤ 2 ^ bits
bits_low bits low = pow-le-pow_right {n = 2} (omega arith) {i = 9} {j = bits} low

pub bits_high : (bits : ℕ) → bits ≤ 21 → 2 ^ bits ≤ 2 ^ 21
bits_high bits high = pow-le-pow_right {n = 2} (omega arith) {i = bits} {j = 21} high

-- what an entry of the first level covers is something
pub covered_some : (bits : ℕ) → 9 ≤ bits → bits ≤ 21 → 1 ≤ 1 * 2 ^ bits % 18446744073709551616 * (1 * 2 ^ bits % 18446744073709551616 / 8)
covered_some bits low high = let a = bits_low bits low in let b = bits_high bits high in one-le-mul (omega arith) (omega arith)
