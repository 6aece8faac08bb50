-- Numbers that pass a test, counted.
use Rattle.std.proofs.Common.{◌≡◌, ℕ, zero, suc, ◌+◌, Bool, arith}
use Rattle.std.specs.Prelude.{count_by, if◌then◌else◌}
use Rattle.std.specs.List.{range_with_len}
use Rattle.std.proofs.lemmas.Grind.{common_steps}

-- one more of them
pub counted_more : (p : ℕ → Bool) (a n : ℕ) → count_by p (range_with_len a (n + 1)) ≡ count_by p (range_with_len a n) + (if p (a + n) then 1 else 0)
counted_more p a zero = grind (arith, common_steps)
counted_more p a (suc n) = grind (arith, common_steps, counted_more p (a + 1) n)
