-- Words of the second-level table, written and read again.
use Rattle.std.proofs.Common.{rules}
use Rattle.std.proofs.Common.{◌≡◌, ℕ, ◌+◌, ◌*◌, ◌/◌, ◌%◌, ◌^◌, ◌<◌, Ok, ap, ◌∙◌, subst, arith}
use Rattle.std.specs.Int.Bits.{bit_or, or_shifted_r}
use Rattle.std.proofs.lemmas.Nat.{or_shifted}
use Rattle.qc_layout.specs.declared.entry.L2Entry.TheVariants.{Zero, Stored}
use Rattle.qc_layout.specs.Entries.{l2_of, IsOffset}

-- an aligned offset that an entry can hold
pub record IsPlace (bits offset : ℕ) : Type 0 where
  pub is : IsOffset offset
  pub aligned : offset % 2 ^ bits ≡ 0

pub stored_place : (bits word offset : ℕ) → l2_of bits word ≡ Ok (Stored offset) → IsPlace bits offset
unfolding l2_of
stored_place bits word offset h = search rules

pub zero_place : (bits word offset : ℕ) → l2_of bits word ≡ Ok (Zero offset) → IsPlace bits offset
unfolding l2_of
zero_place bits word offset h = search rules

-- the written word as a sum
pub stored_sum : (o : ℕ) → o < 2 ^ 56 → bit_or o (2 ^ 63) ≡ o + 2 ^ 63
stored_sum o small = omega (arith, or_shifted_r 1 63 o (omega arith))

pub zero_sum : (o : ℕ) → o % 512 ≡ 0 → o < 2 ^ 56 → bit_or (bit_or o 1) (2 ^ 63) ≡ o + 1 + 2 ^ 63
zero_sum o whole small =
    let even : o / 2 * 2 ^ 1 ≡ o = omega arith in
    let low : bit_or o 1 ≡ o + 1 = subst (λ (k : ℕ). bit_or k 1 ≡ k + 1) even (or_shifted (o / 2) 1 1 (omega arith)) in
    ap (λ (k : ℕ). bit_or k (2 ^ 63)) low ∙ omega (arith, or_shifted_r 1 63 (o + 1) (omega arith))

pub stored_reads : (bits o : ℕ) → IsPlace bits o → l2_of bits (bit_or o (2 ^ 63)) ≡ Ok (Stored o)
unfolding l2_of
stored_reads bits o place = rw (stored_sum o place.is.small) (search rules)

pub zero_reads : (bits o : ℕ) → IsPlace bits o → l2_of bits (bit_or (bit_or o 1) (2 ^ 63)) ≡ Ok (Zero o)
unfolding l2_of
zero_reads bits o place = rw (zero_sum o place.is.whole place.is.small) (search rules)
