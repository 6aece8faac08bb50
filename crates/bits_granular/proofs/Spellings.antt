-- Sets and the bytes that spell them.
use Rattle.std.proofs.Common.{◌≡◌, ℕ, ◌+◌, ◌*◌, ◌^◌, ◌<◌, Bool, List, length, get_or, sym, ◌∙◌, arith, rules}
use Rattle.std.specs.Prelude.{◌==◌, All}
use Rattle.std.specs.Int.{bit_at}
use Rattle.std.proofs.lemmas.Nat.Bits.{same_from_bits_below, bit_at-lt}
use Rattle.std.proofs.lemmas.Bool.{cases_lt, cases_Bool}
use Rattle.std.proofs.lemmas.List.{get_or_past}
use Rattle.std.proofs.lemmas.Grind.{same_number_lists, common_steps}
use Rattle.std.proofs.lemmas.List.Elements.{All-get_or}
use Rattle.bits_granular.proofs.Octets.{bit_of-at}
use Rattle.bitmap_model.specs.Granules.{set_of}
use Rattle.bits_granular.specs.Bytes.{bit_of, bytes_for, IsSpelling, HasTail}
use Rattle.bitmap_model.proofs.Sets.{set_of-from, is_in-set_of, length-set_of}

pub reads_back : (set : List Bool) (bytes : List ℕ) → IsSpelling set bytes → set_of (length set) (bit_of bytes) ≡ set
reads_back set bytes s = grind (arith, common_steps, set_of-from)

pub no_tail : (set : List Bool) (bytes : List ℕ) → IsSpelling set bytes → HasTail (length set) bytes → ⊥
no_tail set bytes s t = grind (arith, common_steps)

pub spells_back : (n : ℕ) (bytes : List ℕ) → length bytes ≡ bytes_for n → (HasTail n bytes → ⊥) → IsSpelling (set_of n (bit_of bytes)) bytes
spells_back n bytes count none = grind (arith, common_steps, length-set_of, cases_lt, is_in-set_of, cases_Bool, get_or_past)

-- bits that pass the same test are one
same_bit : (a b : ℕ) → a < 2 → b < 2 → (a == 1) ≡ (b == 1) → a ≡ b
same_bit a b small little same = search rules

pub one_spelling : (set : List Bool) (one other : List ℕ) → All (λ b. b < 2 ^ 8) one → All (λ b. b < 2 ^ 8) other → IsSpelling set one → IsSpelling set other → one ≡ other
one_spelling set one other fits fit s t =
    let count : length one ≡ length other = s.count ∙ sym t.count in
    same_number_lists one other count
    (λ q inside. same_from_bits_below 8 (get_or one q 0) (get_or other q 0) (All-get_or (λ b. b < 2 ^ 8) one q 0 inside fits)
    (All-get_or (λ b. b < 2 ^ 8) other q 0 (omega arith) fit)
    (λ i below. same_bit (bit_at (get_or one q 0) i) (bit_at (get_or other q 0) i) (bit_at-lt (get_or one q 0) i) (bit_at-lt (get_or other q 0) i)
    (sym (bit_of-at one q i below) ∙ (s.bits (q * 8 + i) ∙ (sym (t.bits (q * 8 + i)) ∙ bit_of-at other q i below)))))
