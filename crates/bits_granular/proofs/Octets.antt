-- Bits in bytes.
use Rattle.std.proofs.Common.{◌≡◌, ◌≢◌, ℕ, false, ◌&&◌, ◌+◌, ◌-◌, ◌*◌, ◌/◌, ◌%◌, ◌^◌, ◌<◌, ◌≤◌, List, length, get_or, inl, inr, sym, ap, ◌∙◌, arith, rules}
use Rattle.std.specs.Prelude.{◌==◌, bit_or, nat_lt}
use Rattle.std.specs.Int.{bit_at, w8, trailing_zeros}
use Rattle.std.proofs.lemmas.Nat.{mod_below, shr-shr, div-add-mod', shr_le}
use Rattle.std.proofs.lemmas.Nat.Bits.{bit_at_above, bit_at-zero, bit_at-trailing_zeros}
use Rattle.std.proofs.lemmas.Bool.{cases_lt, eq-eqb, eqb-true}
use Rattle.std.proofs.lemmas.List.{get_or_past}
use Rattle.bits_granular.specs.Words.{has}
use Rattle.bits_granular.specs.Bytes.{bit_of, HasTail}
use Rattle.bits_granular.proofs.OneWord.{has-zero, has-with_byte}
use Rattle.std.proofs.lemmas.Grind.{common_steps}

zero_or_one : (n : ℕ) → n ≡ 0 → n ≡ 1 → ⊥
zero_or_one n none one = omega arith

-- bit i of a byte, as a bit of all
pub bit_of-at : (bytes : List ℕ) (q i : ℕ) → i < 8 → bit_of bytes (q * 8 + i) ≡ (bit_at (get_or bytes q 0) i == 1)
bit_of-at bytes q i small = search rules

-- a byte that isn't 0 from bit k on has a bit there, and one that is has none
one_from : (x k : ℕ) → x < 256 → 0 < x / 2 ^ k → (i : ℕ) × (k ≤ i) × (i < 8) × (bit_at x i ≡ 1)
one_from x k small some =
    let least : ℕ = trailing_zeros w8 (x / 2 ^ k) in
    let fits : x / 2 ^ k < 2 ^ 8 = omega (arith, shr_le x k) in
    let found : (least < 8) × (bit_at (x / 2 ^ k) least ≡ 1) × ((i : ℕ) → i < least → bit_at (x / 2 ^ k) i ≡ 0) = bit_at-trailing_zeros w8 (x / 2 ^ k) some fits in
    let here : bit_at x (k + least) ≡ 1 = ap (λ (y : ℕ). y % 2) (sym (shr-shr x k least)) ∙ found.1 in
    elim (cases_lt (k + least) 8) [
      | inl below ↦ (k + least, omega arith, below, here)
      | inr past ↦ absurd (zero_or_one (bit_at x (k + least)) (bit_at_above x 8 (k + least) small past) here)
    ]

none_from : (x k i : ℕ) → x / 2 ^ k ≡ 0 → k ≤ i → bit_at x i ≡ 0
none_from x k i none past =
    let sum : k + (i - k) ≡ i = omega arith in
    let e : x / 2 ^ i ≡ 0 / 2 ^ (i - k) = ap (λ (j : ℕ). x / 2 ^ j) (sym sum) ∙ (sym (shr-shr x k (i - k)) ∙ ap (λ (y : ℕ). y / 2 ^ (i - k)) none) in
    ap (λ (y : ℕ). y % 2) e ∙ bit_at-zero (i - k)

-- a bit in the byte in which the tail begins
pub tail_in_first : (bytes : List ℕ) (n : ℕ) → get_or bytes (n / 8) 0 < 256 → 0 < get_or bytes (n / 8) 0 / 2 ^ (n % 8) → HasTail n bytes
tail_in_first bytes n small some =
    let byte : ℕ = get_or bytes (n / 8) 0 in
    let found : (i : ℕ) × (n % 8 ≤ i) × (i < 8) × (bit_at byte i ≡ 1) = one_from byte (n % 8) small some in
    (n / 8 * 8 + found.0, omega (arith, div-add-mod' n 8), bit_of-at bytes (n / 8) found.0 found.2 ∙ eq-eqb (bit_at byte found.0) 1 found.3)

-- a bit in a byte after it
pub tail_in_other : (bytes : List ℕ) (n q : ℕ) → n / 8 < q → get_or bytes q 0 < 256 → get_or bytes q 0 ≢ 0 → HasTail n bytes
tail_in_other bytes n q after small some =
    let byte : ℕ = get_or bytes q 0 in
    let found : (i : ℕ) × (0 ≤ i) × (i < 8) × (bit_at byte i ≡ 1) = one_from byte 0 small (omega arith) in
    (q * 8 + found.0, omega (arith, div-add-mod' n 8, mod_below n 8), bit_of-at bytes q found.0 found.2 ∙ eq-eqb (bit_at byte found.0) 1 found.3)

-- where the byte in which the tail begins has none, a bit of the tail stands in another that isn't 0
pub tail_elsewhere : (bytes : List ℕ) (n : ℕ) → get_or bytes (n / 8) 0 / 2 ^ (n % 8) ≡ 0 → HasTail n bytes
    → (q : ℕ) × (n / 8 < q) × (q < length bytes) × (get_or bytes q 0 ≢ 0)
tail_elsewhere bytes n none t = grind (arith, common_steps, eqb-true, zero_or_one, bit_at-zero, cases_lt, get_or_past, div-add-mod', mod_below, none_from)

-- ---- words of bytes

bit_in_byte : (bytes : List ℕ) (n p i : ℕ) → p * 8 ≤ i → i < p * 8 + 8 → bit_of bytes (n * 64 + i) ≡ has (get_or bytes (n * 8 + p) 0) (i - p * 8)
bit_in_byte bytes n p i from below =
    let q : (n * 64 + i) / 8 ≡ n * 8 + p = omega arith in
    let r : (n * 64 + i) % 8 ≡ i - p * 8 = omega arith in
    ap (λ (j : ℕ). has (get_or bytes j 0) ((n * 64 + i) % 8)) q ∙ ap (λ (j : ℕ). has (get_or bytes (n * 8 + p) 0) j) r

byte_past : (x i : ℕ) → x < 256 → 8 ≤ i → has x i ≡ false
byte_past x i small past = ap (λ (b : ℕ). b == 1) (bit_at_above x 8 i small past)

no_bit : (bytes : List ℕ) (n p i : ℕ) → length bytes ≤ n * 8 + p → p * 8 ≤ i → bit_of bytes (n * 64 + i) ≡ false
no_bit bytes n p i past from =
    let none : get_or bytes ((n * 64 + i) / 8) 0 ≡ 0 = get_or_past bytes ((n * 64 + i) / 8) 0 (omega arith) in
    ap (λ (x : ℕ). has x ((n * 64 + i) % 8)) none ∙ has-zero ((n * 64 + i) % 8)

-- a byte is put in its place in a word
pub word_with_byte : (bytes : List ℕ) (n p x i : ℕ) → p < 8 → i < 64 → get_or bytes (n * 8 + p) 0 < 256 → has x i ≡ (nat_lt i (p * 8) && bit_of bytes (n * 64 + i))
    → has (bit_or x (get_or bytes (n * 8 + p) 0 * 2 ^ (p * 8) % 2 ^ 64)) i ≡ (nat_lt i ((p + 1) * 8) && bit_of bytes (n * 64 + i))
word_with_byte bytes n p x i inside here small before =
    has-with_byte x (get_or bytes (n * 8 + p) 0) p i small inside here
    ∙ elim (cases_lt i (p * 8)) [
      | inl below ↦ grind (arith, common_steps, before)
      | inr from ↦ elim (cases_lt i (p * 8 + 8)) [
        | inl within ↦ let e : bit_of bytes (n * 64 + i) ≡ has (get_or bytes (n * 8 + p) 0) (i - p * 8) = bit_in_byte bytes n p i from within in grind (arith, common_steps, before)
        | inr past ↦ let e : has (get_or bytes (n * 8 + p) 0) (i - p * 8) ≡ false = byte_past (get_or bytes (n * 8 + p) 0) (i - p * 8) small (omega arith) in grind (arith, common_steps, before)
      ]
    ]

-- or there is none
pub word_without_byte : (bytes : List ℕ) (n p x i : ℕ) → length bytes ≤ n * 8 + p → has x i ≡ (nat_lt i (p * 8) && bit_of bytes (n * 64 + i))
    → has x i ≡ (nat_lt i ((p + 1) * 8) && bit_of bytes (n * 64 + i))
word_without_byte bytes n p x i past before =
    before
    ∙ elim (cases_lt i (p * 8)) [
      | inl below ↦ grind (arith, common_steps)
      | inr from ↦ let e : bit_of bytes (n * 64 + i) ≡ false = no_bit bytes n p i past from in grind (arith, common_steps)
    ]
