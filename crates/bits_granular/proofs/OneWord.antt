-- Bits of one word.
use Rattle.std.proofs.Common.{◌≡◌, ◌≢◌, ℕ, ◌+◌, ◌-◌, ◌*◌, ◌/◌, ◌%◌, ◌^◌, ◌<◌, ◌≤◌, min, Bool, true, false, not, ◌&&◌, ◌||◌, inl, inr, refl, sym, ap, ◌∙◌, arith, rules}
use Rattle.std.specs.Prelude.{◌==◌, bit_or, bit_and, nat_lt, nat_le}
use Rattle.bitmap_model.specs.Granules.{IsNext, HasNoNext}
use Rattle.std.specs.Int.{bit_at, bit_not, w64, trailing_zeros}
use Rattle.std.proofs.lemmas.Nat.{shr-shr, shr_le, shl_below, pow_pos}
use Rattle.std.proofs.lemmas.Nat.Bits.{bit_at_and, bit_at_or, bit_at_not, bit_at_ones, bit_at_ones_above, bit_at_set_same, bit_at_set_other, bit_at_clear_same, bit_at_clear_other, bit_at_above, bit_at-zero, same_from_bits_below, bit_at_cat_low, bit_at_cat_high, bit_at-lt, bit_at-trailing_zeros}
use Rattle.std.proofs.lemmas.Bool.{cases_lt, eq-eqb, le-leb, lt-leb}
use Rattle.std.proofs.Math.Pow.{pow_mono}
use Rattle.std.proofs.lemmas.Grind.{common_steps}
use Rattle.bits_granular.specs.Words.{has, ones_below}

pub pow_up : (i j : ℕ) → i ≤ j → 2 ^ i ≤ 2 ^ j
pow_up i j h = pow_mono {i = i} {j = j} h

lt_le_trans : (a b c : ℕ) → a < b → b ≤ c → a < c
lt_le_trans a b c p q = omega arith

pub true_false : true ≡ false → ⊥
true_false e = search rules

pub ones_fit : (n : ℕ) → n ≤ 64 → ones_below n < 2 ^ 64
ones_fit n small = lt_le_trans (ones_below n) (2 ^ n) (2 ^ 64) (omega (arith, pow_pos n)) (pow_up n 64 small)

part_of_place : (first past w i : ℕ) → i < 64 → (nat_lt i (min (past - w * 64) 64) && not (nat_lt i (min (first - w * 64) 64))) ≡ (nat_le first (w * 64 + i) && nat_lt (w * 64 + i) past)
part_of_place first past w i inside = grind (arith, common_steps)

small_mod : (x : ℕ) → x < 2 ^ 64 → x % 2 ^ 64 ≡ x
small_mod x small = omega arith

has-shifted : (byte p i : ℕ) → byte < 256 → p < 8 → i < 64 → has (byte * 2 ^ (p * 8) % 2 ^ 64) i ≡ (nat_le (p * 8) i && has byte (i - p * 8))
has-shifted byte p i small inside here =
    let k : ℕ = p * 8 in
    let fits : byte * 2 ^ k < 2 ^ 64 = lt_le_trans (byte * 2 ^ k) (2 ^ (8 + k)) (2 ^ 64) (shl_below byte 8 k small) (pow_up (8 + k) 64 (omega arith)) in
    let e : byte * 2 ^ k % 2 ^ 64 ≡ byte * 2 ^ k + 0 = omega (arith, small_mod (byte * 2 ^ k) fits) in
    ap (λ (x : ℕ). has x i) e
    ∙ elim (cases_lt i k) [
      | inl before ↦ ap (λ (b : ℕ). b == 1) (bit_at_cat_low byte k 0 i before ∙ bit_at-zero i) ∙ sym (ap (λ (t : Bool). t && has byte (i - k)) (lt-leb k i before))
      | inr after ↦ ap (λ (b : ℕ). b == 1) (bit_at_cat_high byte k 0 i (pow_pos k) after) ∙ sym (ap (λ (t : Bool). t && has byte (i - k)) (le-leb k i after))
    ]

pub has_or : (a b i : ℕ) → has (bit_or a b) i ≡ (has a i || has b i)
has_or a b i = grind (arith, common_steps, bit_at_or, bit_at-lt)

pub has_and : (a b i : ℕ) → has (bit_and a b) i ≡ (has a i && has b i)
has_and a b i = grind (arith, common_steps, bit_at_and, bit_at-lt)

pub has_not : (b i : ℕ) → b < 2 ^ 64 → i < 64 → has (bit_not w64 b) i ≡ not (has b i)
has_not b i small inside = grind (arith, common_steps, bit_at_not w64, bit_at-lt)

pub has-zero : (i : ℕ) → has 0 i ≡ false
has-zero i = rw (bit_at-zero i) refl

pub has_past : (x i : ℕ) → x < 2 ^ 64 → 64 ≤ i → has x i ≡ false
has_past x i small past = rw (bit_at_above x 64 i small past) refl

pub has-ones_below : (n i : ℕ) → has (ones_below n) i ≡ nat_lt i n
has-ones_below n i = grind (arith, common_steps, cases_lt, bit_at_ones, bit_at_ones_above)

pub has-shr : (x k i : ℕ) → has (x / 2 ^ k) i ≡ has x (k + i)
has-shr x k i = ap (λ (y : ℕ). y % 2 == 1) (shr-shr x k i)

same_bit : (a b : ℕ) → a < 2 → b < 2 → (a == 1) ≡ (b == 1) → a ≡ b
same_bit a b small little same = search rules

-- words with the same bits are one
pub same_word : (x y : ℕ) → x < 2 ^ 64 → y < 2 ^ 64 → ((i : ℕ) → i < 64 → has x i ≡ has y i) → x ≡ y
same_word x y small little same = same_from_bits_below 64 x y small little (λ i below. same_bit (bit_at x i) (bit_at y i) (bit_at-lt x i) (bit_at-lt y i) (same i below))

-- ---- one bit put in its place

pub has-set_same : (x k : ℕ) → k < 64 → has (bit_or x (1 * 2 ^ k % 2 ^ 64)) k ≡ true
has-set_same x k inside = rw (bit_at_set_same w64 x k inside) refl

pub has-set_other : (x k i : ℕ) → k < 64 → i ≢ k → has (bit_or x (1 * 2 ^ k % 2 ^ 64)) i ≡ has x i
has-set_other x k i inside other = rw (bit_at_set_other w64 x k inside i other) refl

pub has-clear_same : (x k : ℕ) → k < 64 → has (bit_and x (bit_not w64 (1 * 2 ^ k % 2 ^ 64))) k ≡ false
has-clear_same x k inside = rw (bit_at_clear_same w64 x k inside) refl

pub has-clear_other : (x k i : ℕ) → k < 64 → i < 64 → i ≢ k → has (bit_and x (bit_not w64 (1 * 2 ^ k % 2 ^ 64))) i ≡ has x i
has-clear_other x k i inside here other = rw (bit_at_clear_other w64 x k inside i here other) refl

-- ---- the first 1 from a place on

pub none_from : (x k : ℕ) → x / 2 ^ k ≡ 0 → HasNoNext (has x) k
none_from x k none i past one =
    let sum : k + (i - k) ≡ i = omega arith in
    let e : has x i ≡ false = ap (λ (j : ℕ). has x j) (sym sum) ∙ (sym (has-shr x k (i - k)) ∙ (ap (λ (y : ℕ). has y (i - k)) none ∙ has-zero (i - k))) in
    true_false (sym one ∙ e)

pub first_from_place : (x k : ℕ) → x < 2 ^ 64 → k < 64 → 0 < x / 2 ^ k
    → (k + trailing_zeros w64 (x / 2 ^ k) < 64) × IsNext (has x) k (k + trailing_zeros w64 (x / 2 ^ k))
first_from_place x k small inside some =
    let least : ℕ = trailing_zeros w64 (x / 2 ^ k) in
    let fits : x / 2 ^ k < 2 ^ 64 = omega (arith, shr_le x k) in
    let found : (least < 64) × (bit_at (x / 2 ^ k) least ≡ 1) × ((i : ℕ) → i < least → bit_at (x / 2 ^ k) i ≡ 0) = bit_at-trailing_zeros w64 (x / 2 ^ k) some fits in
    let here : has x (k + least) ≡ true = sym (has-shr x k least) ∙ eq-eqb (bit_at (x / 2 ^ k) least) 1 found.1 in
    let next : (i : ℕ) → k ≤ i → has x i ≡ true → k + least ≤ i =
    λ i past one. elim (cases_lt (i - k) least) [
      | inl before ↦
          let sum : k + (i - k) ≡ i = omega arith in
          let none : has x i ≡ false = ap (λ (j : ℕ). has x j) (sym sum) ∙ (sym (has-shr x k (i - k)) ∙ ap (λ (b : ℕ). b == 1) (found.2 (i - k) before)) in
          absurd (true_false (sym one ∙ none))
      | inr after ↦ omega arith
    ] in
    let within : k + least < 64 = elim (cases_lt (k + least) 64) [
      | inl below ↦ below
      | inr past ↦ absurd (true_false (sym here ∙ has_past x (k + least) small past))
    ] in
    (within, record { not_below = omega arith; passes = here; first = next })

-- ---- parts of words

pub has-part : (first past w i : ℕ) → i < 64
    → has (bit_and (ones_below (min (past - w * 64) 64)) (bit_not w64 (ones_below (min (first - w * 64) 64)))) i ≡ (nat_le first (w * 64 + i) && nat_lt (w * 64 + i) past)
has-part first past w i inside =
    let e : ℕ = min (past - w * 64) 64 in
    let b : ℕ = min (first - w * 64) 64 in
    let fits : ones_below b < 2 ^ 64 = ones_fit b (omega arith) in
    has_and (ones_below e) (bit_not w64 (ones_below b)) i
    ∙ (ap (λ (t : Bool). t && has (bit_not w64 (ones_below b)) i) (has-ones_below e i)
    ∙ (ap (λ (t : Bool). nat_lt i e && t) (has_not (ones_below b) i fits inside ∙ ap not (has-ones_below b i))
    ∙ part_of_place first past w i inside))

pub has-part_past : (e x i : ℕ) → e ≤ 64 → 64 ≤ i → has (bit_and (ones_below e) x) i ≡ false
has-part_past e x i small past = grind (arith, common_steps, has_and, has-ones_below)

pub has-byte : (x place i : ℕ) → i < 8 → has (bit_and (x / 2 ^ (place * 8)) 255) i ≡ has x (place * 8 + i)
has-byte x place i inside = grind (arith, common_steps, has_and, has-ones_below 8 i, has-shr)

-- a byte put in its place
pub has-with_byte : (x byte p i : ℕ) → byte < 256 → p < 8 → i < 64 → has (bit_or x (byte * 2 ^ (p * 8) % 2 ^ 64)) i ≡ (has x i || (nat_le (p * 8) i && has byte (i - p * 8)))
has-with_byte x byte p i small inside here = has_or x (byte * 2 ^ (p * 8) % 2 ^ 64) i ∙ ap (λ (b : Bool). has x i || b) (has-shifted byte p i small inside here)
