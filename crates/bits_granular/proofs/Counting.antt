-- How many bits of a row are 1.
use Rattle.std.proofs.Common.{◌≡◌, ℕ, suc, zero, ◌+◌, ◌-◌, ◌*◌, ◌/◌, ◌%◌, ◌^◌, ◌<◌, ◌≤◌, Bool, false, List, [], ◌∷◌, length, get_or, map, inl, inr, refl, sym, ap, ◌∙◌, cond, arith}
use Rattle.std.specs.Prelude.{count_ones, All}
use Rattle.std.specs.Int.{bit_at}
use Rattle.std.specs.Simd.Lanes.{mask_l}
use Rattle.std.specs.List.{sum_by, count_by, range_with_len}
use Rattle.std.proofs.lemmas.Simd.{ones-mask_l, bit_mask_l}
use Rattle.std.proofs.lemmas.Nat.Bits.{same_from_bits, bit_at_above, bit_at-lt}
use Rattle.std.proofs.lemmas.Bool.{cases_lt}
use Rattle.std.proofs.lemmas.List.FromFn.{get_or-map-range_with_len, length-map-range_with_len}
use Rattle.std.proofs.lemmas.List.{get_or_past}
use Rattle.std.proofs.lemmas.List.Sums.{sum_by-cons}
use Rattle.std.proofs.lemmas.List.Elements.{All-head, All-tail}
use Rattle.std.proofs.lemmas.Grind.{common_steps}
use Rattle.bitmap_model.specs.Granules.{set_of, count_of}
use Rattle.bits_granular.specs.Words.{has, has_bit, BitRow, bits_of, IsRow}

-- how many of n numbers from a on pass the test
abbrev passing : (ℕ → Bool) → ℕ → ℕ → ℕ
passing f a zero = 0
passing f a (suc n) = cond (f a) 1 0 + passing f (a + 1) n

passing-map : (f : ℕ → Bool) (a n : ℕ) → count_by (λ d. d) (map f (range_with_len a n)) ≡ passing f a n
passing-map f a zero = refl
passing-map f a (suc n) = sum_by-cons (λ d. cond d 1 0) (f a) (map f (range_with_len (a + 1) n)) ∙ ap (λ (m : ℕ). cond (f a) 1 0 + m) (passing-map f (a + 1) n)

passing-count : (f : ℕ → Bool) (a n : ℕ) → count_by f (range_with_len a n) ≡ passing f a n
passing-count f a zero = refl
passing-count f a (suc n) = sum_by-cons (λ d. cond (f d) 1 0) a (range_with_len (a + 1) n) ∙ ap (λ (m : ℕ). cond (f a) 1 0 + m) (passing-count f (a + 1) n)

added : (c x p q : ℕ) → x ≡ p + q → c + x ≡ (c + p) + q
added c x p q e = omega arith

passing-more : (f : ℕ → Bool) (a n m : ℕ) → passing f a (n + m) ≡ passing f a n + passing f (a + n) m
passing-more f a zero m = grind (arith, common_steps)
passing-more f a (suc n) m =
    let size : suc n + m ≡ suc (n + m) = omega arith in
    let start : a + 1 + n ≡ a + suc n = omega arith in
    let rest : passing f (a + 1) (n + m) ≡ passing f (a + 1) n + passing f (a + suc n) m =
    passing-more f (a + 1) n m ∙ ap (λ (k : ℕ). passing f (a + 1) n + passing f k m) start in
    ap (λ (k : ℕ). passing f a k) size ∙ added (cond (f a) 1 0) (passing f (a + 1) (n + m)) (passing f (a + 1) n) (passing f (a + suc n) m) rest

passing-none : (f : ℕ → Bool) (a n : ℕ) → ((k : ℕ) → a ≤ k → f k ≡ false) → passing f a n ≡ 0
passing-none f a zero none = refl
passing-none f a (suc n) none = grind (arith, common_steps, none a, passing-none f (a + 1) n)

passing-same : (f g : ℕ → Bool) (a b n : ℕ) → ((i : ℕ) → i < n → f (a + i) ≡ g (b + i)) → passing f a n ≡ passing g b n
passing-same f g a b zero same = refl
passing-same f g a b (suc n) same =
    let left : (i : ℕ) → a + suc i ≡ a + 1 + i = λ i. omega arith in
    let right : (i : ℕ) → b + suc i ≡ b + 1 + i = λ i. omega arith in
    let begin : a + 0 ≡ a = omega arith in
    let start : b + 0 ≡ b = omega arith in
    let first : f a ≡ g b = sym (ap f begin) ∙ (same 0 (omega arith) ∙ ap g start) in
    let rest : passing f (a + 1) n ≡ passing g (b + 1) n =
    passing-same f g (a + 1) (b + 1) n (λ i inside. sym (ap f (left i)) ∙ (same (suc i) (omega arith) ∙ ap g (right i))) in
    ap (λ (t : Bool). cond t 1 0 + passing f (a + 1) n) first ∙ ap (λ (m : ℕ). cond (g b) 1 0 + m) rest

bit_again : (x i : ℕ) → bit_at x i ≡ cond (has x i) 1 0
bit_again x i = grind (arith, common_steps, bit_at-lt)

-- a word is made of its bits
word_bits : (x : ℕ) → x < 2 ^ 64 → x ≡ mask_l (map (has x) (range_with_len 0 64))
word_bits x small = same_from_bits x (mask_l (map (has x) (range_with_len 0 64)))
    (λ i. elim (cases_lt i 64) [
      | inl inside ↦ bit_again x i ∙ sym (bit_mask_l (map (has x) (range_with_len 0 64)) i ∙ ap (λ (b : Bool). cond b 1 0) (get_or-map-range_with_len (has x) 0 64 i i false inside (omega arith)))
      | inr past ↦ bit_at_above x 64 i small past ∙ sym (bit_mask_l (map (has x) (range_with_len 0 64)) i ∙ ap (λ (b : Bool). cond b 1 0)
          (get_or_past (map (has x) (range_with_len 0 64)) i false (omega (arith, length-map-range_with_len (has x) 0 64))))
    ])

word_count : (x : ℕ) → x < 2 ^ 64 → passing (has x) 0 64 ≡ count_ones x
word_count x small = sym (passing-count (has x) 0 64) ∙ (sym (ones-mask_l (has x) (range_with_len 0 64)) ∙ ap (λ (y : ℕ). count_ones y) (sym (word_bits x small)))

behind : (a i : ℕ) → a + 64 + i - a ≡ 64 + i
behind a i = omega arith

ahead : (a i : ℕ) → a + 64 + i - (a + 64) ≡ i
ahead a i = omega arith

has_bit-later : (x : ℕ) (words : List ℕ) (i : ℕ) → has_bit (x ∷ words) (64 + i) ≡ has_bit words i
has_bit-later x words i =
    let q : (64 + i) / 64 ≡ suc (i / 64) = omega arith in
    let r : (64 + i) % 64 ≡ i % 64 = omega arith in
    ap (λ (w : ℕ). has (get_or (x ∷ words) w 0) ((64 + i) % 64)) q ∙ ap (λ (j : ℕ). has (get_or words (i / 64) 0) j) r

words_count : (words : List ℕ) (a : ℕ) → All (λ x. x < 2 ^ 64) words → passing (λ k. has_bit words (k - a)) a (length words * 64) ≡ sum_by count_ones words
words_count [] a fits = refl
words_count (x ∷ words) a fits =
    let first : passing (λ k. has_bit (x ∷ words) (k - a)) a 64 ≡ passing (has x) 0 64 =
    passing-same (λ k. has_bit (x ∷ words) (k - a)) (has x) a 0 64 (λ i inside. grind (arith, common_steps)) in
    let rest : passing (λ k. has_bit (x ∷ words) (k - a)) (a + 64) (length words * 64) ≡ passing (λ k. has_bit words (k - (a + 64))) (a + 64) (length words * 64) =
    passing-same (λ k. has_bit (x ∷ words) (k - a)) (λ k. has_bit words (k - (a + 64))) (a + 64) (a + 64) (length words * 64)
    (λ i inside. ap (λ (k : ℕ). has_bit (x ∷ words) k) (behind a i) ∙ (has_bit-later x words i ∙ ap (λ (k : ℕ). has_bit words k) (sym (ahead a i)))) in
    let size : length (x ∷ words) * 64 ≡ 64 + length words * 64 = omega arith in
    ap (λ (n : ℕ). passing (λ k. has_bit (x ∷ words) (k - a)) a n) size
    ∙ (passing-more (λ k. has_bit (x ∷ words) (k - a)) a 64 (length words * 64)
    ∙ (ap (λ (n : ℕ). n + passing (λ k. has_bit (x ∷ words) (k - a)) (a + 64) (length words * 64)) (first ∙ word_count x (All-head (λ y. y < 2 ^ 64) x words fits))
    ∙ (ap (λ (n : ℕ). count_ones x + n) (rest ∙ words_count words (a + 64) (All-tail (λ y. y < 2 ^ 64) x words fits))
    ∙ sym (sum_by-cons count_ones x words))))

same_place : (i : ℕ) → 0 + i ≡ 0 + i - 0
same_place i = omega arith

pub count-bits : (r : BitRow) → IsRow r → count_of (bits_of r) ≡ sum_by count_ones r.words
unfolding set_of
count-bits r row =
    let n : ℕ = length r.words * 64 in
    let enough : r.count + (n - r.count) ≡ n = omega (arith, row.whole) in
    let none : passing (has_bit r.words) (0 + r.count) (n - r.count) ≡ 0 = passing-none (has_bit r.words) (0 + r.count) (n - r.count) (λ k past. row.tail k (omega arith)) in
    passing-map (has_bit r.words) 0 r.count
    ∙ (sym (ap (λ (m : ℕ). passing (has_bit r.words) 0 m) (sym enough) ∙ (passing-more (has_bit r.words) 0 r.count (n - r.count) ∙ omega (arith, none)))
    ∙ (passing-same (has_bit r.words) (λ k. has_bit r.words (k - 0)) 0 0 n (λ i inside. ap (λ (k : ℕ). has_bit r.words k) (same_place i))
    ∙ words_count r.words 0 row.small))
