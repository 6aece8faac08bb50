-- Sets that words of 64 bits spell.
use Rattle.std.proofs.Common.{◌≡◌, ◌≢◌, ℕ, ◌*◌, ◌/◌, ◌%◌, ◌^◌, ◌<◌, ◌≤◌, Bool, true, false, not, ◌&&◌, ◌||◌, List, length, get_or, set, replicate, inl, inr, refl, sym, ap, ◌∙◌, arith}
use Rattle.std.specs.Prelude.{◌==◌, bit_or, bit_and}
use Rattle.std.specs.Int.{bit_at, bit_not, w64}
use Rattle.std.proofs.lemmas.Grind.{common_steps}
use Rattle.std.proofs.lemmas.Nat.Bits.{bit_at-zero, bit_at_set_same, bit_at_set_other, bit_at_clear_same, bit_at_clear_other}
use Rattle.std.proofs.lemmas.List.{length-replicate, get_or-set_same, get_or-set_other}
use Rattle.std.proofs.lemmas.Bool.{cases_lt, cases_eq, eq-eqb, ne_eqb}
use Rattle.bitmap_model.specs.Granules.{is_in, set_of}
use Rattle.bitmap_model.proofs.Sets.{is_in-set_of, length-set_of, set_of-from, set_of-same}
use Rattle.cluster_pool.specs.Sets.{is_in_words, with_member, without_member}

-- ---- sets of a length

pub past_set : (s : List Bool) (k : ℕ) → length s ≤ k → is_in s k ≡ false
past_set s k past = grind (arith, common_steps)

pub is_in-set_of_any : (n : ℕ) (test : ℕ → Bool) (k : ℕ) → n ≤ k → is_in (set_of n test) k ≡ false
is_in-set_of_any n test k past = past_set (set_of n test) k (omega (arith, length-set_of n test))

pub length-with : (s : List Bool) (k : ℕ) → length (with_member s k) ≡ length s
unfolding with_member
length-with s k = length-set_of (length s) _

pub length-without : (s : List Bool) (k : ℕ) → length (without_member s k) ≡ length s
unfolding without_member
length-without s k = length-set_of (length s) _

pub is_in-with : (s : List Bool) (k : ℕ) → k < length s → is_in (with_member s k) k ≡ true
unfolding with_member
is_in-with s k inside = grind (arith, common_steps, is_in-set_of)

pub is_in-with_other : (s : List Bool) (k j : ℕ) → j ≢ k → is_in (with_member s k) j ≡ is_in s j
unfolding with_member
is_in-with_other s k j other = elim (cases_lt j (length s)) [
  | inl inside ↦ grind (arith, common_steps, is_in-set_of)
  | inr past ↦ is_in-set_of_any (length s) _ j past ∙ sym (past_set s j past)
]

pub is_in-with_member : (s : List Bool) (k j : ℕ) → k < length s → is_in (with_member s k) j ≡ ((j == k) || is_in s j)
is_in-with_member s k j inside = elim (cases_eq j k) [
  | inl same ↦ ap (is_in (with_member s k)) same ∙ is_in-with s k inside ∙ sym (ap (λ (b : Bool). b || is_in s j) (eq-eqb j k same))
  | inr other ↦ is_in-with_other s k j other ∙ sym (ap (λ (b : Bool). b || is_in s j) (ne_eqb j k other))
]

pub is_in-without : (s : List Bool) (k : ℕ) → is_in (without_member s k) k ≡ false
unfolding without_member
is_in-without s k = elim (cases_lt k (length s)) [
  | inl inside ↦ grind (arith, common_steps, is_in-set_of)
  | inr past ↦ is_in-set_of_any (length s) _ k past
]

pub is_in-without_other : (s : List Bool) (k j : ℕ) → j ≢ k → is_in (without_member s k) j ≡ is_in s j
unfolding without_member
is_in-without_other s k j other = elim (cases_lt j (length s)) [
  | inl inside ↦ grind (arith, common_steps, is_in-set_of)
  | inr past ↦ is_in-set_of_any (length s) _ j past ∙ sym (past_set s j past)
]

-- ---- words

-- words that are all 0 spell the set of no number
pub none_spelled : (n : ℕ) (words : List ℕ) → ((i : ℕ) → get_or words i 0 ≡ 0) → set_of n (is_in_words words) ≡ replicate n false
none_spelled n words zeros =
    sym (set_of-from n (is_in_words words) (replicate n false) (length-replicate n false)
    (λ k h. let none : is_in_words words k ≡ false = ap (λ (w : ℕ). bit_at w (k % 64) == 1) (zeros (k / 64)) ∙ ap (λ (b : ℕ). b == 1) (bit_at-zero (k % 64)) in
    grind (arith, common_steps)))

-- the word of one number is changed: in the others nothing changes, and in it the bit of that number alone
spelled_by : (words : List ℕ) (n k w : ℕ) (test : ℕ → Bool) → k < n → n ≤ 64 * length words
    → (bit_at w (k % 64) == 1) ≡ test k
    → ((j : ℕ) → j ≢ k → test j ≡ is_in_words words j)
    → ((i : ℕ) → i < 64 → i ≢ k % 64 → bit_at w i ≡ bit_at (get_or words (k / 64) 0) i)
    → (j : ℕ) → is_in_words (set words (k / 64) w) j ≡ test j
spelled_by words n k w test inside fits here others bits j = elim (cases_eq j k) [
  | inl at ↦
      let word : get_or (set words (k / 64) w) (k / 64) 0 ≡ w = get_or-set_same words (k / 64) w 0 (omega arith) in
      let e : is_in_words (set words (k / 64) w) k ≡ test k = ap (λ (x : ℕ). bit_at x (k % 64) == 1) word ∙ here in
      ap (λ (x : ℕ). is_in_words (set words (k / 64) w) x) at ∙ (e ∙ ap test (sym at))
  | inr other ↦ elim (cases_eq (j / 64) (k / 64)) [
    | inl same ↦
        let place : j % 64 ≢ k % 64 = λ e. other (omega arith) in
        let word : get_or (set words (k / 64) w) (j / 64) 0 ≡ w = ap (λ (x : ℕ). get_or (set words (k / 64) w) x 0) same ∙ get_or-set_same words (k / 64) w 0 (omega arith) in
        let bit : bit_at w (j % 64) ≡ bit_at (get_or words (j / 64) 0) (j % 64) =
        bits (j % 64) (omega arith) place ∙ ap (λ (x : ℕ). bit_at (get_or words x 0) (j % 64)) (sym same) in
        ap (λ (x : ℕ). bit_at x (j % 64) == 1) word ∙ (ap (λ (b : ℕ). b == 1) bit ∙ sym (others j other))
    | inr apart ↦ ap (λ (x : ℕ). bit_at x (j % 64) == 1) (get_or-set_other words (k / 64) (j / 64) w 0 apart) ∙ sym (others j other)
  ]
]

pub spelled_with : (words : List ℕ) (n k : ℕ) → k < n → n ≤ 64 * length words
    → set_of n (is_in_words (set words (k / 64) (bit_or (get_or words (k / 64) 0) (1 * 2 ^ (k % 64) % 2 ^ 64)))) ≡ with_member (set_of n (is_in_words words)) k
unfolding with_member
spelled_with words n k inside fits =
    let old : List Bool = set_of n (is_in_words words) in
    let place : k % 64 < 64 = omega arith in
    let long : length old ≡ n = length-set_of n (is_in_words words) in
    let word : ℕ = get_or words (k / 64) 0 in
    let new : List ℕ = set words (k / 64) (bit_or word (1 * 2 ^ (k % 64) % 2 ^ 64)) in
    let test : ℕ → Bool = λ j. (j == k) || is_in_words words j in
    let here : test k ≡ true = ap (λ (b : Bool). b || is_in_words words k) (eq-eqb k k refl) in
    let bit : (bit_at (bit_or word (1 * 2 ^ (k % 64) % 2 ^ 64)) (k % 64) == 1) ≡ true = ap (λ (b : ℕ). b == 1) (bit_at_set_same w64 word (k % 64) place) in
    let spells : (j : ℕ) → is_in_words new j ≡ test j =
    spelled_by words n k _ test inside fits (bit ∙ sym here) (λ j other. ap (λ (b : Bool). b || is_in_words words j) (ne_eqb j k other))
    (λ i _ other. bit_at_set_other w64 word (k % 64) place i other) in
    set_of-same n (is_in_words new) (λ j. (j == k) || is_in old j)
    (λ j below. spells j ∙ ap (λ (b : Bool). (j == k) || b) (sym (is_in-set_of n (is_in_words words) j below)))
    ∙ ap (λ (m : ℕ). set_of m (λ j. (j == k) || is_in old j)) (sym long)

pub spelled_without : (words : List ℕ) (n k : ℕ) → k < n → n ≤ 64 * length words
    → set_of n (is_in_words (set words (k / 64) (bit_and (get_or words (k / 64) 0) (bit_not w64 (1 * 2 ^ (k % 64) % 2 ^ 64))))) ≡ without_member (set_of n (is_in_words words)) k
unfolding without_member
spelled_without words n k inside fits =
    let old : List Bool = set_of n (is_in_words words) in
    let place : k % 64 < 64 = omega arith in
    let long : length old ≡ n = length-set_of n (is_in_words words) in
    let word : ℕ = get_or words (k / 64) 0 in
    let cut : ℕ = bit_and word (bit_not w64 (1 * 2 ^ (k % 64) % 2 ^ 64)) in
    let new : List ℕ = set words (k / 64) cut in
    let test : ℕ → Bool = λ j. not (j == k) && is_in_words words j in
    let here : test k ≡ false = ap (λ (b : Bool). not b && is_in_words words k) (eq-eqb k k refl) in
    let bit : (bit_at cut (k % 64) == 1) ≡ false = ap (λ (b : ℕ). b == 1) (bit_at_clear_same w64 word (k % 64) place) in
    let spells : (j : ℕ) → is_in_words new j ≡ test j =
    spelled_by words n k cut test inside fits (bit ∙ sym here) (λ j other. ap (λ (b : Bool). not b && is_in_words words j) (ne_eqb j k other))
    (λ i small other. bit_at_clear_other w64 word (k % 64) place i small other) in
    set_of-same n (is_in_words new) (λ j. not (j == k) && is_in old j)
    (λ j below. spells j ∙ ap (λ (b : Bool). not (j == k) && b) (sym (is_in-set_of n (is_in_words words) j below)))
    ∙ ap (λ (m : ℕ). set_of m (λ j. not (j == k) && is_in old j)) (sym long)
