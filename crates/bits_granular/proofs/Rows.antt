-- Rows of bits in words.
use Rattle.std.proofs.Common.{◌≡◌, ◌≢◌, ℕ, zero, suc, ◌+◌, ◌*◌, ◌/◌, ◌%◌, ◌^◌, ◌<◌, ◌≤◌, Bool, true, false, not, List, [], ◌∷◌, length, get_or, set, map, replicate, inl, inr, refl, sym, ap, subst, ◌∙◌, arith, get_or-set_same, get_or-set_other}
use Rattle.std.specs.Prelude.{◌==◌}
use Rattle.std.proofs.lemmas.Nat.{mod_below, div-add-mod'}
use Rattle.std.proofs.lemmas.Bool.{cases_lt, cases_eq}
use Rattle.std.proofs.lemmas.List.{get_or_past, map-set, length-set, length-replicate, get_or_read}
use Rattle.std.proofs.lemmas.List.Elements.{All-set, All-replicate}
use Rattle.std.proofs.Math.Seq.{map-set_same}
use Rattle.std.proofs.Math.Bool.{beq}
use Rattle.std.proofs.lemmas.Grind.{common_steps}
use Rattle.bitmap_model.specs.Granules.{set_of, is_in}
use Rattle.bitmap_model.proofs.Sets.{is_in-set_of, length-set_of, set_of-from}
use Rattle.bits_granular.specs.Words.{has, has_bit, words_for, BitRow, bits_of, IsRow, IsLayer, has_ones, FitsWord, with_word}
use Rattle.bits_granular.proofs.OneWord.{has-zero, has_past}

-- bits past the last word
pub has_bit-past : (words : List ℕ) (k : ℕ) → length words * 64 ≤ k → has_bit words k ≡ false
has_bit-past words k past = grind (arith, common_steps, get_or_past, has-zero)

-- whatever bits there are, where none stands past the last
pub is_in-bits : (count : ℕ) (words : List ℕ) (k : ℕ) → ((j : ℕ) → count ≤ j → has_bit words j ≡ false) → is_in (set_of count (has_bit words)) k ≡ has_bit words k
is_in-bits count words k tail = grind (arith, common_steps, cases_lt k count, is_in-set_of, get_or_past, length-set_of)

pub is_in-row : (r : BitRow) (k : ℕ) → IsRow r → is_in (bits_of r) k ≡ has_bit r.words k
is_in-row r k row = is_in-bits r.count r.words k row.tail

pub length-bits : (r : BitRow) → length (bits_of r) ≡ r.count
length-bits r = length-set_of r.count (has_bit r.words)

pub has_bit-set_same : (words : List ℕ) (w x k : ℕ) → w < length words → k / 64 ≡ w → has_bit (set words w x) k ≡ has x (k % 64)
has_bit-set_same words w x k inside here = rw here (rw (get_or-set_same words w x 0 inside) refl)

pub has_bit-set_other : (words : List ℕ) (w x k : ℕ) → (k / 64 ≡ w → ⊥) → has_bit (set words w x) k ≡ has_bit words k
has_bit-set_other words w x k other = rw (get_or-set_other words w (k / 64) x 0 other) refl

set_tail : (count : ℕ) (words : List ℕ) (w x : ℕ) → w < length words → FitsWord count w x → ((k : ℕ) → count ≤ k → has_bit words k ≡ false)
    → (k : ℕ) → count ≤ k → has_bit (set words w x) k ≡ false
set_tail count words w x inside fits tail k past = elim (cases_eq (k / 64) w) [
  | inl here ↦ has_bit-set_same words w x k inside here ∙ fits (k % 64) (mod_below k 64 (omega arith)) (omega (arith, here, div-add-mod' k 64))
  | inr other ↦ has_bit-set_other words w x k other ∙ tail k past
]

pub row-set : (r : BitRow) (w x : ℕ) → IsRow r → w < length r.words → x < 2 ^ 64 → FitsWord r.count w x → IsRow (with_word r w x)
row-set r w x row inside small fits = record {
  few = row.few;
  whole = length-set r.words w x ∙ row.whole;
  small = All-set (λ y. y < 2 ^ 64) r.words w x small row.small;
  tail = set_tail r.count r.words w x inside fits row.tail;
}

pub layer-set : (r : BitRow) (above : List Bool) (w x : ℕ) → IsLayer r above → w < length r.words → x < 2 ^ 64 → FitsWord r.count w x
    → IsLayer (with_word r w x) (set above w (has_ones x))
layer-set r above w x layer inside small fits = record {
  row = row-set r w x layer.row inside small fits;
  summary = ap (λ (xs : List Bool). set xs w (has_ones x)) layer.summary ∙ sym (map-set has_ones r.words w x);
}

pub layer-same : (r : BitRow) (above : List Bool) (w x : ℕ) → IsLayer r above → w < length r.words → x < 2 ^ 64 → FitsWord r.count w x
    → has_ones x ≡ has_ones (get_or r.words w 0) → IsLayer (with_word r w x) above
layer-same r above w x layer inside small fits same = record {
  row = row-set r w x layer.row inside small fits;
  summary = layer.summary ∙ sym (map-set_same has_ones r.words w x 0 same);
}

-- one bit put in its place
pub put_in_bits : (count : ℕ) (words : List ℕ) (at x : ℕ) (v : Bool) → at < count → at / 64 < length words → has x (at % 64) ≡ v
    → ((i : ℕ) → i < 64 → i ≢ at % 64 → has x i ≡ has (get_or words (at / 64) 0) i)
    → set_of count (has_bit (set words (at / 64) x)) ≡ set (set_of count (has_bit words)) at v
put_in_bits count words at x v inside there here others =
    sym (set_of-from count (has_bit (set words (at / 64) x)) (set (set_of count (has_bit words)) at v)
    (length-set (set_of count (has_bit words)) at v ∙ length-set_of count (has_bit words))
    (λ k below. elim (cases_eq k at) [
      | inl same ↦ ap (λ (i : ℕ). is_in (set (set_of count (has_bit words)) at v) i) same
          ∙ (get_or-set_same (set_of count (has_bit words)) at v false (omega (arith, length-set_of count (has_bit words)))
          ∙ (sym here ∙ (sym (has_bit-set_same words (at / 64) x at there refl) ∙ ap (λ (i : ℕ). has_bit (set words (at / 64) x) i) (sym same))))
      | inr apart ↦ get_or-set_other (set_of count (has_bit words)) at k v false apart
          ∙ (is_in-set_of count (has_bit words) k below
          ∙ (elim (cases_eq (k / 64) (at / 64)) [
            | inl word ↦ ap (λ (w : ℕ). has (get_or words w 0) (k % 64)) word
                ∙ (sym (others (k % 64) (mod_below k 64 (omega arith)) (λ (e : k % 64 ≡ at % 64). apart (omega (arith, word, e, div-add-mod' k 64, div-add-mod' at 64))))
                ∙ sym (has_bit-set_same words (at / 64) x k there word))
            | inr elsewhere ↦ sym (has_bit-set_other words (at / 64) x k elsewhere)
          ]))
    ]))

-- ---- rows of zeros

pub has_bit-zeros : (n k : ℕ) → has_bit (replicate n 0) k ≡ false
has_bit-zeros n k = grind (arith, common_steps, cases_lt (k / 64) n, get_or_past, has-zero)

pub bits-zeros : (count n : ℕ) → set_of count (has_bit (replicate n 0)) ≡ replicate count false
bits-zeros count n = sym (set_of-from count (has_bit (replicate n 0)) (replicate count false) (length-replicate count false) (λ k below. grind (arith, common_steps, has_bit-zeros n k)))

zeros-ones : (n : ℕ) → map has_ones (replicate n 0) ≡ replicate n false
zeros-ones zero = refl
zeros-ones (suc n) = ap (λ (xs : List Bool). false ∷ xs) (zeros-ones n)

pub layer-zeros : (count : ℕ) (above : List Bool) → count ≤ 2 ^ 27 → above ≡ replicate (words_for count) false
    → IsLayer (record { count = count; words = replicate (words_for count) 0 }) above
layer-zeros count above few e = record {
  row = record { few = few; whole = length-replicate (words_for count) 0; small = All-replicate (λ x. x < 2 ^ 64) (words_for count) 0 (omega arith); tail = λ k _. has_bit-zeros (words_for count) k };
  summary = e ∙ sym (zeros-ones (words_for count));
}

-- ---- a row of one word

pub top_tail : (count word : ℕ) → count ≤ 64 → FitsWord count 0 word → (k : ℕ) → count ≤ k → has_bit (word ∷ []) k ≡ false
top_tail count word few fits k past = elim (cases_lt k 64) [
  | inl inside ↦
      let q : k / 64 ≡ 0 = omega arith in
      let r : k % 64 ≡ k = omega arith in
      ap (λ (w : ℕ). has (get_or (word ∷ []) w 0) (k % 64)) q ∙ (ap (λ (i : ℕ). has word i) r ∙ fits k inside (omega (arith, past)))
  | inr after ↦ has_bit-past (word ∷ []) k after
]

pub is_in-top : (count word k : ℕ) → count ≤ 64 → word < 2 ^ 64 → FitsWord count 0 word → is_in (bits_of (record { count = count; words = word ∷ [] })) k ≡ has word k
is_in-top count word k few small fits =
    is_in-bits count (word ∷ []) k (top_tail count word few fits)
    ∙ elim (cases_lt k 64) [
      | inl inside ↦
          let q : k / 64 ≡ 0 = omega arith in
          let r : k % 64 ≡ k = omega arith in
          ap (λ (w : ℕ). has (get_or (word ∷ []) w 0) (k % 64)) q ∙ ap (λ (i : ℕ). has word i) r
      | inr after ↦ has_bit-past (word ∷ []) k after ∙ sym (has_past word k small after)
    ]

pub top_put : (count word at x : ℕ) (v : Bool) → at < count → count ≤ 64 → has x at ≡ v → ((i : ℕ) → i < 64 → i ≢ at → has x i ≡ has word i)
    → bits_of (record { count = count; words = x ∷ [] }) ≡ set (bits_of (record { count = count; words = word ∷ [] })) at v
top_put count word at x v inside few same others =
    let q : at / 64 ≡ 0 = omega arith in
    let r : at % 64 ≡ at = omega arith in
    sym (ap (λ (w : ℕ). set_of count (has_bit (set (word ∷ []) w x))) q)
    ∙ put_in_bits count (word ∷ []) at x v inside (omega (arith, q)) (ap (λ (i : ℕ). has x i) r ∙ same)
    (λ i small other. others i small (λ (e : i ≡ at). other (e ∙ sym r)) ∙ ap (λ (w : ℕ). has (get_or (word ∷ []) w 0) i) (sym q))

-- ---- a word put in a layer, where the layer above is told only what changed

one_answer : (a b : Bool) → not (beq a b) ≡ false → a ≡ b
one_answer true true e = refl
one_answer false false e = refl
one_answer true false e = e
one_answer false true e = sym e

has_ones-not : (x : ℕ) → not (x == 0) ≡ has_ones x
has_ones-not x = grind (arith, common_steps)

pub layer-put : (r : BitRow) (above new : List Bool) (w x : ℕ) → IsLayer r above → w < length r.words → x < 2 ^ 64 → FitsWord r.count w x → new ≡ set above w (not (x == 0))
    → IsLayer (with_word r w x) new
layer-put r above new w x l inside small fits is =
    subst (λ (bits : List Bool). IsLayer (with_word r w x) bits) (sym (is ∙ ap (λ (b : Bool). set above w b) (has_ones-not x))) (layer-set r above w x l inside small fits)

pub layer-keep : (r : BitRow) (above : List Bool) (w x old : ℕ) → IsLayer r above → w < length r.words → x < 2 ^ 64 → FitsWord r.count w x → old ≡ get_or r.words w old
    → not (beq (x == 0) (old == 0)) ≡ false → IsLayer (with_word r w x) above
layer-keep r above w x old l inside small fits read same =
    layer-same r above w x l inside small fits
    (sym (has_ones-not x) ∙ (ap not (one_answer (x == 0) (old == 0) same ∙ ap (λ (y : ℕ). y == 0) (get_or_read r.words w old inside read 0)) ∙ has_ones-not (get_or r.words w 0)))

-- ---- places of bits in words

pub place_inside : (r : BitRow) (at : ℕ) → IsRow r → at < r.count → at / 64 < length r.words
place_inside r at row inside = omega (arith, row.whole)

pub word_tail : (r : BitRow) (w i : ℕ) → IsRow r → i < 64 → r.count ≤ w * 64 + i → has (get_or r.words w 0) i ≡ false
word_tail r w i row small past =
    let q : (w * 64 + i) / 64 ≡ w = omega arith in
    let m : (w * 64 + i) % 64 ≡ i = omega arith in
    sym (ap (λ (v : ℕ). has (get_or r.words v 0) ((w * 64 + i) % 64)) q ∙ ap (λ (j : ℕ). has (get_or r.words w 0) j) m) ∙ row.tail (w * 64 + i) past

-- a word with one bit changed fits where the word did
pub bit_fits : (r : BitRow) (at x : ℕ) → IsRow r → at < r.count → ((i : ℕ) → i < 64 → i ≢ at % 64 → has x i ≡ has (get_or r.words (at / 64) 0) i)
    → FitsWord r.count (at / 64) x
bit_fits r at x row inside others i small past =
    others i small (λ (e : i ≡ at % 64). omega (arith, e, div-add-mod' at 64, inside, past)) ∙ word_tail r (at / 64) i row small past
