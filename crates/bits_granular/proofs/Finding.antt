-- The next 1, by way of the words that aren't 0.
use Rattle.std.proofs.Common.{◌≡◌, ℕ, ◌+◌, ◌*◌, ◌/◌, ◌%◌, ◌^◌, ◌<◌, ◌≤◌, Bool, true, false, List, length, get_or, map, inl, inr, refl, sym, ap, ◌∙◌, arith, rules}
use Rattle.std.specs.Prelude.{◌==◌, All}
use Rattle.std.specs.Int.{w64, bit_at, trailing_zeros}
use Rattle.std.proofs.lemmas.Nat.{mod_below, div-add-mod'}
use Rattle.std.proofs.lemmas.Nat.Bits.{bit_at-trailing_zeros}
use Rattle.std.proofs.lemmas.Bool.{cases_lt, cases_eq, eq-eqb, lt-ltb, ltb-true}
use Rattle.std.proofs.lemmas.Grind.{common_steps}
use Rattle.bitmap_model.specs.Granules.{is_in, IsNext, HasNoNext}
use Rattle.bitmap_model.proofs.Sets.{in_length}
use Rattle.std.proofs.lemmas.List.{get_or_past, length-map}
use Rattle.std.proofs.lemmas.List.Elements.{All-get_or}
use Rattle.bits_granular.specs.Words.{has, has_ones, BitRow, bits_of, IsRow, IsLayer}
use Rattle.bits_granular.proofs.Rows.{is_in-row, length-bits}
use Rattle.bits_granular.proofs.OneWord.{has-zero, true_false}

-- the words hold the answers of a test, 64 in each
pub record HoldsTest (test : ℕ → Bool) (word : ℕ → ℕ) : Type 0 where
  pub is : (k : ℕ) → test k ≡ has (word (k / 64)) (k % 64)
  pub fits : (w : ℕ) → word w < 2 ^ 64

parts : (k q i : ℕ) → k ≡ q * 64 + i → i < 64 → (k / 64 ≡ q) × (k % 64 ≡ i)
parts k q i e small = (search rules, search rules)

pub at_part : (test : ℕ → Bool) (word : ℕ → ℕ) (q i : ℕ) → HoldsTest test word → i < 64 → test (q * 64 + i) ≡ has (word q) i
at_part test word q i h small =
    let p : ((q * 64 + i) / 64 ≡ q) × ((q * 64 + i) % 64 ≡ i) = parts (q * 64 + i) q i refl small in
    h.is (q * 64 + i) ∙ (ap (λ (w : ℕ). has (word w) ((q * 64 + i) % 64)) p.0 ∙ ap (λ (j : ℕ). has (word q) j) p.1)

pub word_fits : (words : List ℕ) (w : ℕ) → All (λ x. x < 2 ^ 64) words → get_or words w 0 < 2 ^ 64
word_fits words w fits = elim (cases_lt w (length words)) [
  | inl inside ↦ All-get_or (λ x. x < 2 ^ 64) words w 0 inside fits
  | inr past ↦ let none : get_or words w 0 ≡ 0 = get_or_past words w 0 past in omega (arith, none)
]

-- it stands in the word of the place itself
pub found_here : (test : ℕ → Bool) (word : ℕ → ℕ) (from i : ℕ) → HoldsTest test word → IsNext (has (word (from / 64))) (from % 64) i → i < 64
    → IsNext test from (from / 64 * 64 + i)
found_here test word from i h n small = record {
  not_below = omega (arith, n.not_below, div-add-mod' from 64);
  passes = at_part test word (from / 64) i h small ∙ n.passes;
  first = λ k past one. elim (cases_eq (k / 64) (from / 64)) [
    | inl same ↦
        let there : has (word (from / 64)) (k % 64) ≡ true = ap (λ (w : ℕ). has (word w) (k % 64)) (sym same) ∙ (sym (h.is k) ∙ one) in
        let after : i ≤ k % 64 = n.first (k % 64) (omega (arith, same, div-add-mod' from 64, div-add-mod' k 64)) there in
        omega (arith, same, div-add-mod' k 64)
    | inr other ↦ omega (arith, other, div-add-mod' from 64, div-add-mod' k 64, mod_below from 64, mod_below k 64)
  ];
}

-- a word with a 1 isn't 0
pub some_ones : (test : ℕ → Bool) (word : ℕ → ℕ) (k : ℕ) → HoldsTest test word → test k ≡ true → has_ones (word (k / 64)) ≡ true
some_ones test word k h one = elim (cases_eq (word (k / 64)) 0) [
  | inl none ↦ absurd (true_false (sym one ∙ (h.is k ∙ (ap (λ (x : ℕ). has x (k % 64)) none ∙ has-zero (k % 64)))))
  | inr some ↦ lt-ltb 0 (word (k / 64)) (omega (arith, some))
]

-- it stands in the next word that isn't 0
pub found_above : (test : ℕ → Bool) (word : ℕ → ℕ) (from w : ℕ) → HoldsTest test word → HasNoNext (has (word (from / 64))) (from % 64)
    → IsNext (λ v. has_ones (word v)) (from / 64 + 1) w → (trailing_zeros w64 (word w) < 64) × IsNext test from (w * 64 + trailing_zeros w64 (word w))
found_above test word from w h none n =
    let least : ℕ = trailing_zeros w64 (word w) in
    let some : 0 < word w = ltb-true 0 (word w) n.passes in
    let found : (least < 64) × (bit_at (word w) least ≡ 1) × ((i : ℕ) → i < least → bit_at (word w) i ≡ 0) = bit_at-trailing_zeros w64 (word w) some (h.fits w) in (
      found.0,
      record {
        not_below = omega (arith, n.not_below, div-add-mod' from 64, mod_below from 64);
        passes = at_part test word w least h found.0 ∙ eq-eqb (bit_at (word w) least) 1 found.1;
        first = λ k past one. elim (cases_eq (k / 64) (from / 64)) [
          | inl same ↦
              let there : has (word (from / 64)) (k % 64) ≡ true = ap (λ (v : ℕ). has (word v) (k % 64)) (sym same) ∙ (sym (h.is k) ∙ one) in
              absurd (none (k % 64) (omega (arith, same, div-add-mod' from 64, div-add-mod' k 64)) there)
          | inr other ↦
              let later : w ≤ k / 64 = n.first (k / 64) (omega (arith, other, div-add-mod' from 64, div-add-mod' k 64, mod_below from 64, mod_below k 64)) (some_ones test word k h one) in
              elim (cases_lt (k % 64) least) [
                | inl before ↦ elim (cases_eq (k / 64) w) [
                  | inl same ↦
                      let zero_there : has (word w) (k % 64) ≡ false = ap (λ (b : ℕ). b == 1) (found.2 (k % 64) before) in
                      absurd (true_false (sym one ∙ (h.is k ∙ (ap (λ (v : ℕ). has (word v) (k % 64)) same ∙ zero_there))))
                  | inr apart ↦ omega (arith, later, apart, div-add-mod' k 64)
                ]
                | inr after ↦ omega (arith, later, div-add-mod' k 64)
              ]
        ];
      },
    )

-- it stands nowhere
pub found_nowhere : (test : ℕ → Bool) (word : ℕ → ℕ) (from : ℕ) → HoldsTest test word → HasNoNext (has (word (from / 64))) (from % 64)
    → HasNoNext (λ v. has_ones (word v)) (from / 64 + 1) → HasNoNext test from
found_nowhere test word from h none rest k past one = elim (cases_eq (k / 64) (from / 64)) [
  | inl same ↦ none (k % 64) (omega (arith, same, div-add-mod' from 64, div-add-mod' k 64))
      (ap (λ (v : ℕ). has (word v) (k % 64)) (sym same) ∙ (sym (h.is k) ∙ one))
  | inr other ↦ rest (k / 64) (omega (arith, other, div-add-mod' from 64, div-add-mod' k 64, mod_below from 64, mod_below k 64)) (some_ones test word k h one)
]

pub not_none : (test : ℕ → Bool) (from k : ℕ) → IsNext test from k → HasNoNext test from → ⊥
not_none test from k n none = none k n.not_below n.passes

-- ---- what a search answers

pub none_is : (test : ℕ → Bool) (from : ℕ) → HasNoNext test from → (false ≡ false → HasNoNext test from) × (HasNoNext test from → false ≡ false)
none_is test from none = (λ _. none, λ _. refl)

pub some_is : (test : ℕ → Bool) (from k : ℕ) → IsNext test from k → (true ≡ false → HasNoNext test from) × (HasNoNext test from → true ≡ false)
some_is test from k n = (λ e. absurd (true_false e), λ none. absurd (not_none test from k n none))

pub next_same : (f g : ℕ → Bool) (from k : ℕ) → ((j : ℕ) → f j ≡ g j) → IsNext g from k → IsNext f from k
next_same f g from k same n = record { not_below = n.not_below; passes = same k ∙ n.passes; first = λ j past one. n.first j past (sym (same j) ∙ one) }

pub none_same : (f g : ℕ → Bool) (from : ℕ) → ((j : ℕ) → f j ≡ g j) → HasNoNext g from → HasNoNext f from
none_same f g from same none j past one = none j past (sym (same j) ∙ one)

pub past_none : (set : List Bool) (from : ℕ) → length set ≤ from → HasNoNext (is_in set) from
past_none set from past k after one = let inside : k < length set = in_length set k one in omega arith

pub holds-row : (r : BitRow) → IsRow r → HoldsTest (is_in (bits_of r)) (λ w. get_or r.words w 0)
holds-row r row = record { is = λ k. is_in-row r k row; fits = λ w. word_fits r.words w row.small }

-- the bits of a layer above are those of the words that aren't 0
pub ones-above : (words : List ℕ) (w : ℕ) → is_in (map has_ones words) w ≡ has_ones (get_or words w 0)
ones-above words w = grind (arith, common_steps, cases_lt w (length words), get_or_past)

-- ---- a search by layers: in the word of the place itself, and else in the next word that the layer above names

pub found_in_row : (r : BitRow) (from i word : ℕ) → IsRow r → get_or r.words (from / 64) 0 ≡ word
    → IsNext (has word) (from % 64) i → i < 64 → IsNext (is_in (bits_of r)) from (from / 64 * 64 + i)
found_in_row r from i word row is n small =
    found_here (is_in (bits_of r)) (λ w. get_or r.words w 0) from i (holds-row r row) (rw is n) small

pub found_over_row : (r : BitRow) (above : List Bool) (from w here there : ℕ) → IsLayer r above → get_or r.words (from / 64) 0 ≡ here
    → HasNoNext (has here) (from % 64) → IsNext (is_in above) (from / 64 + 1) w → get_or r.words w 0 ≡ there
    → (trailing_zeros w64 there < 64) × IsNext (is_in (bits_of r)) from (w * 64 + trailing_zeros w64 there)
found_over_row r above from w here there l is none n at =
    rw (← at) (found_above (is_in (bits_of r)) (λ v. get_or r.words v 0) from w (holds-row r l.row) (rw is none)
    (next_same (λ v. has_ones (get_or r.words v 0)) (is_in above) (from / 64 + 1) w
    (λ v. sym (ap (λ (bits : List Bool). is_in bits v) l.summary ∙ ones-above r.words v)) n))

pub none_in_row : (r : BitRow) (above : List Bool) (from here : ℕ) → IsLayer r above → get_or r.words (from / 64) 0 ≡ here
    → HasNoNext (has here) (from % 64) → HasNoNext (is_in above) (from / 64 + 1) → HasNoNext (is_in (bits_of r)) from
none_in_row r above from here l is none rest =
    found_nowhere (is_in (bits_of r)) (λ v. get_or r.words v 0) from (holds-row r l.row) (rw is none)
    (none_same (λ v. has_ones (get_or r.words v 0)) (is_in above) (from / 64 + 1)
    (λ v. sym (ap (λ (bits : List Bool). is_in bits v) l.summary ∙ ones-above r.words v)) rest)

pub none_past_row : (r : BitRow) (from : ℕ) → IsRow r → length r.words ≤ from / 64 → HasNoNext (is_in (bits_of r)) from
none_past_row r from row past = past_none (bits_of r) from (omega (arith, length-bits r, row.whole, div-add-mod' from 64))

-- a word that the layer above names is there
pub named_inside : (r : BitRow) (above : List Bool) (from w : ℕ) → IsLayer r above → IsNext (is_in above) from w → w < length r.words
named_inside r above from w l n = omega (arith, in_length above w n.passes, ap length l.summary, length-map r.words has_ones)
