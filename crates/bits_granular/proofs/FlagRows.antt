-- Rows of flags, with the words that aren't full and the count kept.
use Rattle.std.proofs.Common.{◌≡◌, ℕ, ◌+◌, ◌-◌, ◌*◌, ◌/◌, ◌%◌, ◌^◌, ◌<◌, ◌≤◌, min, Bool, true, false, not, ◌&&◌, List, length, get_or, set, map, inl, inr, refl, sym, ap, subst, ◌∙◌, arith, rules, get_or-set_same, get_or-set_other}
use Rattle.std.specs.Prelude.{◌==◌, nat_lt, count_ones, bit_and, Option, Some, None, IfSome, IfNone, IsNone, ◌↔◌}
use Rattle.std.specs.Int.{bit_not, w64, trailing_zeros}
use Rattle.std.specs.List.{sum_by}
use Rattle.std.proofs.lemmas.Nat.{mod_below, div-add-mod', ones-le, and_le_l}
use Rattle.std.proofs.lemmas.Nat.Bits.{shr_and_one}
use Rattle.std.proofs.lemmas.Bool.{cases_lt, cases_eq, cases_Bool, eq-eqb, ne_eqb, lt-ltb, le-ltb}
use Rattle.std.proofs.lemmas.List.{get_or_past, length-set, length-map}
use Rattle.std.proofs.lemmas.List.Sums.{sum_by-set, get_or-le-sum_by, count_by-le-length}
use Rattle.std.proofs.lemmas.Grind.{common_steps}
use Rattle.bitmap_model.specs.Granules.{set_of, is_in, is_clean, count_of, IsNext, HasNoNext}
use Rattle.bitmap_model.proofs.Sets.{is_in-set_of, length-set_of, set_of-from, in_length}
use Rattle.bits_granular.specs.Words.{has, has_ones, words_for, BitRow, bits_of, IsRow, IsCounted, FitsWord, with_word, full_word, ones_below, has_gap, clean_at, HasWord, IsNextWord, HasNoNextWord}
use Rattle.bits_granular.proofs.OneWord.{has-zero, has_and, has_not, has-ones_below, ones_fit, same_word}
use Rattle.bits_granular.proofs.Rows.{is_in-row, length-bits, row-set, has_bit-set_same, has_bit-set_other, word_tail}
use Rattle.bits_granular.proofs.Finding.{HoldsTest, holds-row, word_fits, at_part, some_ones, ones-above, found_here, found_above, found_nowhere, next_same, none_same}
use Rattle.bits_granular.proofs.Counting.{count-bits}

pub word_inside : (r : BitRow) (flags : List Bool) (w : ℕ) → IsRow r → bits_of r ≡ flags → w < words_for (length flags) → w < length r.words
word_inside r flags w row is inside = omega (arith, row.whole, inside, sym (ap length is) ∙ length-bits r)

pub word_begins : (r : BitRow) (w : ℕ) → IsRow r → w < length r.words → w * 64 < r.count
word_begins r w row inside = omega (arith, row.whole)

pub fits_row : (r : BitRow) (flags : List Bool) (w x : ℕ) → bits_of r ≡ flags → FitsWord (length flags) w x → FitsWord r.count w x
fits_row r flags w x is fits = subst (λ (n : ℕ). FitsWord n w x) (sym (ap length is) ∙ length-bits r) fits

-- ---- words and bits as flags

pub row_word : (r : BitRow) (w i : ℕ) → IsRow r → i < 64 → has (get_or r.words w 0) i ≡ is_in (bits_of r) (w * 64 + i)
row_word r w i row small = sym (at_part (is_in (bits_of r)) (λ v. get_or r.words v 0) w i (holds-row r row) small)

pub row_bit : (r : BitRow) (k : ℕ) → IsRow r → (bit_and (get_or r.words (k / 64) 0 / 2 ^ (k % 64)) 1 == 1) ≡ is_in (bits_of r) k
row_bit r k row = ap (λ (b : ℕ). b == 1) (shr_and_one (get_or r.words (k / 64) 0) (k % 64)) ∙ sym (is_in-row r k row)

pub has-word : (r : BitRow) (w x : ℕ) → IsRow r → w < length r.words → x < 2 ^ 64 → FitsWord r.count w x → HasWord (bits_of r) (bits_of (with_word r w x)) w x
has-word r w x row inside small fits =
    let new : IsRow (with_word r w x) = row-set r w x row inside small fits in
    record {
      count = length-bits (with_word r w x) ∙ sym (length-bits r);
      inside = λ k here. is_in-row (with_word r w x) k new ∙ has_bit-set_same r.words w x k inside here;
      others = λ k other. is_in-row (with_word r w x) k new ∙ (has_bit-set_other r.words w x k other ∙ sym (is_in-row r k row));
    }

-- ---- the words that aren't full

gaps-set : (r : BitRow) (w x : ℕ) → w < length r.words
    → set (set_of (length r.words) (has_gap r)) w (not (x == full_word r.count w)) ≡ set_of (length (set r.words w x)) (has_gap (with_word r w x))
gaps-set r w x inside =
    set_of-from (length (set r.words w x)) (has_gap (with_word r w x)) (set (set_of (length r.words) (has_gap r)) w (not (x == full_word r.count w)))
    (length-set (set_of (length r.words) (has_gap r)) w (not (x == full_word r.count w)) ∙ (length-set_of (length r.words) (has_gap r) ∙ sym (length-set r.words w x)))
    (λ k below.
    let size : length (set r.words w x) ≡ length r.words = length-set r.words w x in
    let gaps : List Bool = set_of (length r.words) (has_gap r) in
    let many : length gaps ≡ length r.words = length-set_of (length r.words) (has_gap r) in
    elim (cases_eq k w) [
      | inl same ↦ ap (λ (i : ℕ). is_in (set gaps w (not (x == full_word r.count w))) i) same
          ∙ (get_or-set_same gaps w (not (x == full_word r.count w)) false (omega (arith, many))
          ∙ (ap (λ (y : ℕ). not (y == full_word r.count w)) (sym (get_or-set_same r.words w x 0 inside)) ∙ ap (λ (i : ℕ). has_gap (with_word r w x) i) (sym same)))
      | inr other ↦ get_or-set_other gaps w k (not (x == full_word r.count w)) false other
          ∙ (is_in-set_of (length r.words) (has_gap r) k (omega (arith, below, size))
          ∙ ap (λ (y : ℕ). not (y == full_word r.count k)) (sym (get_or-set_other r.words w k x 0 other)))
    ])

sum_moves : (old new a b total : ℕ) → new + a ≡ old + b → a ≤ old → total ≡ old → total - a + b ≡ new
sum_moves old new a b total e small t = omega arith

pub counted-put : (r : BitRow) (gaps new : List Bool) (ones w x old : ℕ) → IsCounted r gaps ones → w < length r.words → x < 2 ^ 64 → FitsWord r.count w x
    → old ≡ get_or r.words w 0 → new ≡ set gaps w (not (x == full_word r.count w)) → IsCounted (with_word r w x) new (ones - count_ones old + count_ones x)
counted-put r gaps new ones w x old c inside small fits read is = record {
  row = row-set r w x c.row inside small fits;
  summary = is ∙ (ap (λ (bits : List Bool). set bits w (not (x == full_word r.count w))) c.summary ∙ gaps-set r w x inside);
  total = ap (λ (y : ℕ). ones - count_ones y + count_ones x) read
      ∙ sum_moves (sum_by count_ones r.words) (sum_by count_ones (set r.words w x)) (count_ones (get_or r.words w 0)) (count_ones x) ones (sum_by-set count_ones r.words w x 0 inside)
      (get_or-le-sum_by count_ones r.words w 0 inside) c.total;
}

pub count-flags : (r : BitRow) (gaps flags : List Bool) (ones : ℕ) → IsCounted r gaps ones → bits_of r ≡ flags → ones ≡ count_of flags
count-flags r gaps flags ones c is = c.total ∙ (sym (count-bits r c.row) ∙ ap count_of is)

pub count_few : (r : BitRow) (gaps : List Bool) (ones : ℕ) → IsCounted r gaps ones → ones ≤ 2 ^ 27
count_few r gaps ones c = omega (arith, c.total, count-bits r c.row, count_by-le-length (λ (d : Bool). d) (bits_of r), length-bits r, c.row.few)

pub word_ones : (x : ℕ) → x < 2 ^ 64 → count_ones x ≤ 64
word_ones x small = ones-le 64 x small

-- ---- the next word with a 1

next_word : (r : BitRow) (from w : ℕ) → IsRow r → IsNext (is_in (map has_ones r.words)) from w → IsNextWord (bits_of r) from w
next_word r from w row n = record {
  not_below = n.not_below;
  inside = omega (arith, in_length (map has_ones r.words) w n.passes, length-map r.words has_ones, row.whole, length-bits r);
  first = λ k past below. elim (cases_Bool (is_in (bits_of r) k)) [
    | inl one ↦
        let later : w ≤ k / 64 = n.first (k / 64) past (ones-above r.words (k / 64) ∙ some_ones (is_in (bits_of r)) (λ v. get_or r.words v 0) k (holds-row r row) one) in
        absurd (omega arith)
    | inr none ↦ none
  ];
}

pub next_word_found : (r : BitRow) (flags : List Bool) (from : ℕ) (o : Option ℕ) → IsRow r → bits_of r ≡ flags
    → IfSome o (IsNext (is_in (map has_ones r.words)) from) → IfSome o (IsNextWord flags from)
next_word_found r flags from None row is n = tt
next_word_found r flags from (Some w) row is n = subst (λ (bits : List Bool). IsNextWord bits from w) is (next_word r from w row n)

pub next_word_none : (r : BitRow) (flags : List Bool) (from : ℕ) (o : Option ℕ) → IsRow r → bits_of r ≡ flags
    → (IsNone o ↔ HasNoNext (is_in (map has_ones r.words)) from) → IfNone o (HasNoNextWord flags from)
next_word_none r flags from (Some w) row is n = tt
next_word_none r flags from None row is n = subst (λ (bits : List Bool). HasNoNextWord bits from) is
    (λ k past. elim (cases_Bool (is_in (bits_of r) k)) [
      | inl one ↦ absurd (n.0 refl (k / 64) past (ones-above r.words (k / 64) ∙ some_ones (is_in (bits_of r)) (λ v. get_or r.words v 0) k (holds-row r row) one))
      | inr none ↦ none
    ])

-- ---- the next 0

one_there : (a b : Bool) → b ≡ true → (b && not a) ≡ false → a ≡ b
one_there true true e h = refl
one_there false true e h = sym h
one_there true false e h = sym e
one_there false false e h = refl

never : (a : Bool) → (a && not a) ≡ false
never true = refl
never false = refl

has-full : (count w i : ℕ) → i < 64 → has (full_word count w) i ≡ nat_lt (w * 64 + i) count
has-full count w i small = has-ones_below (min 64 (count - w * 64)) i ∙ grind (arith, common_steps)

full_fits : (count w : ℕ) → full_word count w < 2 ^ 64
full_fits count w = ones_fit (min 64 (count - w * 64)) (omega arith)

has-clean : (r : BitRow) (w i : ℕ) → IsRow r → i < 64 → has (clean_at r w) i ≡ is_clean (bits_of r) (w * 64 + i)
has-clean r w i row small =
    has_and (full_word r.count w) (bit_not w64 (get_or r.words w 0)) i
    ∙ (ap (λ (b : Bool). b && has (bit_not w64 (get_or r.words w 0)) i) (has-full r.count w i small ∙ ap (λ (n : ℕ). nat_lt (w * 64 + i) n) (sym (length-bits r)))
    ∙ ap (λ (b : Bool). nat_lt (w * 64 + i) (length (bits_of r)) && b) (has_not (get_or r.words w 0) i (word_fits r.words w row.small) small ∙ ap not (row_word r w i row small)))

clean_fits : (r : BitRow) (w : ℕ) → clean_at r w < 2 ^ 64
clean_fits r w = omega (arith, and_le_l (full_word r.count w) (bit_not w64 (get_or r.words w 0)), full_fits r.count w)

pub holds-clean : (r : BitRow) → IsRow r → HoldsTest (is_clean (bits_of r)) (λ w. clean_at r w)
holds-clean r row = record {
  is = λ k.
      let place : k / 64 * 64 + k % 64 ≡ k = div-add-mod' k 64 in
      ap (λ (j : ℕ). is_clean (bits_of r) j) (sym place) ∙ sym (has-clean r (k / 64) (k % 64) row (mod_below k 64 (omega arith)));
  fits = λ w. clean_fits r w;
}

gap_none : (r : BitRow) (w : ℕ) → IsRow r → clean_at r w ≡ 0 → get_or r.words w 0 ≡ full_word r.count w
gap_none r w row none =
    same_word (get_or r.words w 0) (full_word r.count w) (word_fits r.words w row.small) (full_fits r.count w)
    (λ i small.
    let zero_here : (nat_lt (w * 64 + i) r.count && not (has (get_or r.words w 0) i)) ≡ false =
    sym (has_and (full_word r.count w) (bit_not w64 (get_or r.words w 0)) i
    ∙ (ap (λ (b : Bool). b && has (bit_not w64 (get_or r.words w 0)) i) (has-full r.count w i small)
    ∙ ap (λ (b : Bool). nat_lt (w * 64 + i) r.count && b) (has_not (get_or r.words w 0) i (word_fits r.words w row.small) small))) ∙ (ap (λ (x : ℕ). has x i) none ∙ has-zero i) in
    elim (cases_lt (w * 64 + i) r.count) [
      | inl below ↦ one_there (has (get_or r.words w 0) i) (nat_lt (w * 64 + i) r.count) (lt-ltb (w * 64 + i) r.count below) zero_here ∙ sym (has-full r.count w i small)
      | inr past ↦ word_tail r w i row small past ∙ sym (has-full r.count w i small ∙ le-ltb (w * 64 + i) r.count past)
    ])

full_clean : (r : BitRow) (w : ℕ) → get_or r.words w 0 ≡ full_word r.count w → clean_at r w ≡ 0
full_clean r w full =
    same_word (clean_at r w) 0 (clean_fits r w) (omega arith)
    (λ i small. has_and (full_word r.count w) (bit_not w64 (get_or r.words w 0)) i
    ∙ (ap (λ (x : ℕ). has (full_word r.count w) i && has (bit_not w64 x) i) full
    ∙ (ap (λ (b : Bool). has (full_word r.count w) i && b) (has_not (full_word r.count w) i (full_fits r.count w) small) ∙ (never (has (full_word r.count w) i) ∙ sym (has-zero i)))))

gap_past : (r : BitRow) (w : ℕ) → IsRow r → length r.words ≤ w → has_gap r w ≡ false
gap_past r w row past =
    let none : get_or r.words w 0 ≡ 0 = get_or_past r.words w 0 past in
    let over : min 64 (r.count - w * 64) ≡ 0 = omega (arith, row.whole) in
    ap (λ (x : ℕ). not (x == full_word r.count w)) none ∙ ap (λ (n : ℕ). not (0 == ones_below n)) over

gap-ones : (r : BitRow) (w : ℕ) → IsRow r → has_gap r w ≡ has_ones (clean_at r w)
gap-ones r w row = elim (cases_eq (clean_at r w) 0) [
  | inl none ↦ ap not (eq-eqb (get_or r.words w 0) (full_word r.count w) (gap_none r w row none)) ∙ sym (ap (λ (x : ℕ). has_ones x) none)
  | inr some ↦ ap not (ne_eqb (get_or r.words w 0) (full_word r.count w) (λ (e : get_or r.words w 0 ≡ full_word r.count w). some (full_clean r w e)))
      ∙ sym (lt-ltb 0 (clean_at r w) (omega (arith, some)))
]

pub gaps_are : (r : BitRow) (gaps : List Bool) (w : ℕ) → IsRow r → gaps ≡ set_of (length r.words) (has_gap r) → has_ones (clean_at r w) ≡ is_in gaps w
gaps_are r gaps w row is =
    sym (ap (λ (bits : List Bool). is_in bits w) is
    ∙ (elim (cases_lt w (length r.words)) [
      | inl inside ↦ is_in-set_of (length r.words) (has_gap r) w inside ∙ gap-ones r w row
      | inr past ↦ get_or_past (set_of (length r.words) (has_gap r)) w false (omega (arith, past, length-set_of (length r.words) (has_gap r)))
          ∙ (sym (gap_past r w row past) ∙ gap-ones r w row)
    ]))

-- a search by layers, as in a row

pub clean_here : (r : BitRow) (from i word : ℕ) → IsRow r → word ≡ clean_at r (from / 64) → IsNext (has word) (from % 64) i → i < 64
    → IsNext (is_clean (bits_of r)) from (from / 64 * 64 + i)
clean_here r from i word row is n small =
    found_here (is_clean (bits_of r)) (λ w. clean_at r w) from i (holds-clean r row) (subst (λ (x : ℕ). IsNext (has x) (from % 64) i) is n) small

pub clean_above : (r : BitRow) (gaps : List Bool) (from w here there : ℕ) → IsRow r → gaps ≡ set_of (length r.words) (has_gap r) → here ≡ clean_at r (from / 64)
    → HasNoNext (has here) (from % 64) → IsNext (is_in gaps) (from / 64 + 1) w → there ≡ clean_at r w
    → (trailing_zeros w64 there < 64) × IsNext (is_clean (bits_of r)) from (w * 64 + trailing_zeros w64 there)
clean_above r gaps from w here there row summary is none n at =
    subst (λ (x : ℕ). (trailing_zeros w64 x < 64) × IsNext (is_clean (bits_of r)) from (w * 64 + trailing_zeros w64 x)) (sym at)
    (found_above (is_clean (bits_of r)) (λ v. clean_at r v) from w (holds-clean r row) (subst (λ (x : ℕ). HasNoNext (has x) (from % 64)) is none)
    (next_same (λ v. has_ones (clean_at r v)) (is_in gaps) (from / 64 + 1) w (λ v. gaps_are r gaps v row summary) n))

pub clean_nowhere : (r : BitRow) (gaps : List Bool) (from here : ℕ) → IsRow r → gaps ≡ set_of (length r.words) (has_gap r) → here ≡ clean_at r (from / 64)
    → HasNoNext (has here) (from % 64) → HasNoNext (is_in gaps) (from / 64 + 1) → HasNoNext (is_clean (bits_of r)) from
clean_nowhere r gaps from here row summary is none rest =
    found_nowhere (is_clean (bits_of r)) (λ v. clean_at r v) from (holds-clean r row) (subst (λ (x : ℕ). HasNoNext (has x) (from % 64)) is none)
    (none_same (λ v. has_ones (clean_at r v)) (is_in gaps) (from / 64 + 1) (λ v. gaps_are r gaps v row summary) rest)

pub clean_past : (r : BitRow) (from : ℕ) → IsRow r → length r.words ≤ from / 64 → HasNoNext (is_clean (bits_of r)) from
clean_past r from row past k after one =
    let inside : k < length (bits_of r) = search rules in
    omega (arith, inside, length-bits r, row.whole, past, after)

pub gap_inside : (r : BitRow) (gaps : List Bool) (from w : ℕ) → gaps ≡ set_of (length r.words) (has_gap r) → IsNext (is_in gaps) from w → w < length r.words
gap_inside r gaps from w summary n = omega (arith, in_length gaps w n.passes, ap length summary, length-set_of (length r.words) (has_gap r))
