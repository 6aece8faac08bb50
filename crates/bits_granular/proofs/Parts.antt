-- Flags that are put in place a word at a time.
use Rattle.std.proofs.Common.{◌≡◌, ℕ, suc, ◌+◌, ◌-◌, ◌*◌, ◌/◌, ◌%◌, ◌^◌, ◌<◌, ◌≤◌, min, Bool, true, false, not, ◌&&◌, ◌||◌, List, [], ◌∷◌, ◌++◌, length, get_or, set, replicate, inl, inr, refl, sym, ap, ◌∙◌, arith, get_or-set_same, get_or-set_other}
use Rattle.std.specs.Prelude.{◌==◌, nat_lt, nat_le, bit_or, count_ones}
use Rattle.std.proofs.lemmas.Nat.{mod_below, div-add-mod', ones_le_self}
use Rattle.std.proofs.lemmas.Bool.{cases_lt, cases_eq, ne_eqb, lt-ltb, le-ltb}
use Rattle.std.proofs.lemmas.List.{get_or_past, length-set, length-replicate, get_or-replicate, get_or_append_left}
use Rattle.std.proofs.lemmas.List.Folds.{sum_by-replicate}
use Rattle.std.proofs.lemmas.Grind.{common_steps}
use Rattle.bitmap_model.specs.Granules.{set_of, is_in}
use Rattle.bitmap_model.proofs.Sets.{is_in-set_of, length-set_of, set_of-from, set_of-same}
use Rattle.bits_granular.specs.Bytes.{bit_of}
use Rattle.bits_granular.specs.Words.{has, words_for, zeros_of, IsCounted, IsLayer, FitsWord, HasWord, has_gap, full_word, ones_below}
use Rattle.bits_granular.proofs.OneWord.{has_or, pow_up}
use Rattle.bits_granular.proofs.Rows.{layer-zeros}

joined_bits : (new old init test late soon : Bool) → late ≡ false → soon ≡ true → new ≡ (old || test) → old ≡ (init || (late && test)) → new ≡ (init || (soon && test))
joined_bits new old init test late soon l s n o = grind (arith, common_steps)

no_part : (x a b : Bool) → (x || (a && false)) ≡ (x || (b && false))
no_part x a b = grind (arith, common_steps)

both_false : (a b : Bool) → a ≡ false → b ≡ false → (a || b) ≡ false
both_false a b e f = grind (arith, common_steps)

and_false : (a : Bool) → (a && false) ≡ false
and_false true = refl
and_false false = refl

times_zero : (n : ℕ) → n * 0 ≡ 0
times_zero n = omega arith

get_or-append_at : (bytes : List ℕ) (b : ℕ) → get_or (bytes ++ b ∷ []) (length bytes) 0 ≡ b
get_or-append_at [] b = refl
get_or-append_at (x ∷ bytes) b = get_or-append_at bytes b

one_more : (q w : ℕ) → (q ≡ w → ⊥) → nat_lt q w ≡ nat_lt q (w + 1)
one_more q w other = elim (cases_lt q w) [
  | inl before ↦ lt-ltb q w before ∙ sym (lt-ltb q (w + 1) (omega arith))
  | inr from ↦ le-ltb q w from ∙ sym (le-ltb q (w + 1) (omega (arith, from, other)))
]

-- within its place a word says what its bits are
in_word : (old new : List Bool) (w x k : ℕ) (test : ℕ → Bool) → HasWord old new w x → ((i : ℕ) → i < 64 → has x i ≡ test (w * 64 + i)) → k / 64 ≡ w → is_in new k ≡ test k
in_word old new w x k test h bits here =
    let place : w * 64 + k % 64 ≡ k = omega (arith, here, div-add-mod' k 64) in
    h.inside k here ∙ (bits (k % 64) (mod_below k 64 (omega arith)) ∙ ap test place)

-- a word of answers, where those before it are in place
pub answers_more : (old new : List Bool) (w x k : ℕ) (test : ℕ → Bool) → HasWord old new w x → ((i : ℕ) → i < 64 → has x i ≡ test (w * 64 + i))
    → is_in old k ≡ (nat_lt (k / 64) w && test k) → is_in new k ≡ (nat_lt (k / 64) (w + 1) && test k)
answers_more old new w x k test h bits before = elim (cases_eq (k / 64) w) [
  | inl here ↦ in_word old new w x k test h bits here ∙ sym (ap (λ (b : Bool). b && test k) (lt-ltb (k / 64) (w + 1) (omega (arith, here))))
  | inr other ↦ h.others k other ∙ (before ∙ ap (λ (b : Bool). b && test k) (one_more (k / 64) w other))
]

-- a word joined to what is there; between the last such word and this one the test has no answer
pub union_more : (init old new : List Bool) (from w x k : ℕ) (test : ℕ → Bool) → HasWord old new w x → from ≤ w
    → ((j : ℕ) → from ≤ j / 64 → j / 64 < w → test j ≡ false) → ((i : ℕ) → i < 64 → has x i ≡ (is_in old (w * 64 + i) || test (w * 64 + i)))
    → is_in old k ≡ (is_in init k || (nat_lt (k / 64) from && test k)) → is_in new k ≡ (is_in init k || (nat_lt (k / 64) (w + 1) && test k))
union_more init old new from w x k test h order none bits before = elim (cases_eq (k / 64) w) [
  | inl here ↦
      let late : nat_lt (k / 64) from ≡ false = le-ltb (k / 64) from (omega (arith, here, order)) in
      let soon : nat_lt (k / 64) (w + 1) ≡ true = lt-ltb (k / 64) (w + 1) (omega (arith, here)) in
      let there : is_in new k ≡ (is_in old k || test k) = in_word old new w x k (λ j. is_in old j || test j) h bits here in
      joined_bits (is_in new k) (is_in old k) (is_in init k) (test k) (nat_lt (k / 64) from) (nat_lt (k / 64) (w + 1)) late soon there before
  | inr other ↦ h.others k other ∙ (before ∙ elim (cases_lt (k / 64) from) [
    | inl early ↦ ap (λ (b : Bool). is_in init k || (b && test k)) (lt-ltb (k / 64) from early ∙ sym (lt-ltb (k / 64) (w + 1) (omega (arith, early, order))))
    | inr after ↦ elim (cases_lt (k / 64) w) [
      | inl between ↦
          let no : test k ≡ false = none k after between in
          ap (λ (b : Bool). is_in init k || (nat_lt (k / 64) from && b)) no
          ∙ (no_part (is_in init k) (nat_lt (k / 64) from) (nat_lt (k / 64) (w + 1)) ∙ sym (ap (λ (b : Bool). is_in init k || (nat_lt (k / 64) (w + 1) && b)) no))
      | inr past ↦ ap (λ (b : Bool). is_in init k || (b && test k)) (le-ltb (k / 64) from after ∙ sym (le-ltb (k / 64) (w + 1) (omega (arith, past, other))))
    ]
  ])
]

pub union_fits : (old : List Bool) (w a b : ℕ) (test : ℕ → Bool) → ((i : ℕ) → i < 64 → has a i ≡ is_in old (w * 64 + i)) → ((i : ℕ) → i < 64 → has b i ≡ test (w * 64 + i))
    → ((k : ℕ) → length old ≤ k → test k ≡ false) → FitsWord (length old) w (bit_or a b)
union_fits old w a b test first second none i small past =
    has_or a b i ∙ both_false (has a i) (has b i) (first i small ∙ get_or_past old (w * 64 + i) false past) (second i small ∙ none (w * 64 + i) past)

pub union_bits : (old : List Bool) (w a b : ℕ) (test : ℕ → Bool) → ((i : ℕ) → i < 64 → has a i ≡ is_in old (w * 64 + i)) → ((i : ℕ) → i < 64 → has b i ≡ test (w * 64 + i))
    → (i : ℕ) → i < 64 → has (bit_or a b) i ≡ (is_in old (w * 64 + i) || test (w * 64 + i))
union_bits old w a b test first second i small =
    has_or a b i ∙ (ap (λ (x : Bool). x || has b i) (first i small) ∙ ap (λ (x : Bool). is_in old (w * 64 + i) || x) (second i small))

pub past_false : (first past k : ℕ) → past ≤ k → (nat_le first k && nat_lt k past) ≡ false
past_false first past k after = ap (λ (b : Bool). nat_le first k && b) (le-ltb k past after) ∙ and_false (nat_le first k)

-- flags none of which is set
pub all_false : (flags : List Bool) → ((k : ℕ) → is_in flags k ≡ false) → flags ≡ replicate (length flags) false
all_false [] none = refl
all_false (x ∷ flags) none = ap (λ (b : Bool). b ∷ flags) (none 0) ∙ ap (λ (xs : List Bool). false ∷ xs) (all_false flags (λ k. none (suc k)))

pub read_all : (flags : List Bool) (count n : ℕ) (test : ℕ → Bool) → length flags ≡ count → words_for count ≤ n
    → ((k : ℕ) → is_in flags k ≡ (nat_lt (k / 64) n && test k)) → flags ≡ set_of count test
read_all flags count n test size enough bits = set_of-from count test flags size
    (λ k below. bits k ∙ ap (λ (b : Bool). b && test k) (lt-ltb (k / 64) n (omega arith)))

-- ---- no flag is set, and no word is full

pub gaps_none : (n : ℕ) → replicate n false ≡ set_of n (λ k. nat_lt k 0)
gaps_none n = set_of-from n (λ k. nat_lt k 0) (replicate n false) (length-replicate n false) (λ k below. grind (arith, common_steps))

pub gaps_more : (count n : ℕ) → n < count → set (set_of count (λ k. nat_lt k n)) n true ≡ set_of count (λ k. nat_lt k (n + 1))
gaps_more count n inside =
    let size : length (set_of count (λ k. nat_lt k n)) ≡ count = length-set_of count (λ k. nat_lt k n) in
    set_of-from count (λ k. nat_lt k (n + 1)) (set (set_of count (λ k. nat_lt k n)) n true) (length-set (set_of count (λ k. nat_lt k n)) n true ∙ size)
    (λ k below. elim (cases_eq k n) [
      | inl same ↦ ap (λ (i : ℕ). is_in (set (set_of count (λ j. nat_lt j n)) n true) i) same
          ∙ (get_or-set_same (set_of count (λ j. nat_lt j n)) n true false (omega (arith, size)) ∙ sym (lt-ltb k (n + 1) (omega (arith, same))))
      | inr other ↦ get_or-set_other (set_of count (λ j. nat_lt j n)) n k true false other ∙ (is_in-set_of count (λ j. nat_lt j n) k below ∙ one_more k n other)
    ])

some_below : (n : ℕ) → 0 < n → 0 < ones_below n
some_below n some = let more : 2 ^ 1 ≤ 2 ^ n = pow_up 1 n some in omega (arith, more)

gap_of_zero : (count k : ℕ) → k < words_for count → has_gap (zeros_of count) k ≡ true
gap_of_zero count k inside =
    let none : get_or (replicate (words_for count) 0) k 0 ≡ 0 = get_or-replicate (words_for count) k 0 0 inside in
    let some : 0 < full_word count k = some_below (min 64 (count - k * 64)) (omega arith) in
    ap (λ (x : ℕ). not (x == full_word count k)) none ∙ ap not (ne_eqb 0 (full_word count k) (λ (e : 0 ≡ full_word count k). omega (arith, some, e)))

pub counted-zeros : (count n : ℕ) (gaps : List Bool) → count ≤ 2 ^ 27 → words_for count ≤ n → gaps ≡ set_of (words_for count) (λ k. nat_lt k n) → IsCounted (zeros_of count) gaps 0
counted-zeros count n gaps few enough is =
    let no_ones : count_ones 0 ≡ 0 = omega (arith, ones_le_self 0) in
    let layer : IsLayer (zeros_of count) (replicate (words_for count) false) = layer-zeros count (replicate (words_for count) false) few refl in
    let size : length (zeros_of count).words ≡ words_for count = length-replicate (words_for count) 0 in
    record {
      row = layer.row;
      summary = is ∙ (set_of-same (words_for count) (λ k. nat_lt k n) (has_gap (zeros_of count)) (λ k below. lt-ltb k n (omega (arith, below, enough)) ∙ sym (gap_of_zero count k below))
          ∙ ap (λ (m : ℕ). set_of m (has_gap (zeros_of count))) (sym size));
      total = sym (sum_by-replicate count_ones (words_for count) 0 ∙ (ap (λ (m : ℕ). words_for count * m) no_ones ∙ times_zero (words_for count)));
    }

-- ---- bytes put one after another

pub bytes_more : (bytes : List ℕ) (b n : ℕ) (flags : List Bool) → length bytes ≡ n → ((k : ℕ) → k < n * 8 → bit_of bytes k ≡ is_in flags k)
    → ((i : ℕ) → i < 8 → has b i ≡ is_in flags (n * 8 + i)) → (k : ℕ) → k < (n + 1) * 8 → bit_of (bytes ++ b ∷ []) k ≡ is_in flags k
bytes_more bytes b n flags size before bits k below = elim (cases_lt (k / 8) n) [
  | inl early ↦ ap (λ (x : ℕ). has x (k % 8)) (get_or_append_left bytes (b ∷ []) 0 (k / 8) (omega (arith, size, early))) ∙ before k (omega (arith, early))
  | inr last ↦
      let here : k / 8 ≡ n = omega (arith, last, below) in
      let place : n * 8 + k % 8 ≡ k = omega (arith, here, div-add-mod' k 8) in
      let there : get_or (bytes ++ b ∷ []) (k / 8) 0 ≡ b = ap (λ (i : ℕ). get_or (bytes ++ b ∷ []) i 0) (here ∙ sym size) ∙ get_or-append_at bytes b in
      ap (λ (x : ℕ). has x (k % 8)) there ∙ (bits (k % 8) (mod_below k 8 (omega arith)) ∙ ap (λ (i : ℕ). is_in flags i) place)
]
