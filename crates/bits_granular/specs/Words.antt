-- Words of 64 bits, and the layers of words above them.
use Rattle.std.specs.Prelude.{◌≡◌, ℕ, ◌+◌, ◌-◌, ◌*◌, ◌/◌, ◌%◌, ◌^◌, ◌<◌, ◌≤◌, min, List, length, map, replicate, set, Bool, false, not, ◌||◌, ◌==◌, nat_lt, slice_index, bit_and, count_ones, All}
use Rattle.std.specs.Int.{bit_at, bit_not, w64, div_ceil}
use Rattle.std.specs.List.{sum_by}
use Rattle.span_algebra.specs.Timelines.{Extent}
use Rattle.bitmap_model.specs.Granules.{set_of, is_in}

-- bit i of a number is 1
abbrev pub has : ℕ → ℕ → Bool
has x i = bit_at x i == 1

-- bit k of the words, 64 in each
abbrev pub has_bit : List ℕ → ℕ → Bool
has_bit words k = has (slice_index words (k / 64)) (k % 64)

-- how many words so many bits take
abbrev pub words_for : ℕ → ℕ
words_for n = div_ceil n 64

-- a row of bits, in words of 64
pub record BitRow : Type 0 where
  pub count : ℕ
  pub words : List ℕ

-- the bits as truth values
abbrev pub bits_of : BitRow → List Bool
bits_of r = set_of r.count (has_bit r.words)

-- so many bits, each 0
abbrev pub zeros_of : ℕ → BitRow
zeros_of n = record { count = n; words = replicate (words_for n) 0 }

-- there are as many words as the bits take, each of 64 bits, and no 1 stands past the last bit
pub record IsRow (r : BitRow) : Type 0 where
  pub few : r.count ≤ 2 ^ 27
  pub whole : length r.words ≡ words_for r.count
  pub small : All (λ x. x < 2 ^ 64) r.words
  pub tail : (k : ℕ) → r.count ≤ k → has_bit r.words k ≡ false

-- the word isn't 0
abbrev pub has_ones : ℕ → Bool
has_ones word = nat_lt 0 word

-- the row, and above it one bit for each word that isn't 0
pub record IsLayer (r : BitRow) (above : List Bool) : Type 0 where
  pub row : IsRow r
  pub summary : above ≡ map has_ones r.words

-- no 1 of the word, as word number w of so many bits, stands past the last bit
abbrev pub FitsWord : ℕ → ℕ → ℕ → Type 0
FitsWord count w word = (i : ℕ) → i < 64 → count ≤ w * 64 + i → has word i ≡ false

-- the row with this word in the place of word number w
abbrev pub with_word : BitRow → ℕ → ℕ → BitRow
with_word r w word = record r { words = set r.words w word }

-- the number with 1 in its bits below n alone
abbrev pub ones_below : ℕ → ℕ
ones_below n = 2 ^ n - 1

-- word number w of so many bits where all of them are 1; the last word is full when the bits that there are are 1
abbrev pub full_word : ℕ → ℕ → ℕ
full_word count w = ones_below (min 64 (count - w * 64))

-- in word number w, 1 for each bit that there is and is 0
abbrev pub clean_at : BitRow → ℕ → ℕ
clean_at r w = bit_and (full_word r.count w) (bit_not w64 (slice_index r.words w))

-- the word isn't full
abbrev pub has_gap : BitRow → ℕ → Bool
has_gap r w = not (slice_index r.words w == full_word r.count w)

-- a row, with one bit for each word that isn't full, and the count of its ones
pub record IsCounted (r : BitRow) (gaps : List Bool) (ones : ℕ) : Type 0 where
  pub row : IsRow r
  pub summary : gaps ≡ set_of (length r.words) (has_gap r)
  pub total : ones ≡ sum_by count_ones r.words

-- the new flags are those of the word in its place, and else as they were
pub record HasWord (old new : List Bool) (w word : ℕ) : Type 0 where
  pub count : length new ≡ length old
  pub inside : (k : ℕ) → k / 64 ≡ w → is_in new k ≡ has word (k % 64)
  pub others : (k : ℕ) → (k / 64 ≡ w → ⊥) → is_in new k ≡ is_in old k

-- the word is that of the flags at its place
abbrev pub IsWordOf : List Bool → ℕ → ℕ → Type 0
IsWordOf flags w word = (i : ℕ) → i < 64 → has word i ≡ is_in flags (w * 64 + i)

-- a flag is set in word number w
abbrev pub NoneInWords : List Bool → ℕ → ℕ → Type 0
NoneInWords flags from past = (k : ℕ) → from ≤ k / 64 → k / 64 < past → is_in flags k ≡ false

-- the new flags are those that were set and those of the other
pub record IsUnion (old other new : List Bool) : Type 0 where
  pub count : length new ≡ length old
  pub both : (k : ℕ) → is_in new k ≡ (is_in old k || is_in other k)

-- word w is the first from this one on in which a flag is set
pub record IsNextWord (flags : List Bool) (from w : ℕ) : Type 0 where
  pub not_below : from ≤ w
  pub inside : w < words_for (length flags)
  pub first : NoneInWords flags from w

-- no flag is set from word number `from` on
abbrev pub HasNoNextWord : List Bool → ℕ → Type 0
HasNoNextWord flags from = (k : ℕ) → from ≤ k / 64 → is_in flags k ≡ false

-- the bytes of the granules of size g from the one to before the other
abbrev pub granules_from : ℕ → ℕ → ℕ → Extent
granules_from g first past = record { at = first * g; size = (past - first) * g }
