-- A set of granules: one truth value for each granule of a disk, in order.
use Rattle.std.specs.Prelude.{◌≡◌, ℕ, ◌+◌, ◌^◌, min, max, ◌<◌, ◌≤◌, List, length, map, replicate, Bool, false, not, ◌&&◌, ◌||◌, nat_lt, nat_le, slice_index_or, IsTrue}
use Rattle.std.specs.List.{list_any, range_with_len, count_by}
use Rattle.std.specs.Int.{div_ceil, is_power_of_two}
use Rattle.span_algebra.specs.Timelines.{Extent}
use Rattle.span_algebra.specs.Spans.{granule}

-- a power of two from 512 to 2^31
abbrev pub is_granularity : ℕ → Bool
is_granularity size = is_power_of_two size && nat_le 512 size && nat_le size (2 ^ 31)

-- how many granules of this granularity a disk of this size has; the last one may be short
abbrev pub granules_in : ℕ → ℕ → ℕ
granules_in size granularity = div_ceil size granularity

-- a set of granules of this granularity may be made for a disk of this size
abbrev pub IsAllowed : ℕ → ℕ → Type 0
IsAllowed size granularity = IsTrue (is_granularity granularity) × (granules_in size granularity ≤ 2 ^ 27)

-- the set of the numbers below n that pass a test
unfoldable pub set_of : ℕ → (ℕ → Bool) → List Bool
set_of n test = map test (range_with_len 0 n)

-- the number is in the set
abbrev pub is_in : List Bool → ℕ → Bool
is_in set k = slice_index_or set k false

-- the number is that of a granule that isn't in the set
abbrev pub is_clean : List Bool → ℕ → Bool
is_clean set k = nat_lt k (length set) && not (is_in set k)

-- how many are in the set
abbrev pub count_of : List Bool → ℕ
count_of set = count_by (λ d. d) set

-- the least number from this one on that passes the test
pub record IsNext (test : ℕ → Bool) (from found : ℕ) : Type 0 where
  pub not_below : from ≤ found
  pub passes : IsTrue (test found)
  pub first : (k : ℕ) → from ≤ k → IsTrue (test k) → found ≤ k

-- no number from this one on passes the test
abbrev pub HasNoNext : (ℕ → Bool) → ℕ → Type 0
HasNoNext test from = (k : ℕ) → from ≤ k → IsTrue (test k) → ⊥

-- the new flags are set from place first to before place past, and else as they were
pub record IsFilled (old new : List Bool) (first past : ℕ) : Type 0 where
  pub count : length new ≡ length old
  pub inside : (k : ℕ) → first ≤ k → k < past → IsTrue (is_in new k)
  pub before : (k : ℕ) → k < first → is_in new k ≡ is_in old k
  pub after : (k : ℕ) → past ≤ k → is_in new k ≡ is_in old k

-- two ranges have a byte in common
abbrev pub meets : Extent → Extent → Bool
meets e f = nat_lt (max e.at f.at) (min (e.at + e.size) (f.at + f.size))

-- a set of granules of size g, and each granule that meets the range
unfoldable pub widened : ℕ → Extent → List Bool → List Bool
widened g e set = set_of (length set) (λ k. is_in set k || meets e (granule g k))

-- the range meets a granule, of size h, of the set
abbrev pub meets_some : Extent → ℕ → List Bool → Bool
meets_some e h set = list_any (λ j. is_in set j && meets (granule h j) e) (range_with_len 0 (length set))

-- a set of granules of size g, and each granule that meets a granule, of size h, of the other set
unfoldable pub united : ℕ → List Bool → ℕ → List Bool → List Bool
united g set h other = set_of (length set) (λ k. is_in set k || meets_some (granule g k) h other)

-- a disk's size, its granules' size and a truth value for each of them
pub record GranuleSet : Type 0 where
  pub size : ℕ
  pub granularity : ℕ
  pub set : List Bool

-- the granularity is lawful, there aren't too many granules, and each has its truth value
pub record IsShaped (s : GranuleSet) : Type 0 where
  pub lawful : IsTrue (is_granularity s.granularity)
  pub few : granules_in s.size s.granularity ≤ 2 ^ 27
  pub whole : length s.set ≡ granules_in s.size s.granularity

-- no granule of a disk
abbrev pub none_of : ℕ → ℕ → GranuleSet
none_of size granularity = record { size = size; granularity = granularity; set = replicate (granules_in size granularity) false }

-- the set without any of its granules
abbrev pub cleared : GranuleSet → GranuleSet
cleared s = record s { set = replicate (length s.set) false }

-- the set and each granule that meets the range
abbrev pub marked : GranuleSet → Extent → GranuleSet
marked s e = record s { set = widened s.granularity e s.set }

-- the set and each granule that meets a granule of the other, whatever the two granularities
abbrev pub merged : GranuleSet → GranuleSet → GranuleSet
merged s other = record s { set = united s.granularity s.set other.granularity other.set }
