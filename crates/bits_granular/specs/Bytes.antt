-- A set of granules as bytes: bit n stands in byte n / 8 at the value 2^(n % 8).
use Rattle.std.specs.Prelude.{◌≡◌, ℕ, ◌/◌, ◌%◌, ◌≤◌, List, length, Bool, ◌==◌, slice_index, IsTrue}
use Rattle.std.specs.Int.{bit_at, div_ceil}
use Rattle.bitmap_model.specs.Granules.{GranuleSet, set_of, is_in, granules_in, IsAllowed}

-- bit n of the bytes; no bit stands past their end
abbrev pub bit_of : List ℕ → ℕ → Bool
bit_of bytes n = bit_at (slice_index bytes (n / 8)) (n % 8) == 1

-- how many bytes so many bits take
abbrev pub bytes_for : ℕ → ℕ
bytes_for n = div_ceil n 8

-- the bytes spell the set: there are as many as it takes, and each bit says whether its number is in the set
pub record IsSpelling (set : List Bool) (bytes : List ℕ) : Type 0 where
  pub count : length bytes ≡ bytes_for (length set)
  pub bits : (n : ℕ) → bit_of bytes n ≡ is_in set n

-- such a set may be made, and there are enough bytes for it
abbrev pub AreEnough : ℕ → ℕ → List ℕ → Type 0
AreEnough size granularity bytes = IsAllowed size granularity × (bytes_for (granules_in size granularity) ≤ length bytes)

-- a bit is set from number n on
abbrev pub HasTail : ℕ → List ℕ → Type 0
HasTail n bytes = (k : ℕ) × (n ≤ k) × IsTrue (bit_of bytes k)

-- the set of a disk's granules that the bytes spell
abbrev pub spelled : ℕ → ℕ → List ℕ → GranuleSet
spelled size granularity bytes = record { size = size; granularity = granularity; set = set_of (granules_in size granularity) (bit_of bytes) }
