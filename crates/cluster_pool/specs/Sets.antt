-- Sets of the numbers below a length, as one truth value for each, and how words of 64 bits spell them.
use Rattle.std.specs.Prelude.{ℕ, ◌/◌, ◌%◌, List, length, Bool, not, ◌&&◌, ◌||◌, ◌==◌, slice_index}
use Rattle.std.specs.Int.{bit_at}
use Rattle.bitmap_model.specs.Granules.{set_of, is_in}

-- the number is in the set that these words spell: bit k % 64 of word k / 64
abbrev pub is_in_words : List ℕ → ℕ → Bool
is_in_words words k = bit_at (slice_index words (k / 64)) (k % 64) == 1

-- the set, and this number
unfoldable pub with_member : List Bool → ℕ → List Bool
with_member set k = set_of (length set) (λ j. (j == k) || is_in set j)

-- the set without this number
unfoldable pub without_member : List Bool → ℕ → List Bool
without_member set k = set_of (length set) (λ j. not (j == k) && is_in set j)
