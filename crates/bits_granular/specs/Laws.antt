-- The laws, as statements.
use Rattle.std.specs.Prelude.{◌≡◌, ℕ, ◌^◌, ◌<◌, List, length, Bool, All}
use Rattle.bitmap_model.specs.Granules.{set_of}
use Rattle.bits_granular.specs.Bytes.{bit_of, bytes_for, IsSpelling, HasTail}

-- what spells a set is read as that set, and has no bit past it
abbrev pub SpellingReadsBack : Type 0
SpellingReadsBack = (set : List Bool) (bytes : List ℕ) → IsSpelling set bytes → (set_of (length set) (bit_of bytes) ≡ set) × (HasTail (length set) bytes → ⊥)

-- what was read from as many bytes as it takes, with no bit past it, is spelled by them
abbrev pub ReadingSpellsBack : Type 0
ReadingSpellsBack = (n : ℕ) (bytes : List ℕ) → length bytes ≡ bytes_for n → (HasTail n bytes → ⊥) → IsSpelling (set_of n (bit_of bytes)) bytes

-- a set has one spelling
abbrev pub SpellingIsOne : Type 0
SpellingIsOne = (set : List Bool) (one other : List ℕ) → All (λ b. b < 2 ^ 8) one → All (λ b. b < 2 ^ 8) other → IsSpelling set one → IsSpelling set other → one ≡ other
