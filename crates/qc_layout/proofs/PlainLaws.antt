-- Plain entries of both levels: what is read of a word that is 0 or names a stored cluster, and which words that is read of.
use Rattle.std.proofs.Common.{rules}
use Rattle.std.proofs.Common.{◌≡◌, ◌⊎◌, ℕ, ◌%◌, ◌^◌, Some, None, Ok}
use Rattle.std.specs.Prelude.{◌==◌, if◌then◌else◌}
use Rattle.qc_layout.specs.declared.entry.L2Entry.TheVariants.{Hole, Stored}
use Rattle.qc_layout.specs.Entries.{offset_in, l1_of, l2_of}
use Rattle.qc_layout.specs.FirstForm.{IsPlainEntry}

-- a plain entry whose offset is aligned, and that offset
pub record IsPlainAt (bits word offset : ℕ) : Type 0 where
  pub plain : IsPlainEntry word
  pub aligned : offset_in word % 2 ^ bits ≡ 0
  pub is : offset ≡ offset_in word

-- ---- the first level

-- a word that is read as an offset
pub l1_some : (bits word offset : ℕ) → l1_of bits word ≡ Ok (Some offset) → IsPlainAt bits word offset
unfolding l1_of
l1_some bits word offset h = search rules

-- one that is read as none
pub l1_none : (bits word : ℕ) → l1_of bits word ≡ Ok None → offset_in word ≡ 0
unfolding l1_of
l1_none bits word h = search rules

-- what is read of a plain word
pub l1_plain : (bits word : ℕ) → IsPlainEntry word → offset_in word % 2 ^ bits ≡ 0 → l1_of bits word ≡ Ok (if offset_in word == 0 then None else Some (offset_in word))
unfolding l1_of
l1_plain bits word plain aligned = cc

-- ---- the second level

-- a word that is read as a stored cluster
pub l2_stored : (bits word offset : ℕ) → l2_of bits word ≡ Ok (Stored offset) → IsPlainAt bits word offset
unfolding l2_of
l2_stored bits word offset h = search rules

-- one that is read as a hole
pub l2_hole : (bits word : ℕ) → l2_of bits word ≡ Ok Hole → offset_in word ≡ 0
unfolding l2_of
l2_hole bits word h = search rules

-- what is read of a plain word
pub l2_plain : (bits word : ℕ) → IsPlainEntry word → offset_in word % 2 ^ bits ≡ 0 → (l2_of bits word ≡ Ok Hole) ⊎ (l2_of bits word ≡ Ok (Stored (offset_in word)))
unfolding l2_of
l2_plain bits word plain aligned = search rules
