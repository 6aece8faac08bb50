-- Entries of the two levels of tables, by their bits (qcow2 specification, "L1 table entry", "L2 table entry").
use Rattle.std.specs.Prelude.{◌≡◌, ℕ, ◌+◌, ◌*◌, ◌/◌, ◌%◌, ◌^◌, ◌<◌, Option, Some, None, Result, Ok, Err, ◌==◌, ◌&&◌, if◌then◌else◌}
use Rattle.qc_layout.specs.declared.entry.EntryFault.{EntryFault}
use Rattle.qc_layout.specs.declared.entry.EntryFault.TheVariants.{Reserved, Misaligned}
use Rattle.qc_layout.specs.declared.entry.L2Entry.{L2Entry}
use Rattle.qc_layout.specs.declared.entry.L2Entry.TheVariants.{Hole, Zero, Stored, Compressed}

-- bit 63: the refcount is one; bit 62: the cluster is compressed; bit 0: it reads as zeros
abbrev pub copied_flag : ℕ
copied_flag = 2 ^ 63

abbrev pub compressed_flag : ℕ
compressed_flag = 2 ^ 62

abbrev pub zero_flag : ℕ
zero_flag = 1

-- bits 9 to 55, as an offset
abbrev pub offset_in : ℕ → ℕ
offset_in entry = entry / 512 % 2 ^ 47 * 512

-- what an entry of the first level says, for clusters of 2 to the power bits bytes
unfoldable pub l1_of : ℕ → ℕ → Result (Option ℕ) EntryFault
l1_of bits entry =
    if (entry % 512 == 0) && (entry / 2 ^ 56 % 128 == 0) then
    (if offset_in entry % 2 ^ bits == 0 then Ok (if offset_in entry == 0 then None else Some (offset_in entry)) else Err Misaligned)
    else Err Reserved

-- what an entry of the second level says
unfoldable pub l2_of : ℕ → ℕ → Result L2Entry EntryFault
l2_of bits entry =
    if entry / compressed_flag % 2 == 1 then Ok Compressed
    else if (entry / 2 % 256 == 0) && (entry / 2 ^ 56 % 64 == 0) then
    (if offset_in entry % 2 ^ bits == 0 then
    Ok (if offset_in entry == 0 then Hole else if entry % 2 == zero_flag then Zero (offset_in entry) else Stored (offset_in entry))
    else Err Misaligned)
    else Err Reserved

-- an offset that an entry can hold
pub record IsOffset (offset : ℕ) : Type 0 where
  pub whole : offset % 512 ≡ 0
  pub some : 0 < offset
  pub small : offset < 2 ^ 56

-- an entry that some word says
abbrev pub IsWritable : L2Entry → Type 0
IsWritable Hole = Unit {0}
IsWritable (Zero offset) = IsOffset offset
IsWritable (Stored offset) = IsOffset offset
IsWritable Compressed = Unit {0}

-- the word that says it: bit 63 beside each offset, and 0 for a hole
abbrev pub l2_word : L2Entry → ℕ
l2_word Hole = 0
l2_word (Zero offset) = offset + zero_flag + copied_flag
l2_word (Stored offset) = offset + copied_flag
l2_word Compressed = compressed_flag
