-- Tables that are in order, and which clusters of an image can still be handed out (qcow2 specification, "Host cluster management").
use Rattle.std.specs.Prelude.{◌≡◌, ℕ, ◌+◌, ◌-◌, ◌*◌, ◌/◌, ◌%◌, ◌^◌, ◌<◌, ◌≤◌, max, List, length, Bool, ◌&&◌, nat_lt, ◌==◌, if◌then◌else◌, Option, Some, Result, Ok, Err}
use Rattle.std.specs.List.{range_with_len, count_by}
use Rattle.disk_model.specs.Files.{u64_at}
use Rattle.qc_layout.specs.declared.entry.EntryFault.{EntryFault}
use Rattle.qc_layout.specs.declared.entry.L2Entry.{L2Entry}
use Rattle.qc_layout.specs.declared.entry.L2Entry.TheVariants.{Hole, Zero, Stored, Compressed}
use Rattle.qc_layout.specs.Entries.{l2_of}
use Rattle.qc_layout.specs.Header.{fields_of}
use Rattle.qc_layout.specs.Disks.{bits_of, place_of, words_in, counts_in, blocks_in, block_at, table_at, refcount, reach_of}
use Rattle.qc_layout.specs.Owners.{TablesCounted}

-- ---- tables in order

-- the entry can be read, and names no compressed cluster
abbrev pub IsInOrder : Result L2Entry EntryFault → Type 0
IsInOrder (Ok Hole) = Unit {0}
IsInOrder (Ok (Zero host)) = Unit {0}
IsInOrder (Ok (Stored host)) = Unit {0}
IsInOrder (Ok Compressed) = ⊥
IsInOrder (Err fault) = ⊥

-- The tables pass the rules of an opening, bitmaps apart: blocks begin at clusters, each entry of both levels is in order, and each cluster that
-- is referred to is so once, lies below the reach and is counted.
pub record TablesPass (file : List ℕ) : Type 0 where
  pub blocks : (i : ℕ) → i < blocks_in file → u64_at file ((fields_of file).refcount_table_offset + 8 * i) % 2 ^ bits_of file ≡ 0
  pub tables : (i : ℕ) → i < (fields_of file).l1_size → (table : Option ℕ) × (table_at file i ≡ Ok table)
  pub entries : (i table j : ℕ) → i < (fields_of file).l1_size → table_at file i ≡ Ok (Some table) → j < words_in (bits_of file)
      → IsInOrder (l2_of (bits_of file) (u64_at file (table + 8 * j)))
  pub counted : TablesCounted file

-- ---- room

-- from cluster n on none is counted, and the file has no bytes
pub record IsFreeFrom (file : List ℕ) (n : ℕ) : Type 0 where
  pub uncounted : (k : ℕ) → n ≤ k → refcount file k ≡ 0
  pub past : length file ≤ place_of (bits_of file) n

-- the least such
pub record IsNextFree (file : List ℕ) (n : ℕ) : Type 0 where
  pub free : IsFreeFrom file n
  pub least : (m : ℕ) → IsFreeFrom file m → n ≤ m

-- block i is missing, and counts a cluster from n on and below the reach: it would take one of these for itself
abbrev pub is_missing_block : List ℕ → ℕ → ℕ → Bool
is_missing_block file n i = (block_at file i == 0) && (nat_lt n ((i + 1) * counts_in (bits_of file)) && nat_lt (i * counts_in (bits_of file)) (reach_of file))

abbrev pub missing_blocks : List ℕ → ℕ → ℕ
missing_blocks file n = count_by (is_missing_block file n) (range_with_len 0 (blocks_in file))

-- how many clusters from n on can be handed out
abbrev pub room_from : List ℕ → ℕ → ℕ
room_from file n = if nat_lt n (reach_of file) then reach_of file - n - missing_blocks file n else 0

-- the room of an image as an opening finds it
pub record HasRoom (file : List ℕ) (room : ℕ) : Type 0 where
  pub next : ℕ
  pub is_next : IsNextFree file next
  pub count : room ≡ room_from file next

-- ---- neighbours

-- Clusters are handed out upwards from n on. Where the block that counts one is missing, the first of those that it counts becomes it.
abbrev pub BecomesBlock : List ℕ → ℕ → ℕ → Type 0
BecomesBlock file n k = (block_at file (k / counts_in (bits_of file)) ≡ 0) × (k ≡ max n (k / counts_in (bits_of file) * counts_in (bits_of file)))

-- so many neighbours from `first` on can be handed out together: they lie below the reach, and none becomes a block
pub record IsRun (file : List ℕ) (n count first : ℕ) : Type 0 where
  pub from : n ≤ first
  pub below : first + count ≤ reach_of file
  pub plain : (k : ℕ) → first ≤ k → k < first + count → BecomesBlock file n k → ⊥

-- the first such
pub record IsFirstRun (file : List ℕ) (n count first : ℕ) : Type 0 where
  pub is : IsRun file n count first
  pub least : (other : ℕ) → IsRun file n count other → first ≤ other

-- none is left
abbrev pub HasNoRun : List ℕ → ℕ → Type 0
HasNoRun file count = (n first : ℕ) → IsNextFree file n → IsRun file n count first → ⊥
