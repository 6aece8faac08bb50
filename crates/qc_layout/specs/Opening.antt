-- How an opening goes through the clusters of an image: what it tests and which clusters it claims, in order, and what it refuses first.
use Rattle.std.specs.Prelude.{◌≡◌, ◌≢◌, ◌⊎◌, ℕ, ◌+◌, ◌*◌, ◌/◌, ◌%◌, ◌^◌, ◌<◌, ◌≤◌, List, [], ◌∷◌, ◌++◌, map, flat_map, not, ◌||◌, nat_le, ◌==◌, if◌then◌else◌, Option, Some, None, Result, Ok, Err}
use Rattle.std.specs.List.{list_any, range_with_len}
use Rattle.std.specs.Int.{div_ceil}
use Rattle.disk_model.specs.Files.{u64_at}
use Rattle.qc_layout.specs.declared.entry.EntryFault.{EntryFault}
use Rattle.qc_layout.specs.declared.entry.EntryFault.TheVariants as entry_faults
use Rattle.qc_layout.specs.declared.entry.L2Entry.{L2Entry}
use Rattle.qc_layout.specs.declared.entry.L2Entry.TheVariants as entries
use Rattle.qc_layout.specs.declared.faults.ImageFault.{ImageFault}
use Rattle.qc_layout.specs.declared.faults.ImageFault.TheVariants.{BadBlock, Reserved, Compressed, Misaligned, PastLimit, Overlap, Uncounted}
use Rattle.qc_layout.specs.Entries.{l2_of}
use Rattle.qc_layout.specs.Header.{fields_of}
use Rattle.qc_layout.specs.Disks.{bits_of, blocks_in, block_at, table_at, reach_of, refcount, words_in, place_of}
use Rattle.qc_layout.specs.Owners.{Who, Refers}
use Rattle.qc_layout.specs.Owners.Who.{Head, Counts, Block, Tables, Table, Guest}

-- one step of an opening: an entry that is refused, a cluster that must lie below the reach, or one that its owner refers to
pub data Check : Type 0 where
  Refused : (fault : ImageFault) → Check
  Reached : (cluster : ℕ) → Check
  Claim : (owner : Who) (cluster : ℕ) → Check

-- why a cluster can't be referred to once more, where these have been
abbrev pub claim_fault : List ℕ → List ℕ → ℕ → Option ImageFault
claim_fault file claimed k =
    if nat_le (reach_of file) k then Some (PastLimit (place_of (bits_of file) k))
    else if list_any (λ other. other == k) claimed then Some (Overlap (place_of (bits_of file) k))
    else if refcount file k == 0 then Some (Uncounted (place_of (bits_of file) k))
    else None

-- what is refused first, where these clusters have been claimed before
abbrev pub refused_after : List ℕ → List ℕ → List Check → Option ImageFault
refused_after file claimed [] = None
refused_after file claimed (Refused fault ∷ checks) = Some fault
refused_after file claimed (Reached k ∷ checks) =
    if nat_le (reach_of file) k then Some (PastLimit (place_of (bits_of file) k)) else refused_after file claimed checks
refused_after file claimed (Claim owner k ∷ checks) =
    elim (claim_fault file claimed k) [ Some found ↦ Some found | None ↦ refused_after file (k ∷ claimed) checks ]

-- what each number below n gives, one after another
abbrev pub each_below : ℕ → (ℕ → List Check) → List Check
each_below n f = flat_map f (range_with_len 0 n)

-- ---- refcounts

-- the clusters of the refcount table
abbrev pub count_clusters : List ℕ → List ℕ
count_clusters file = range_with_len ((fields_of file).refcount_table_offset / 2 ^ bits_of file) (fields_of file).refcount_table_clusters

-- where entry i of the refcount table stands
abbrev pub block_entry : List ℕ → ℕ → ℕ
block_entry file i = (fields_of file).refcount_table_offset + 8 * i

-- The block that it names, if it names one. It is bad where one of bits 0 to 8 is set or the block doesn't begin at a cluster.
abbrev pub block_named : List ℕ → ℕ → Result (Option ℕ) ImageFault
block_named file i =
    if not (u64_at file (block_entry file i) % 512 == 0) || not (block_at file i % 2 ^ bits_of file == 0) then Err (BadBlock (block_entry file i))
    else Ok (if block_at file i == 0 then None else Some (block_at file i))

-- the entry is tested, and its block must lie below the reach
abbrev pub block_tests : List ℕ → Result (Option ℕ) ImageFault → List Check
block_tests file (Err fault) = Refused fault ∷ []
block_tests file (Ok None) = []
block_tests file (Ok (Some block)) = Reached (block / 2 ^ bits_of file) ∷ []

-- and the block of an entry that passed is claimed
abbrev pub block_claims : List ℕ → ℕ → Result (Option ℕ) ImageFault → List Check
block_claims file i (Err fault) = []
block_claims file i (Ok None) = []
block_claims file i (Ok (Some block)) = Claim (Block i) (block / 2 ^ bits_of file) ∷ []

-- Of the refcounts: their table lies below the reach, and so do the blocks that its entries name.
abbrev pub count_tests : List ℕ → List Check
count_tests file = map Reached (count_clusters file) ++ each_below (blocks_in file) (λ i. block_tests file (block_named file i))

-- Then header, table and blocks are claimed.
abbrev pub count_claims : List ℕ → List Check
count_claims file =
    Claim Head 0 ∷ (map (Claim Counts) (count_clusters file) ++ each_below (blocks_in file) (λ i. block_claims file i (block_named file i)))

abbrev pub count_checks : List ℕ → List Check
count_checks file = count_tests file ++ count_claims file

-- ---- the two levels

-- of an entry that stands here
abbrev pub fault_at : ℕ → EntryFault → ImageFault
fault_at at entry_faults.Reserved = Reserved at
fault_at at entry_faults.Misaligned = Misaligned at

-- what is done for a slot whose entry stands here: it is tested, and its cluster is claimed
abbrev pub slot_checks : ℕ → Who → ℕ → Result L2Entry EntryFault → List Check
slot_checks bits slot at (Err fault) = Refused (fault_at at fault) ∷ []
slot_checks bits slot at (Ok entries.Compressed) = Refused (Compressed at) ∷ []
slot_checks bits slot at (Ok entries.Hole) = []
slot_checks bits slot at (Ok (entries.Zero host)) = Claim slot (host / 2 ^ bits) ∷ []
slot_checks bits slot at (Ok (entries.Stored host)) = Claim slot (host / 2 ^ bits) ∷ []

-- slot j of the table that entry i of the first level names
abbrev pub slot_of : List ℕ → ℕ → ℕ → ℕ → List Check
slot_of file i table j = slot_checks (bits_of file) (Guest i j) (table + 8 * j) (l2_of (bits_of file) (u64_at file (table + 8 * j)))

-- where entry i of the first level stands
abbrev pub table_entry : List ℕ → ℕ → ℕ
table_entry file i = (fields_of file).l1_table_offset + 8 * i

-- what is done for it: it is tested, its table is claimed, and then come the slots of that, one after another
abbrev pub table_checks : List ℕ → ℕ → Result (Option ℕ) EntryFault → List Check
table_checks file i (Err fault) = Refused (fault_at (table_entry file i) fault) ∷ []
table_checks file i (Ok None) = []
table_checks file i (Ok (Some table)) = Claim (Table i) (table / 2 ^ bits_of file) ∷ each_below (words_in (bits_of file)) (slot_of file i table)

-- the clusters that the first level fills, the last one in part
abbrev pub table_clusters : List ℕ → List ℕ
table_clusters file = range_with_len ((fields_of file).l1_table_offset / 2 ^ bits_of file) (div_ceil (8 * (fields_of file).l1_size) (2 ^ bits_of file))

-- Of the disk's clusters: the first level is claimed, and then gone through entry by entry.
abbrev pub map_checks : List ℕ → List Check
map_checks file = map (Claim Tables) (table_clusters file) ++ each_below (fields_of file).l1_size (λ i. table_checks file i (table_at file i))

-- ---- the image

abbrev pub image_checks : List ℕ → List Check
image_checks file = count_checks file ++ map_checks file

-- why an image's clusters are refused
unfoldable pub cluster_fault : List ℕ → Option ImageFault
cluster_fault file = refused_after file [] (image_checks file)

-- ---- what a fault says of the image

-- an entry of the first level that stands here says this
pub record IsFirst (file : List ℕ) (at : ℕ) (says : Result (Option ℕ) EntryFault) : Type 0 where
  pub i : ℕ
  pub below : i < (fields_of file).l1_size
  pub place : at ≡ table_entry file i
  pub is : table_at file i ≡ says

-- a slot of a second-level table that stands here says this
pub record IsSlot (file : List ℕ) (at : ℕ) (says : Result L2Entry EntryFault) : Type 0 where
  pub i : ℕ
  pub table : ℕ
  pub j : ℕ
  pub below : i < (fields_of file).l1_size
  pub named : table_at file i ≡ Ok (Some table)
  pub inside : j < words_in (bits_of file)
  pub place : at ≡ table + 8 * j
  pub is : l2_of (bits_of file) (u64_at file (table + 8 * j)) ≡ says

abbrev pub IsCause : List ℕ → ImageFault → Type 0
IsCause file (BadBlock at) = (i : ℕ) × (i < blocks_in file) × (at ≡ block_entry file i) × (u64_at file (block_entry file i) % 2 ^ bits_of file ≢ 0)
IsCause file (Reserved at) = IsFirst file at (Err entry_faults.Reserved) ⊎ IsSlot file at (Err entry_faults.Reserved)
IsCause file (Compressed at) = IsSlot file at (Ok entries.Compressed)
IsCause file (Misaligned at) = IsFirst file at (Err entry_faults.Misaligned) ⊎ IsSlot file at (Err entry_faults.Misaligned)
IsCause file (PastLimit offset) = (k : ℕ) × (owner : Who) × (offset ≡ place_of (bits_of file) k) × Refers file owner k × (reach_of file ≤ k)
IsCause file (Overlap offset) =
    (k : ℕ) × (owner : Who) × (other : Who) × (offset ≡ place_of (bits_of file) k) × Refers file owner k × Refers file other k × (owner ≢ other)
IsCause file (Uncounted offset) = (k : ℕ) × (owner : Who) × (offset ≡ place_of (bits_of file) k) × Refers file owner k × (refcount file k ≡ 0)
