-- Worked examples of an opening: images of clusters of 512 bytes, with one first-level entry.
use Rattle.std.specs.Prelude.{◌≡◌, ℕ, ◌+◌, ◌^◌, List, [], ◌∷◌, ◌++◌, replicate, flat_map, length, Some, None}
use Rattle.qc_layout.specs.declared.header.Part.TheVariants as parts
use Rattle.qc_layout.specs.Header.{qcow2_magic, fields_of, number_fault}
use Rattle.qc_layout.specs.Spelling.{word32, word64}
use Rattle.qc_layout.specs.Opening.{cluster_fault}
use Rattle.qc_layout.specs.declared.faults.ImageFault.TheVariants.{BadBlock, Reserved, Compressed, PastLimit, Overlap, Uncounted}

-- a disk of 64 clusters; its refcount table is cluster 1, and its first level cluster 3
abbrev pub head : List ℕ
head =
    word32 qcow2_magic ++ word32 3 ++ word64 0 ++ word32 0 ++ word32 9 ++ word64 32768 ++ word32 0 ++ word32 1 ++ word64 1536 ++ word64 512 ++ word32 1
    ++ word32 0 ++ word64 0 ++ word64 0 ++ word64 0 ++ word64 0 ++ word32 4 ++ word32 104 ++ replicate 408 0

abbrev pub counts : List ℕ
counts = 0 ∷ 1 ∷ 0 ∷ 1 ∷ 0 ∷ 1 ∷ 0 ∷ 1 ∷ 0 ∷ 1 ∷ 0 ∷ 1 ∷ []

-- Clusters 0 to 5 are counted, in cluster 2. The first entry of the refcount table, that of the first level, and the slots in cluster 4.
abbrev pub image : ℕ → ℕ → List ℕ → List ℕ
image block table slots =
    head ++ word64 block ++ replicate 504 0 ++ counts ++ replicate 500 0 ++ word64 table ++ replicate 504 0 ++ flat_map word64 slots

pub record OpeningsRefuse : Type 0 where
  pub header : number_fault parts.Source (length (image 1024 2048 [])) (fields_of (image 1024 2048 [])) ≡ None
  -- a hole and a stored cluster
  pub nothing : cluster_fault (image 1024 2048 (0 ∷ 2560 ∷ [])) ≡ None
  -- the first level names no table
  pub no_table : cluster_fault (image 1024 0 []) ≡ None
  -- bit 0 of an entry of the refcount table; a block past the 16,384 clusters that the table can count
  pub bad_block : cluster_fault (image 1025 2048 []) ≡ Some (BadBlock 512)
  pub block_past : cluster_fault (image (2 ^ 23) 2048 []) ≡ Some (PastLimit (2 ^ 23))
  -- without a block nothing is counted, the header first
  pub no_block : cluster_fault (image 0 2048 []) ≡ Some (Uncounted 0)
  -- bit 1 of an entry of either level, and bit 62 of a slot, which is tested first
  pub first_reserved : cluster_fault (image 1024 2050 []) ≡ Some (Reserved 1536)
  pub slot_reserved : cluster_fault (image 1024 2048 (0 ∷ 2562 ∷ [])) ≡ Some (Reserved 2056)
  pub compressed : cluster_fault (image 1024 2048 ((2 ^ 62 + 2) ∷ [])) ≡ Some (Compressed 2048)
  -- a table where the refcount table stands; a stored cluster where the table stands; a cluster that two slots name, the second as zeros
  pub table_over : cluster_fault (image 1024 512 []) ≡ Some (Overlap 512)
  pub slot_over : cluster_fault (image 1024 2048 (2048 ∷ [])) ≡ Some (Overlap 2048)
  pub twice : cluster_fault (image 1024 2048 (2560 ∷ 2561 ∷ [])) ≡ Some (Overlap 2560)
  -- a cluster that isn't counted, and one that can't be
  pub uncounted : cluster_fault (image 1024 2048 (3072 ∷ [])) ≡ Some (Uncounted 3072)
  pub past : cluster_fault (image 1024 2048 ((2 ^ 23) ∷ [])) ≡ Some (PastLimit (2 ^ 23))
  -- of two faults the one of the first slot
  pub first : cluster_fault (image 1024 2048 (3072 ∷ 2 ∷ [])) ≡ Some (Uncounted 3072)
