-- Worked examples of directories, in images with clusters of 512 bytes.
use Rattle.std.specs.Prelude.{◌≡◌, ℕ, List, [], ◌∷◌, ◌++◌, replicate, codes, Bool, true, false, Some, None}
use Rattle.span_algebra.specs.declared.points.End.TheVariants.{Now}
use Rattle.span_algebra.specs.declared.spans.Span.{Span}
use Rattle.span_algebra.specs.declared.spans.Span.TheVariants.{Unknown, Known}
use Rattle.bitmap_model.specs.Bitmap.{StoredBitmap}
use Rattle.qc_layout.specs.declared.header.Fields.{Fields}
use Rattle.qc_layout.specs.declared.header.Own.TheVariants as owns
use Rattle.qc_layout.specs.declared.writing.Word.TheVariants.{Four, Eight}
use Rattle.qc_layout.specs.Header.{qcow2_magic}
use Rattle.qc_layout.specs.Spelling.{words_bytes, number_bytes, own_bytes, bitmaps_bytes, sector_with}
use Rattle.qc_layout.specs.Owners.{Held, Directory, BitsTable, Bits, Spans, Bitmaps, Owns}
use Rattle.qc_layout.specs.declared.faults.DirFault.TheVariants.{SameName, TableEntry, Tail}
use Rattle.qc_layout.specs.Directory.{refused, directory_fault, stored_in, spans_in}

-- the numbers of an image for a disk of 4096 bytes
abbrev pub numbers : ℕ → Fields
numbers autoclear = record {
  magic = qcow2_magic;
  version = 3;
  backing_file_offset = 0;
  backing_file_size = 0;
  cluster_bits = 9;
  size = 4096;
  crypt_method = 0;
  l1_size = 1;
  l1_table_offset = 2560;
  refcount_table_offset = 3072;
  refcount_table_clusters = 1;
  nb_snapshots = 0;
  snapshots_offset = 0;
  incompatible_features = 0;
  compatible_features = 0;
  autoclear_features = autoclear;
  refcount_order = 4;
  header_length = 112;
  compression_type = 0;
}

-- an entry of the directory: a bitmap of 8 granules of 512 bytes, with these flags, the table of one entry here, and a name of two bytes
abbrev pub bitmap : ℕ → ℕ → List ℕ → List ℕ
bitmap flags table name = words_bytes (Eight table ∷ Four 1 ∷ Four flags ∷ []) ++ 1 ∷ 9 ∷ 0 ∷ 2 ∷ words_bytes (Four 0 ∷ []) ++ name ++ replicate 6 0

-- its table stands in cluster 2
abbrev pub b0 : ℕ → List ℕ
b0 flags = bitmap flags 1024 (codes "b0")

-- Cluster 1 has the directory, cluster 2 the table of b0, with this entry, cluster 3 the spans, of which the first is up to now from 1.1 on.
-- In cluster 4 the bits 3 and 8 are set.
abbrev pub image : ℕ → ℕ → List ℕ → ℕ → ℕ → List ℕ
image autoclear count directory size word =
    sector_with (number_bytes (numbers autoclear) ++ replicate 8 0 ++ bitmaps_bytes (Some (record { offset = 512; size = size; count = count }))
    ++ own_bytes (owns.Source (replicate 16 7) 1 1536 56))
    ++ sector_with directory
    ++ sector_with (words_bytes (Eight word ∷ []))
    ++ sector_with (words_bytes (Eight 512 ∷ Eight size ∷ []) ++ 2 ∷ replicate 7 0 ++ words_bytes (Eight 1 ∷ Eight 1 ∷ []))
    ++ sector_with (8 ∷ 1 ∷ [])

abbrev pub stored_b0 : List Bool → Span → Bool → Bool → StoredBitmap
stored_b0 set span recording trusted = record {
  name = codes "b0";
  bits = record { size = 4096; granularity = 512; set = set };
  span = span;
  recording = recording;
  trusted = trusted;
}

pub record DirectoriesAreRead : Type 0 where
  -- an entry that isn't in use, where autoclear bit 0 is set, is trusted; all ones have each granule
  pub all_ones : stored_in (image 1 1 (b0 2) 32 1) ≡ stored_b0 (replicate 8 true) (Known (record { epoch = 1; serial = 1 }) Now) true true ∷ []
  pub spans : spans_in (image 1 1 (b0 2) 32 1) ≡ Some 1536
  pub faultless : directory_fault (image 1 1 (b0 2) 32 1) ≡ None
  -- of any other a name and a granularity are known
  pub in_use : stored_in (image 1 1 (b0 3) 32 1) ≡ stored_b0 (replicate 8 false) Unknown false false ∷ []
  pub inconsistent : stored_in (image 0 1 (b0 2) 32 1) ≡ stored_b0 (replicate 8 false) Unknown false false ∷ []
  -- a bit past the last granule
  pub tail : directory_fault (image 1 1 (b0 2) 32 2048) ≡ refused 0 Tail
  -- an entry that says all ones beside an offset
  pub beside_an_offset : directory_fault (image 1 1 (b0 2) 32 2049) ≡ refused 0 TableEntry
  -- names are tested before any table, and nothing is stored then
  pub same_name : directory_fault (image 1 2 (b0 2 ++ b0 2) 64 2049) ≡ refused 1 SameName
  pub stores_none : stored_in (image 1 2 (b0 2 ++ b0 2) 64 2049) ≡ []

-- the holder has this cluster
abbrev pub Has : List ℕ → Held → ℕ → Type 0
Has file held k = Owns file (Bitmaps held) k

pub record ClustersAreHeld : Type 0 where
  pub directory : Has (image 1 1 (b0 2) 32 2048) Directory 1
  pub table : Has (image 1 1 (b0 2) 32 2048) (BitsTable (codes "b0")) 2
  pub bits : Has (image 1 1 (b0 2) 32 2048) (Bits (codes "b0") 0) 4
  pub spans : Has (image 1 1 (b0 2) 32 2048) Spans 3
  -- behind another bitmap it is the same holder
  pub behind : Has (image 1 2 (bitmap 2 3072 (codes "a0") ++ b0 2) 64 2048) (BitsTable (codes "b0")) 2
