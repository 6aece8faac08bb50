-- Who refers to which cluster of an image (qcow2 specification, "Host cluster management", "Bitmaps").
use Rattle.std.specs.Prelude.{◌≡◌, ◌≢◌, ℕ, ◌+◌, ◌*◌, ◌^◌, ◌<◌, List, Some, Result, Ok, Contains}
use Rattle.disk_model.specs.Files.{u64_at}
use Rattle.qc_layout.specs.declared.entry.EntryFault.{EntryFault}
use Rattle.qc_layout.specs.declared.entry.L2Entry.{L2Entry}
use Rattle.qc_layout.specs.declared.entry.L2Entry.TheVariants.{Zero, Stored}
use Rattle.qc_layout.specs.declared.header.DirPlace.{DirPlace}
use Rattle.qc_layout.specs.Entries.{l2_of}
use Rattle.qc_layout.specs.Header.{fields_of}
use Rattle.qc_layout.specs.Disks.{bits_of, place_of, words_in, blocks_in, block_at, table_at, refcount, reach_of}
use Rattle.qc_layout.specs.Directory.{ListedBitmap, Data, directory_in, listed_in, piece_at, spans_in, spans_size}

-- what holds clusters for bitmaps; a bitmap is named, so that its clusters are its own wherever it stands in the directory
pub data Held : Type 0 where
  Directory : Held
  -- a bitmap's table, and the data cluster of an entry of it
  BitsTable : (name : List ℕ) → Held
  Bits : (name : List ℕ) (index : ℕ) → Held
  -- the table of spans
  Spans : Held

-- What of an image refers to clusters, bitmaps apart. An entry that names no cluster's start refers to none.
pub data Who : Type 0 where
  Head : Who
  -- the refcount table, and a block of it
  Counts : Who
  Block : (index : ℕ) → Who
  -- the first-level table, a second-level table, and a slot of one
  Tables : Who
  Table : (index : ℕ) → Who
  Guest : (index slot : ℕ) → Who

-- n bytes from an offset on meet cluster k
abbrev pub Meets : ℕ → ℕ → ℕ → ℕ → Type 0
Meets bits k from n = (from < place_of bits k + 2 ^ bits) × (place_of bits k < from + n)

-- the entry names this host cluster, as stored or as zeros
abbrev pub HostIs : Result L2Entry EntryFault → ℕ → Type 0
HostIs (Ok (Zero host)) place = host ≡ place
HostIs (Ok (Stored host)) place = host ≡ place
HostIs entry place = ⊥

-- Where these bitmaps are listed. In a directory that breaks a rule they are what its bytes give, as many as the header counts, whether
-- they lie in it or not, and two of one name hold as one; such an image is refused.
abbrev pub Holds : List ℕ → List ListedBitmap → Held → ℕ → Type 0
Holds file listed Directory k = (place : DirPlace) × (directory_in file ≡ Some place) × Meets (bits_of file) k place.offset place.size
Holds file listed (BitsTable name) k = (b : ListedBitmap) × Contains listed b × (b.name ≡ name)
    × Meets (bits_of file) k b.head.table_offset (8 * b.head.table_size)
Holds file listed (Bits name i) k = (b : ListedBitmap) × Contains listed b × (b.name ≡ name)
    × (i < b.head.table_size) × (piece_at file b i ≡ Data (place_of (bits_of file) k))
Holds file listed Spans k = (place : DirPlace) × (offset : ℕ) × (directory_in file ≡ Some place) × (spans_in file ≡ Some offset)
    × Meets (bits_of file) k offset (spans_size place.count)

abbrev pub Refers : List ℕ → Who → ℕ → Type 0
Refers file Head k = k ≡ 0
Refers file Counts k = Meets (bits_of file) k (fields_of file).refcount_table_offset (2 ^ bits_of file * (fields_of file).refcount_table_clusters)
Refers file (Block i) k = (i < blocks_in file) × (block_at file i ≢ 0) × (block_at file i ≡ place_of (bits_of file) k)
Refers file Tables k = Meets (bits_of file) k (fields_of file).l1_table_offset (8 * (fields_of file).l1_size)
Refers file (Table i) k = (i < (fields_of file).l1_size) × (table_at file i ≡ Ok (Some (place_of (bits_of file) k)))
Refers file (Guest i j) k = (table : ℕ) × (i < (fields_of file).l1_size) × (table_at file i ≡ Ok (Some table)) × (j < words_in (bits_of file))
    × HostIs (l2_of (bits_of file) (u64_at file (table + 8 * j))) (place_of (bits_of file) k)

-- no cluster has two of these that refer to it, and each that has one lies below the reach and is counted
pub record TablesCounted (file : List ℕ) : Type 0 where
  pub once : (a b : Who) (k : ℕ) → Refers file a k → Refers file b k → a ≡ b
  pub below : (a : Who) (k : ℕ) → Refers file a k → k < reach_of file
  pub counted : (a : Who) (k : ℕ) → Refers file a k → 0 < refcount file k

-- ---- with what bitmaps hold

pub data Owner : Type 0 where
  Image : (who : Who) → Owner
  Bitmaps : (held : Held) → Owner

abbrev pub Owns : List ℕ → Owner → ℕ → Type 0
Owns file (Image who) k = Refers file who k
Owns file (Bitmaps held) k = Holds file (listed_in file) held k

-- no cluster has two owners, and each that has one lies below the reach and is counted
pub record Counted (file : List ℕ) : Type 0 where
  pub once : (a b : Owner) (k : ℕ) → Owns file a k → Owns file b k → a ≡ b
  pub below : (a : Owner) (k : ℕ) → Owns file a k → k < reach_of file
  pub counted : (a : Owner) (k : ℕ) → Owns file a k → 0 < refcount file k

-- and each that has one is counted once, any other not
pub record Tight (file : List ℕ) : Type 0 where
  pub counted : Counted file
  pub ones : (a : Owner) (k : ℕ) → Owns file a k → refcount file k ≡ 1
  pub others : (k : ℕ) → ((a : Owner) → Owns file a k → ⊥) → refcount file k ≡ 0
