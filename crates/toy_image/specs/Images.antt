-- Images without holes and bitmaps, whose guest bytes stand in one run of the file.
use Rattle.std.specs.Prelude.{◌≡◌, ◌≢◌, ◌⊎◌, ℕ, ◌+◌, ◌-◌, ◌*◌, ◌/◌, ◌%◌, ◌^◌, ◌<◌, ◌≤◌, ◌==◌, ◌&&◌, nat_lt, List, length, replicate, Bool, true, Some, None, Ok, Contains, IsTrue}
use Rattle.std.specs.List.{range_with_len, count_by}
use Rattle.disk_model.specs.Files.{byte, reading, overlay, u64_at}
use Rattle.disk_model.specs.World.{World, FileFailed}
use Rattle.bitmap_model.specs.Granules.{granules_in}
use Rattle.qc_layout.specs.declared.entry.L2Entry.TheVariants as entries
use Rattle.qc_layout.specs.Disks.{entry_at, table_at, bits_of, blocks_in, block_at, counts_in, words_in}
use Rattle.qc_layout.specs.Owners.{Tight}
use Rattle.qc_layout.specs.Directory.{directory_in}
use Rattle.qc_layout.specs.Header.{fields_of}
use Rattle.qc_layout.specs.declared.header.Fields.{Fields}
use Rattle.qc_layout.specs.declared.header.Header.{Header}
use Rattle.qc_layout.specs.declared.header.HeaderFault.{HeaderFault}
use Rattle.qc_layout.specs.declared.header.HeaderFault.TheVariants as faults
use Rattle.qc_layout.specs.declared.header.Own.TheVariants as owns
use Rattle.qc_layout.specs.declared.header.Part.TheVariants as parts
use Rattle.qc_layout.specs.Laws.{start_length}
use Rattle.qc_layout.specs.Spelling.{Spells}
use Rattle.qc_layout.specs.Room.{HasRoom, IsFreeFrom}
use Rattle.image_model.specs.Space.{Store, Data, IsShapedStore, entries_in}
use Rattle.image_model.specs.Images.{IsSourceOf}
use Rattle.core_node.specs.Ends.{RewritesHeader}
use Rattle.toy_image.specs.declared.numbers.Numbers.{Numbers}
use Rattle.toy_image.specs.declared.image.Blocks.{Blocks}
use Rattle.toy_image.specs.declared.image.NotLooked.{NotLooked}
use Rattle.toy_image.specs.declared.image.NotLooked.TheVariants as unlooked

-- each cluster is Data, each table is there
abbrev pub store_of : Numbers → Store
store_of n = record {
  cluster = n.cluster;
  kinds = replicate (granules_in n.size n.cluster) Data;
  tables = replicate (granules_in (granules_in n.size n.cluster) (entries_in n.cluster)) true;
  room = n.room;
}

-- ---- the form

-- its numbers are those of such an image
pub record IsSuited (n : Numbers) : Type 0 where
  pub first : ℕ
  pub base_is : n.base ≡ first * 512
  pub sectors : ℕ
  pub size_is : n.size ≡ sectors * 512
  pub shape : IsShapedStore n.size (store_of n)
  pub near : n.base + n.size ≤ 2 ^ 62

-- the first cluster, counts and tables stand in front of the guest's bytes
pub record IsInFront (base kinds tables : ℕ) (file : List ℕ) : Type 0 where
  pub cluster : 2 ^ bits_of file ≤ base
  pub head : start_length file ≤ base
  pub counts : (i : ℕ) → i < blocks_in file → (fields_of file).refcount_table_offset + 8 * i + 8 ≤ base
  pub some : 0 < counts_in (bits_of file)
  pub blocks : (i r : ℕ) → i < blocks_in file → r < counts_in (bits_of file) → block_at file i + 2 * r + 2 ≤ base
  pub firsts : (i : ℕ) → i < (fields_of file).l1_size → (fields_of file).l1_table_offset + 8 * i + 8 ≤ base
  pub seconds : (i table j : ℕ) → i < (fields_of file).l1_size → table_at file i ≡ Ok (Some table) → j < words_in (bits_of file) → table + 8 * j + 8 ≤ base
  -- the tables of the disk are among those of the file
  pub slots : (k : ℕ) → k < kinds → (k / words_in (bits_of file) < (fields_of file).l1_size) × (k % words_in (bits_of file) < words_in (bits_of file))
  pub used : (i : ℕ) → i < tables → i < (fields_of file).l1_size

-- the file is a source in order, whose guest bytes stand one after another from the base on
pub record IsImage (n : Numbers) (disk file : List ℕ) : Type 0 where
  pub source : IsSourceOf file disk n.id n.epoch (store_of n)
  -- no directory of bitmaps
  pub bare : directory_in file ≡ None
  pub room : HasRoom file n.room
  -- the guest's clusters are the last
  pub behind : IsFreeFrom file (granules_in (n.base + n.size) n.cluster)
  pub linear : (x : ℕ) → x < n.size → (host : ℕ) × (entry_at file (x / 2 ^ bits_of file) ≡ Ok (entries.Stored host)) × (host + x % 2 ^ bits_of file ≡ n.base + x) × (x / 2 ^ bits_of file < length (store_of n).kinds)
  pub front : IsInFront n.base (length (store_of n).kinds) (length (store_of n).tables) file
  pub size_is : length disk ≡ n.size
  pub inside : n.base + n.size ≤ length file
  pub tight : Tight file

-- the guest's bytes
abbrev pub disk_in : Numbers → List ℕ → List ℕ
disk_in n file = reading file n.base n.size

-- the place isn't among the guest's
abbrev pub IsOutside : Numbers → ℕ → Type 0
IsOutside n i = (i < n.base) ⊎ (n.base + n.size ≤ i)

-- a file that differs from this one in guest bytes alone
pub record IsLike (n : Numbers) (file other : List ℕ) : Type 0 where
  pub long : length other ≡ length file
  pub outside : (i : ℕ) → IsOutside n i → byte other i ≡ byte file i

-- An image whose guest bytes alone were changed is in order, and stands for the disk that has them.
abbrev pub GuestBytesAreFree : Type 0
GuestBytesAreFree = (n : Numbers) (disk file other : List ℕ) → IsSuited n → IsImage n disk file → IsLike n file other → IsImage n (disk_in n other) other

-- a version of the file, with one of these disks
pub record IsVersionOf (n : Numbers) (disks : List (List ℕ)) (file version : List ℕ) : Type 0 where
  pub like : IsLike n file version
  pub among : Contains disks (disk_in n version)

-- ---- what is opened

-- the file is an image of the form, with these numbers
pub record IsImageOf (n : Numbers) (file : List ℕ) : Type 0 where
  pub suits : IsSuited n
  pub disk : List ℕ
  pub image : IsImage n disk file

-- with some
pub record Opens (file : List ℕ) : Type 0 where
  pub numbers : Numbers
  pub is : IsImageOf numbers file

-- Where files are told and this is an image of the form, these are its numbers and its header.
pub record IsLooked (n : Numbers) (header : Header) (tells : Bool) (file : List ℕ) : Type 0 where
  pub near : n.base + n.size ≤ 2 ^ 62
  pub image : IsTrue tells → Opens file → IsImageOf n file
  pub spelled : IsTrue tells → Opens file → Spells parts.Source file header

-- Why the numbers aren't known: the file is of another form, a call on it failed, or there was no memory.
abbrev pub NotLookedFor : NotLooked → ℕ → World → World → Type 0
NotLookedFor unlooked.Other f old new = IsTrue old.tells → Opens (old.seen f) → ⊥
NotLookedFor unlooked.Failed f old new = FileFailed f old new
NotLookedFor unlooked.Memory f old new = Unit {0}

-- a header is of another form for each fault but want of memory
abbrev pub IsRefusal : NotLooked → HeaderFault → Type 0
IsRefusal unlooked.Other fault = fault ≢ faults.Memory
IsRefusal unlooked.Failed fault = ⊥
IsRefusal unlooked.Memory fault = Unit {0}

-- ---- the next epoch

abbrev pub raised : Numbers → Numbers
raised n = record n { epoch = n.epoch + 1 }

-- no autoclear bit is kept: the one that is known is that of bitmaps
abbrev pub cleared : Fields → Fields
cleared f = record f { autoclear_features = 0 }

-- the file spells this header, but with the next epoch
pub record SpellsNext (header : Header) (id : List ℕ) (epoch offset long : ℕ) (file : List ℕ) : Type 0 where
  pub next : Header
  pub spelled : Spells parts.Source file next
  pub fields : next.fields ≡ cleared header.fields
  pub kept : next.kept.items.items ≡ header.kept.items.items
  pub bitmaps : next.bitmaps ≡ header.bitmaps
  pub own : next.own ≡ owns.Source id (epoch + 1) offset long

-- the sector makes each file spell it
abbrev pub HasNextEpoch : Header → List ℕ → Type 0
HasNextEpoch header sector = (file written id : List ℕ) (epoch offset long : ℕ) → Spells parts.Source file header → header.own ≡ owns.Source id epoch offset long → epoch < 2 ^ 64 - 1
    → 512 ≤ length written → reading written 0 512 ≡ sector → SpellsNext header id epoch offset long written

-- This sector in the place of its first makes the file the image of the next epoch.
pub record Raises (n : Numbers) (sector file : List ℕ) : Type 0 where
  pub long : 512 ≤ length file
  pub image : (disk : List ℕ) → IsImage n disk file → IsImage (raised n) disk (overlay file 0 sector)
  pub header : RewritesHeader file (overlay file 0 sector)

-- ---- missing blocks

-- block i isn't named, and counts a cluster between the two
abbrev pub is_missing_in : List ℕ → Blocks → ℕ → Bool
is_missing_in file b i = (u64_at file (b.at + 8 * i) / 512 * 512 == 0) && (nat_lt b.next ((i + 1) * b.counts) && nat_lt (i * b.counts) b.reach)

abbrev pub missing_below : List ℕ → Blocks → ℕ → ℕ
missing_below file b n = count_by (is_missing_in file b) (range_with_len 0 n)

abbrev pub missing_in : List ℕ → Blocks → ℕ
missing_in file b = missing_below file b b.count
