-- The one form of image that `replay` takes, and the disk that it stands for, as a function of the file's bytes.
use Rattle.std.specs.Prelude.{◌≡◌, ◌≢◌, ℕ, ◌+◌, ◌*◌, ◌/◌, ◌%◌, ◌^◌, ◌<◌, ◌≤◌, List, length, map, ◌==◌, if◌then◌else◌}
use Rattle.std.specs.List.{range_with_len}
use Rattle.disk_model.specs.Files.{byte, reading, u32_at, u64_at}
use Rattle.qc_layout.specs.Entries.{offset_in}
use Rattle.qc_layout.specs.Header.{qcow2_magic}

-- the header without its extensions
abbrev pub head_of : List ℕ → List ℕ
head_of file = reading file 0 104

-- the disk's size in bytes
abbrev pub disk_size : List ℕ → ℕ
disk_size file = u64_at (head_of file) 24

-- where the first-level table stands
abbrev pub l1_offset : List ℕ → ℕ
l1_offset file = u64_at (head_of file) 40

-- The header of an image that is taken: version 3, clusters of 4096 bytes, a disk of at most 2^21 bytes, one first-level
-- entry, no backing file, no encryption, no snapshots, no incompatible or autoclear feature, refcounts of 16 bits.
pub record IsHeader (head : List ℕ) : Type 0 where
  pub magic : u32_at head 0 ≡ qcow2_magic
  pub version : u32_at head 4 ≡ 3
  pub backing : u64_at head 8 ≡ 0
  pub bits : u32_at head 20 ≡ 12
  pub size_some : 0 < u64_at head 24
  pub size_limit : u64_at head 24 ≤ 2 ^ 21
  pub size_whole : u64_at head 24 % 512 ≡ 0
  pub crypt : u32_at head 32 ≡ 0
  pub l1_size : u32_at head 36 ≡ 1
  pub snapshots : u32_at head 60 ≡ 0
  pub incompatible : u64_at head 72 ≡ 0
  pub autoclear : u64_at head 88 ≡ 0
  pub refcount_order : u32_at head 96 ≡ 4

-- where the second-level table stands, or 0
abbrev pub table_offset : List ℕ → ℕ
table_offset file = offset_in (u64_at file (l1_offset file))

-- where cluster n of the disk is stored, or 0
unfoldable pub host_of : List ℕ → ℕ → ℕ
host_of file n = if table_offset file == 0 then 0 else offset_in (u64_at file (table_offset file + 8 * n))

-- byte x of the disk
unfoldable pub disk_byte : List ℕ → ℕ → ℕ
disk_byte file x = if host_of file (x / 4096) == 0 then 0 else byte file (host_of file (x / 4096) + x % 4096)

-- the disk
unfoldable pub disk_of : List ℕ → List ℕ
disk_of file = map (disk_byte file) (range_with_len 0 (disk_size file))

-- how many clusters the disk has
abbrev pub clusters_of : List ℕ → ℕ
clusters_of file = (disk_size file + 4095) / 4096

-- a word that is 0, or names a cluster and sets no bit beside but bit 63
pub record IsPlainEntry (entry : ℕ) : Type 0 where
  pub low : entry % 512 ≡ 0
  pub high : entry / 2 ^ 56 % 128 ≡ 0
  pub zero_or_stored : offset_in entry ≡ 0 → entry ≡ 0

-- the offset is that of a whole cluster of the file, and not the header's
pub record IsCluster (file : List ℕ) (offset : ℕ) : Type 0 where
  pub aligned : offset % 4096 ≡ 0
  pub some : 0 < offset
  pub inside : offset < length file

-- The form of an image that is taken: the first-level entry is 0 or names a table, each entry of it for a cluster of the
-- disk is 0 or names a stored cluster, and all these clusters lie in the file and differ.
pub record IsFirstForm (file : List ℕ) : Type 0 where
  pub long : 104 ≤ length file
  pub whole : length file % 4096 ≡ 0
  pub header : IsHeader (head_of file)
  pub l1 : IsCluster file (l1_offset file)
  pub l1_entry : IsPlainEntry (u64_at file (l1_offset file))
  pub table : table_offset file ≢ 0 → IsCluster file (table_offset file)
  pub table_apart : table_offset file ≢ l1_offset file
  pub entries : (n : ℕ) → n < clusters_of file → table_offset file ≢ 0 → IsPlainEntry (u64_at file (table_offset file + 8 * n))
  pub hosts : (n : ℕ) → n < clusters_of file → host_of file n ≢ 0 → IsCluster file (host_of file n)
  pub hosts_apart : (n : ℕ) → n < clusters_of file → host_of file n ≢ 0 → (host_of file n ≢ l1_offset file) × (host_of file n ≢ table_offset file)
  pub distinct : (m n : ℕ) → m < n → n < clusters_of file → host_of file m ≢ 0 → host_of file m ≢ host_of file n

-- what an opening takes: there is a limit to the file's length besides, which a run may pass later
pub record IsTaken (file : List ℕ) : Type 0 where
  pub form : IsFirstForm file
  pub limit : length file ≤ 2 ^ 40

-- the file stands for the disk (qcow2 specification, "Cluster mapping")
pub record StandsInFirstForm (file disk : List ℕ) : Type 0 where
  pub form : IsFirstForm file
  pub bytes : disk_of file ≡ disk

-- a byte that belongs to the image, but to neither of its tables nor to a stored cluster: the header and all else
pub record IsRest (file : List ℕ) (i : ℕ) : Type 0 where
  pub inside : i < length file
  pub not_l1 : (l1_offset file ≤ i → i < l1_offset file + 8 → ⊥)
  pub not_table : table_offset file ≢ 0 → (table_offset file ≤ i → i < table_offset file + 4096 → ⊥)
  pub not_stored : (n : ℕ) → n < clusters_of file → host_of file n ≢ 0 → (host_of file n ≤ i → i < host_of file n + 4096 → ⊥)
