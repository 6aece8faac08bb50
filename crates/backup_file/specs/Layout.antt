-- How a new image is laid out: the header, the refcount table, its blocks and the first-level table, each from a cluster's start on.
use Rattle.std.specs.Prelude.{◌≡◌, ◌⊎◌, ℕ, ◌+◌, ◌-◌, ◌*◌, ◌/◌, ◌^◌, ◌<◌, ◌≤◌, List, length, Bool, not, ◌&&◌, nat_lt, if◌then◌else◌}
use Rattle.disk_model.specs.Files.{byte, u16_at, u64_at}
use Rattle.qc_layout.specs.Header.{fields_of, is_bits, is_size, l1_needed}
use Rattle.qc_layout.specs.Disks.{words_in, counts_in, place_of, clusters_in}

-- a size of a disk and cluster bits that an image may have
abbrev pub is_form : ℕ → ℕ → Bool
is_form bits size = is_bits bits && is_size bits size && not (nat_lt (2 ^ 20) (l1_needed bits size))

abbrev pub parts_of : ℕ → ℕ → ℕ
parts_of part n = (n + (part - 1)) / part

-- clusters of the refcount table: the least number that can count twice the disk's clusters and 1024
unfoldable pub table_clusters : ℕ → ℕ → ℕ
table_clusters bits size = parts_of (words_in bits * counts_in bits) (2 * clusters_in bits size + 1024)

-- clusters of the first-level table
unfoldable pub l1_clusters : ℕ → ℕ → ℕ
l1_clusters bits size = parts_of (2 ^ bits) (8 * l1_needed bits size)

-- blocks of refcounts: the least number that counts all clusters of the file, these blocks among them
unfoldable pub block_clusters : ℕ → ℕ → ℕ
block_clusters bits size = parts_of (counts_in bits - 1) (1 + table_clusters bits size + l1_clusters bits size)

-- the cluster at which the first-level table begins, and the end
unfoldable pub l1_cluster : ℕ → ℕ → ℕ
l1_cluster bits size = 1 + table_clusters bits size + block_clusters bits size

unfoldable pub all_clusters : ℕ → ℕ → ℕ
all_clusters bits size = l1_cluster bits size + l1_clusters bits size

-- the least number with P
pub record IsLeast (P : ℕ → Type 0) (n : ℕ) : Type 0 where
  pub holds : P n
  pub least : (m : ℕ) → m < n → P m → ⊥

-- The tables of a new image: the refcount table names its blocks, these count each cluster of the file once, and nothing of the
-- disk is stored.
pub record HasTables (bits size : ℕ) (file : List ℕ) : Type 0 where
  pub long : length file ≡ place_of bits (all_clusters bits size)
  pub blocks : (i : ℕ) → i < table_clusters bits size * words_in bits →
      u64_at file (place_of bits 1 + 8 * i) ≡ if nat_lt i (block_clusters bits size) then place_of bits (1 + table_clusters bits size + i) else 0
  pub counts : (k : ℕ) → k < block_clusters bits size * counts_in bits →
      u16_at file (place_of bits (1 + table_clusters bits size) + 2 * k) ≡ if nat_lt k (all_clusters bits size) then 1 else 0
  pub l1 : (i : ℕ) → i < l1_needed bits size → u64_at file (place_of bits (l1_cluster bits size) + 8 * i) ≡ 0
  -- the rest of the header's cluster, and all from the first level on
  pub rest : (i : ℕ) → 512 ≤ i → (i < place_of bits 1) ⊎ (place_of bits (l1_cluster bits size) ≤ i) → byte file i ≡ 0

-- its header names these tables, and no feature
pub record HasNumbers (bits size : ℕ) (file : List ℕ) : Type 0 where
  pub cluster_bits : (fields_of file).cluster_bits ≡ bits
  pub disk_size : (fields_of file).size ≡ size
  pub refcount_table_offset : (fields_of file).refcount_table_offset ≡ place_of bits 1
  pub refcount_table_clusters : (fields_of file).refcount_table_clusters ≡ table_clusters bits size
  pub l1_table_offset : (fields_of file).l1_table_offset ≡ place_of bits (l1_cluster bits size)
  pub l1_size : (fields_of file).l1_size ≡ l1_needed bits size
  pub header_length : (fields_of file).header_length ≡ 112
  pub compatible_features : (fields_of file).compatible_features ≡ 0
  pub autoclear_features : (fields_of file).autoclear_features ≡ 0
