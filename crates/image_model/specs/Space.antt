-- What an image has of clusters, and what a write or a zero needs and frees.
use Rattle.std.specs.Prelude.{◌≡◌, ℕ, ◌+◌, ◌-◌, ◌*◌, ◌/◌, ◌<◌, min, List, length, map, count_by, Bool, true, false, not, ◌&&◌, ◌||◌, nat_le, ◌==◌, if◌then◌else◌, slice_index_or, ◌⊎◌}
use Rattle.std.specs.List.{list_any, range_with_len}
use Rattle.span_algebra.specs.Timelines.{Extent}
use Rattle.span_algebra.specs.Spans.{granule}
use Rattle.bitmap_model.specs.Granules.{set_of, is_in, meets, granules_in}

-- How a cluster of the disk is stored: its bytes stand in the image; none do, and it reads as zeros; or it reads as zeros though a
-- cluster of the image is kept for it.
pub data Kind : Type 0 where
  Data : Kind
  Hole : Kind
  Zeroed : Kind

-- The size of a cluster in bytes, the kind of each cluster of the disk, which tables of the second level are there, and how many
-- clusters of the image can be handed out still.
pub record Store : Type 0 where
  pub cluster : ℕ
  pub kinds : List Kind
  pub tables : List Bool
  pub room : ℕ

-- a table of the second level has an entry of 8 bytes for each of so many clusters
abbrev pub entries_in : ℕ → ℕ
entries_in cluster = cluster / 8

-- the table that has the entry of cluster k
abbrev pub table_of : Store → ℕ → ℕ
table_of s k = k / entries_in s.cluster

-- there are as many kinds and tables as a disk of this size asks
pub record IsShapedStore (size : ℕ) (s : Store) : Type 0 where
  pub cluster_some : 0 < entries_in s.cluster
  pub kind_count : length s.kinds ≡ granules_in size s.cluster
  pub table_count : length s.tables ≡ granules_in (length s.kinds) (entries_in s.cluster)

abbrev pub is_data : Kind → Bool
is_data Data = true
is_data Hole = false
is_data Zeroed = false

abbrev pub is_hole : Kind → Bool
is_hole Data = false
is_hole Hole = true
is_hole Zeroed = false

abbrev pub is_zeroed : Kind → Bool
is_zeroed Data = false
is_zeroed Hole = false
is_zeroed Zeroed = true

-- by NBD's `base:allocation`: a hole is 1, and what reads as zeros 2
abbrev pub allocation_flags : Kind → ℕ
allocation_flags Data = 0
allocation_flags Hole = 3
allocation_flags Zeroed = 2

abbrev pub kind_at : Store → ℕ → Kind
kind_at s k = slice_index_or s.kinds k Hole

-- the numbers of the disk's clusters
abbrev pub clusters : Store → List ℕ
clusters s = range_with_len 0 (length s.kinds)

abbrev pub is_touched : Store → Extent → ℕ → Bool
is_touched s e k = meets e (granule s.cluster k)

-- ---- writing

-- a cluster of the image is needed for each touched one that isn't Data
abbrev pub needs_cluster : Store → Extent → ℕ → Bool
needs_cluster s e k = is_touched s e k && not (is_data (kind_at s k))

-- and for each table that is missing and has an entry of one of these
abbrev pub needs_table : Store → Extent → ℕ → Bool
needs_table s e t = not (is_in s.tables t) && list_any (λ k. needs_cluster s e k && (table_of s k == t)) (clusters s)

-- how many clusters a write of the range needs
unfoldable pub need : Store → Extent → ℕ
need s e = count_by (needs_cluster s e) (clusters s) + count_by (needs_table s e) (range_with_len 0 (length s.tables))

-- a write makes touched clusters Data
abbrev pub kinds_written : Store → Extent → List Kind
kinds_written s e = map (λ k. if is_touched s e k then Data else kind_at s k) (clusters s)

abbrev pub tables_written : Store → Extent → List Bool
tables_written s e = set_of (length s.tables) (λ t. is_in s.tables t || needs_table s e t)

unfoldable pub store_written : Store → Extent → Store
store_written s e = record s { kinds = kinds_written s e; tables = tables_written s e; room = s.room - need s e }

-- a write frees the clusters that were kept for touched zeros
unfoldable pub freed_by_write : Store → Extent → ℕ
freed_by_write s e = count_by (λ k. is_touched s e k && is_zeroed (kind_at s k)) (clusters s)

-- ---- making holes

-- all bytes of the cluster that lie on a disk of this size are in the range
abbrev pub is_whole : ℕ → Store → Extent → ℕ → Bool
is_whole size s e k = nat_le e.at (k * s.cluster) && nat_le (min ((k + 1) * s.cluster) size) (e.at + e.size)

-- a zero makes holes of the clusters that it covers whole, and needs no cluster
unfoldable pub store_zeroed : ℕ → Store → Extent → Store
store_zeroed size s e = record s { kinds = map (λ k. if is_whole size s e k then Hole else kind_at s k) (clusters s) }

-- it frees what these had
unfoldable pub freed_by_zero : ℕ → Store → Extent → ℕ
freed_by_zero size s e = count_by (λ k. is_whole size s e k && not (is_hole (kind_at s k))) (clusters s)

-- ---- what an event does to the space of an image

-- the store after it, and how many clusters it frees
pub record Change : Type 0 where
  pub store : Store
  pub freed : ℕ

-- each cluster and each table is as before the change or as after it
pub record AreEither (old goal new : Store) : Type 0 where
  pub kind_of : (k : ℕ) → (kind_at new k ≡ kind_at old k) ⊎ (kind_at new k ≡ kind_at goal k)
  pub table_is : (t : ℕ) → (is_in new.tables t ≡ is_in old.tables t) ⊎ (is_in new.tables t ≡ is_in goal.tables t)
