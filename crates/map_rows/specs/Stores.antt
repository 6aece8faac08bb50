-- The kinds of a disk's clusters and the tables of the second level, as the entries of a file say them.
use Rattle.std.specs.Prelude.{◌≡◌, ℕ, ◌+◌, ◌*◌, ◌%◌, ◌<◌, List, length, Bool, not, ◌==◌, if◌then◌else◌}
use Rattle.disk_model.specs.Files.{u64_at}
use Rattle.bitmap_model.specs.Granules.{is_in, granules_in}
use Rattle.image_model.specs.Clusters.{Shape, size, per, offset, word_of}
use Rattle.image_model.specs.Space.{Kind, Store, Hole, Data, Zeroed, is_data, kind_at}

-- the kind of a cluster by its entry's word
abbrev pub kind_of : ℕ → Kind
kind_of w = if offset w == 0 then Hole else if w % 2 == 0 then Data else Zeroed

-- the entry has no bytes stored, so a write needs a cluster for it
abbrev pub is_open_at : List ℕ → ℕ → Bool
is_open_at entries m = not (is_data (kind_of (u64_at entries (8 * m))))

-- table i is there
abbrev pub has_table : Shape → List ℕ → ℕ → Bool
has_table s file i = not (offset (u64_at file (s.l1 + 8 * i)) == 0)

-- a file's entries say these kinds and tables of a disk of so many bytes
pub record HasStore (s : Shape) (total : ℕ) (file : List ℕ) (store : Store) : Type 0 where
  pub cluster : store.cluster ≡ size s
  pub kind_count : length store.kinds ≡ granules_in total (size s)
  pub kinds : (i j : ℕ) → j < per s → i * per s + j < length store.kinds → kind_at store (i * per s + j) ≡ kind_of (word_of s file i j)
  pub table_count : length store.tables ≡ granules_in (length store.kinds) (per s)
  pub tables : (i : ℕ) → i < length store.tables → is_in store.tables i ≡ has_table s file i
