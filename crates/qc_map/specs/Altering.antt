-- What calls on guest clusters (i, j) to (i, j + n) make of them and of the disk.
use Rattle.std.specs.Prelude.{◌≡◌, ◌⊎◌, ℕ, ◌+◌, ◌*◌, ◌<◌, ◌≤◌, List, [], ◌∷◌, IsTrue}
use Rattle.disk_model.specs.Files.{byte, overlay}
use Rattle.disk_model.specs.World.{World}
use Rattle.image_model.specs.Clusters.{Shape, per, place, IsTable, IsSafe, Moves, Reads, word_of}
use Rattle.image_model.specs.Calls.{Told, SameTablesBut}
use Rattle.image_model.specs.Disks.{disk_of, IsMixedOf}
use Rattle.image_model.specs.Rows.{disk_place}
use Rattle.image_model.specs.Runs.{LeavesRest}
use Rattle.image_model.specs.Space.{Kind, Data}
use Rattle.cluster_pool.specs.Pool.{room}
use Rattle.map_rows.specs.Stores.{kind_of, is_open_at}
use Rattle.qc_alloc.specs.Allocator.{Allocator, Allocates, HandsOut, StandsFrom, IsKnown}
use Rattle.qc_map.specs.Mapping.{Mapping, IsMapOf}
use Rattle.qc_map.specs.Reading.{IsRow}

-- ---- what a call is to make

-- Bytes from byte `from` of guest cluster (i, j) on, in n clusters, and what becomes of their kinds.
pub record Alteration : Type 0 where
  pub table : ℕ
  pub slot : ℕ
  pub count : ℕ
  pub from : ℕ
  pub bytes : List ℕ
  pub goal : ℕ → Kind → Kind

-- where it begins on the disk
abbrev pub spot_of : Shape → Alteration → ℕ
spot_of s e = disk_place s e.table e.slot + e.from

-- a write stores all of its clusters
abbrev pub stores : ℕ → Kind → Kind
stores m kind = Data

-- ---- what it made

-- It is done: nothing else of the guest's changed, and no other table was linked.
pub record IsAltered (s : Shape) (total : ℕ) (e : Alteration) (old new : List ℕ) : Type 0 where
  pub rest : LeavesRest s e.table e.slot e.count old new
  pub tables : SameTablesBut s e.table old new
  pub kinds : (m : ℕ) → m < e.count → kind_of (word_of s new e.table (e.slot + m)) ≡ e.goal m (kind_of (word_of s old e.table (e.slot + m)))
  pub disk : (b : ℕ) → b < total → byte (disk_of s total new) b ≡ byte (overlay (disk_of s total old) (spot_of s e) e.bytes) b

-- A part of it: each cluster's kind, and each sector of the disk, is as it was, or as after all of it.
pub record IsPartlyAltered (s : Shape) (total : ℕ) (e : Alteration) (old new : List ℕ) : Type 0 where
  pub rest : LeavesRest s e.table e.slot e.count old new
  pub tables : SameTablesBut s e.table old new
  pub kinds : (m : ℕ) → m < e.count → (kind_of (word_of s new e.table (e.slot + m)) ≡ kind_of (word_of s old e.table (e.slot + m)))
      ⊎ (kind_of (word_of s new e.table (e.slot + m)) ≡ e.goal m (kind_of (word_of s old e.table (e.slot + m))))
  pub disk : IsMixedOf total (disk_of s total old ∷ overlay (disk_of s total old) (spot_of s e) e.bytes ∷ []) (disk_of s total new)

-- ---- calls

-- the allocator of the same image
pub record IsSameImage (a b : Allocator) : Type 0 where
  pub file : b.file ≡ a.file
  pub table : b.table ≡ a.table
  pub bits : b.pool.bits ≡ a.pool.bits

-- at most n of its clusters were used
pub record UsesUpTo (a b : Allocator) (n : ℕ) : Type 0 where
  pub least : room a.pool ≤ room b.pool + n
  pub most : room b.pool ≤ room a.pool

-- Whatever was answered: the image goes on to stand, and each crash since leaves a file that an opening takes, whose disk is mixed of those that
-- might be mixed before, and the disk as it is now. It is altered in part. `P` is what the call is told of the file.
pub record Alters (m : Mapping) (P : Shape → World → Type 0) (e : Alteration) (a b : Allocator) (old new : World) : Type 0 where
  pub moves : (s : Shape) (disks : List (List ℕ)) (first : ℕ) → IsMapOf s m → HandsOut first a → P s old →
      Moves m.file (IsSafe s (new.seen m.file ∷ disks)) (Allocates s disks first a) (StandsFrom s (new.seen m.file ∷ disks) b) old new
  pub partly : (s : Shape) (disks : List (List ℕ)) (first : ℕ) → IsMapOf s m → HandsOut first a → P s old →
      Reads m.file (Allocates s disks first a) (IsPartlyAltered s m.size e) old new

-- It is done.
pub record HasAltered (m : Mapping) (P : Shape → World → Type 0) (e : Alteration) (a : Allocator) (old new : World) : Type 0 where
  pub done : (s : Shape) (disks : List (List ℕ)) (first : ℕ) → IsMapOf s m → HandsOut first a → P s old →
      Reads m.file (Allocates s disks first a) (IsAltered s m.size e) old new

-- The allocator knows the file as well as it did.
pub record KnowsOn (m : Mapping) (P : Shape → World → Type 0) (a b : Allocator) (old new : World) : Type 0 where
  pub known : (s : Shape) (disks : List (List ℕ)) (first : ℕ) → IsMapOf s m → HandsOut first a → P s old →
      Reads m.file (Allocates s disks first a) (λ c d. IsKnown s a c → IsKnown s b d) old new

-- ---- what a call is told of the file

-- nothing
abbrev pub Always : Shape → World → Type 0
Always s w = Unit {0}

-- entries j to j + n of table i lie at this place of the image, and are these
pub record HasRow (s : Shape) (spot i j n : ℕ) (row file : List ℕ) : Type 0 where
  pub cluster : ℕ
  pub linked : IsTable s file i cluster
  pub slots : j + n ≤ per s
  pub at : spot ≡ place s cluster + 8 * j
  pub words : IsRow s file i j n row

-- so as far as files are told
abbrev pub ToldRow : Mapping → ℕ → ℕ → ℕ → ℕ → List ℕ → Shape → World → Type 0
ToldRow m spot i j n row s w = Told (HasRow s spot i j n row) m.file w

-- none of the first n entries has bytes stored
abbrev pub AreAllOpen : ℕ → List ℕ → Type 0
AreAllOpen n row = (m : ℕ) → m < n → IsTrue (is_open_at row m)
