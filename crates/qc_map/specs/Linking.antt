-- A table of the second level is linked where there is none.
use Rattle.std.specs.Prelude.{◌≡◌, ℕ, ◌<◌, List, false}
use Rattle.disk_model.specs.World.{World}
use Rattle.image_model.specs.Clusters.{Shape, per, place, IsTable, IsSafe, Moves, Reads, word_of}
use Rattle.image_model.specs.Calls.{Told, LeavesGuest, SameTablesBut}
use Rattle.map_rows.specs.Stores.{has_table}
use Rattle.qc_alloc.specs.Allocator.{Allocator, Allocates, HandsOut, StandsFrom}
use Rattle.qc_map.specs.Mapping.{Mapping, IsMapOf}

-- table i isn't there, where files are told
abbrev pub LacksTable : Mapping → ℕ → Shape → World → Type 0
LacksTable m i s w = Told (λ c. has_table s c i ≡ false) m.file w

-- nothing of the guest's changed, and no other table was linked
pub record IsTableLeft (s : Shape) (i : ℕ) (old new : List ℕ) : Type 0 where
  pub guest : LeavesGuest s old new
  pub tables : SameTablesBut s i old new

-- Whatever was answered: the image goes on to stand, and each crash since leaves a file that an opening takes, with a disk that there was.
pub record LinksTable (m : Mapping) (i : ℕ) (a b : Allocator) (old new : World) : Type 0 where
  pub moves : (s : Shape) (disks : List (List ℕ)) (first : ℕ) → IsMapOf s m → HandsOut first a → LacksTable m i s old →
      Moves m.file (IsSafe s disks) (Allocates s disks first a) (StandsFrom s disks b) old new
  pub left : (s : Shape) (disks : List (List ℕ)) (first : ℕ) → IsMapOf s m → HandsOut first a → LacksTable m i s old →
      Reads m.file (Allocates s disks first a) (IsTableLeft s i) old new

-- table i stands at this offset, and each of its entries is 0
pub record IsTableAt (s : Shape) (i offset : ℕ) (file : List ℕ) : Type 0 where
  pub cluster : ℕ
  pub linked : IsTable s file i cluster
  pub at : offset ≡ place s cluster
  pub none : (j : ℕ) → j < per s → word_of s file i j ≡ 0

-- It is linked.
pub record HasLinked (m : Mapping) (i offset : ℕ) (a : Allocator) (old new : World) : Type 0 where
  pub done : (s : Shape) (disks : List (List ℕ)) (first : ℕ) → IsMapOf s m → HandsOut first a → LacksTable m i s old →
      Reads m.file (Allocates s disks first a) (λ c d. IsTableAt s i offset d) old new
