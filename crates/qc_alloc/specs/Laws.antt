-- What layers above take from an allocator, as statements.
use Rattle.std.specs.Prelude.{◌≡◌, ◌≢◌, ◌⊎◌, ℕ, ◌+◌, ◌*◌, ◌<◌, ◌≤◌, List, IsTrue, Bool, false}
use Rattle.disk_model.specs.Files.{u64_at}
use Rattle.disk_model.specs.World.{World, EachNow}
use Rattle.bitmap_model.specs.Granules.{is_in}
use Rattle.cluster_pool.specs.Pool.{IsPool, block_of}
use Rattle.qc_layout.specs.Disks.{place_of}
use Rattle.image_model.specs.Clusters.{Shape, Who, Block, Refers, IsCounted, IsZero, IsShape, IsGuest, AllCounted, offset}
use Rattle.image_model.specs.Calls.{IsTakeable, AreNamed, AreExactly, LeavesGuest, SameTables, SameTablesBut, SameBlocks, IsNewTable}
use Rattle.image_model.specs.Runs.{LeavesRest}
use Rattle.qc_alloc.specs.Allocator.{Allocator, IsAllocator, IsOf, IsHalfAdded, HasBlocks, HasTable, Allocates, DiffersInUse}
use Rattle.qc_alloc.specs.Growing.{Raises, TakesRun}

-- cluster k is counted once, its bytes are zero, and nothing refers to it
pub record IsClean (s : Shape) (k : ℕ) (file : List ℕ) : Type 0 where
  pub once : IsCounted s file k 1
  pub zero : IsZero s file k
  pub unnamed : (who : Who) → Refers s file who k → ⊥

-- A prepared cluster that is no block is clean, in what reads give and in each crash, and can be put to use.
pub record CanBeUsed (s : Shape) (k f : ℕ) (w : World) : Type 0 where
  pub seen : IsClean s k (w.seen f)
  pub now : EachNow w f (IsClean s k)
  pub takeable : IsTakeable s k (w.seen f)

abbrev pub PreparedIsClean : Type 0
PreparedIsClean = (s : Shape) (disks : List (List ℕ)) (first : ℕ) (a : Allocator) (w : World) (k : ℕ) → IsAllocator a → Allocates s disks first a w → IsTrue w.tells
    → first ≤ k → k < a.pool.prepared → block_of a.pool k ≢ 0 → block_of a.pool k ≢ place_of a.pool.bits k → CanBeUsed s k a.file w

-- the clusters that are referred to are just those that are spoken for, but for a block that was half added
pub record IsExact (s : Shape) (a : Allocator) (file : List ℕ) : Type 0 where
  pub named : (who : Who) (k : ℕ) → Refers s file who k → IsTrue (is_in a.pool.spoken k) ⊎ ((i : ℕ) × (who ≡ Block i) × IsHalfAdded s a i file)
  pub exact : (k : ℕ) → IsTrue (is_in a.pool.spoken k) → (who : Who) × Refers s file who k

-- Calls that prepare clusters leave it so, whatever they answer; and where the words of the refcount table are the blocks, none was half added.
abbrev pub PreparedStaysExact : Type 0
PreparedStaysExact = (s : Shape) (a b : Allocator) (old new : List ℕ) → IsAllocator a → IsOf s a → Raises a.pool b.pool → HasTable s a old → HasTable s b new
    → LeavesGuest s old new → SameTables s old new → IsExact s a old → IsExact s b new × (HasBlocks s b new → AreExactly s (is_in b.pool.spoken) new)

-- After a run was taken: as `IsExact`, but that nothing refers to the run's clusters yet. They are spoken for since then alone.
pub record IsExactButRun (s : Shape) (a b : Allocator) (count first : ℕ) (file : List ℕ) : Type 0 where
  pub named : (who : Who) (k : ℕ) → Refers s file who k → IsTrue (is_in b.pool.spoken k) ⊎ ((i : ℕ) × (who ≡ Block i) × IsHalfAdded s b i file)
  pub exact : (k : ℕ) → IsTrue (is_in b.pool.spoken k) → ((who : Who) × Refers s file who k) ⊎ ((first ≤ k) × (k < first + count))
  pub unnamed : (who : Who) (k : ℕ) → first ≤ k → k < first + count → Refers s file who k → ⊥
  pub unspoken : (k : ℕ) → first ≤ k → k < first + count → is_in a.pool.spoken k ≡ false
  pub spoken : IsPool b.pool → (k : ℕ) → first ≤ k → k < first + count → IsTrue (is_in b.pool.spoken k)

-- A call that takes a run leaves it so; and where the words of the refcount table are the blocks, all that is referred to is spoken for.
abbrev pub RunStaysExact : Type 0
RunStaysExact = (s : Shape) (a b : Allocator) (old new : List ℕ) (count first : ℕ) → IsAllocator a → IsOf s a → TakesRun a.pool b.pool count first
    → HasTable s a old → HasTable s b new → LeavesGuest s old new → SameTables s old new → IsExact s a old
    → IsExactButRun s a b count first new × (HasBlocks s b new → AreNamed s (is_in b.pool.spoken) new)

-- ---- what is spoken for, and what refers to clusters

-- An image that stands does so whatever is spoken for, and whatever is ready among its ready clusters.
abbrev pub UseLeavesImage : Type 0
UseLeavesImage = (s : Shape) (disks : List (List ℕ)) (first : ℕ) (a b : Allocator) (w : World) → DiffersInUse a b → Allocates s disks first a w → Allocates s disks first b w

-- cluster k is named by one of entries j to j + n of table i
pub record IsNamedBy (s : Shape) (file : List ℕ) (i j n k : ℕ) : Type 0 where
  pub behind : ℕ
  pub inside : behind < n
  pub names : IsGuest s file i (j + behind) k

-- Where entries in a row alone changed, the clusters that are referred to are still just those of a set that lost what the entries named and
-- gained what they name.
pub record ChangesHands (s : Shape) (i j n : ℕ) (old new : List ℕ) (taken taken_on : ℕ → Bool) : Type 0 where
  pub kept : (k : ℕ) → (IsNamedBy s old i j n k → ⊥) → (IsNamedBy s new i j n k → ⊥) → taken_on k ≡ taken k
  pub gained : (k : ℕ) → IsNamedBy s new i j n k → IsTrue (taken_on k)
  pub lost : (k : ℕ) → IsNamedBy s old i j n k → (IsNamedBy s new i j n k → ⊥) → taken_on k ≡ false

abbrev pub EntriesStayExact : Type 0
EntriesStayExact = (s : Shape) (i j n : ℕ) (old new : List ℕ) (taken taken_on : ℕ → Bool) → IsShape s → AllCounted s old → LeavesRest s i j n old new → SameTables s old new → SameBlocks s old new
    → ChangesHands s i j n old new taken taken_on → AreExactly s taken old → AreExactly s taken_on new

-- So where a new table was linked, of zeros.
abbrev pub TableStaysExact : Type 0
TableStaysExact = (s : Shape) (t i word : ℕ) (old new : List ℕ) (taken taken_on : ℕ → Bool) → IsShape s → offset (u64_at old (s.l1 + 8 * i)) ≡ 0 → IsNewTable s t i word new → LeavesGuest s old new
    → SameTablesBut s i old new → SameBlocks s old new → IsTrue (taken_on t) → ((k : ℕ) → k ≢ t → taken_on k ≡ taken k) → AreExactly s taken old → AreExactly s taken_on new
