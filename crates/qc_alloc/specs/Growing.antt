-- What calls that prepare clusters do to an allocator and to the file, whatever they answer.
use Rattle.std.specs.Prelude.{◌≡◌, ◌≢◌, ◌⊎◌, ℕ, ◌+◌, ◌*◌, ◌/◌, ◌^◌, ◌<◌, ◌≤◌, max, min, List, ◌++◌, length, All, not, ◌&&◌, ◌||◌, Result, Ok, Err}
use Rattle.disk_model.specs.World.{World}
use Rattle.bitmap_model.specs.Granules.{is_in}
use Rattle.qc_layout.specs.Disks.{place_of}
use Rattle.cluster_pool.specs.Pool.{Pool, each, reach, block_at, block_of, is_own_block, is_open, room, IsFirstRunOf, HasTakenRun, emptied, settled}
use Rattle.image_model.specs.Clusters.{Shape, place, Meets, IsCounted, SameIn, IsSafe, Moves, Reads}
use Rattle.image_model.specs.Calls.{Told, LeavesGuest, SameTables}
use Rattle.qc_alloc.specs.Allocator.{Allocator, HasBlocks, Allocates, HandsOut}

-- ---- the pool

-- no call prepares more clusters beyond what is asked for than this, by the bits of a cluster: 64 MiB of them, at most 2^15
abbrev pub at_once : ℕ → ℕ
at_once bits = min (2 ^ 26 / 2 ^ bits) (2 ^ 15)

pub record Raises (p q : Pool) : Type 0 where
  pub bits : q.bits ≡ p.bits
  pub counted : q.counted ≡ p.counted
  pub from : q.from ≡ p.from
  -- those that were ready are so still, and fresh ones join them
  pub more : List ℕ
  pub ready : q.ready ≡ p.ready ++ more
  pub fresh : All (λ k. p.next ≤ k) more
  pub next : p.next ≤ q.next
  pub prepared : p.prepared ≤ q.prepared
  pub below : q.prepared ≤ max p.prepared (reach p)
  -- A block that was there stays. One that was missing is the first cluster that wasn't prepared, of those that it counts.
  pub count : length q.blocks ≡ length p.blocks
  pub kept : (i : ℕ) → block_at p i ≢ 0 → block_at q i ≡ block_at p i
  pub added : (i : ℕ) → block_at p i ≡ 0 → block_at q i ≢ 0 → (max p.prepared (i * each p) < q.prepared) × (block_at q i ≡ place_of p.bits (max p.prepared (i * each p)))
  pub counts : (i : ℕ) → block_at p i ≡ 0 → block_at q i ≢ 0 → p.prepared < i * each p + each p
  -- each cluster that was prepared has the block that counts it
  pub linked : (k : ℕ) → p.prepared ≤ k → k < q.prepared → block_of q k ≢ 0
  -- new blocks alone are spoken for besides
  pub spoken : (k : ℕ) → is_in q.spoken k ≡ (is_in p.spoken k || (is_own_block q k && not (is_own_block p k)))
  pub opens : (k : ℕ) → q.next ≤ k → is_open q k ≡ is_open p k
  pub room : room q ≡ room p

-- ---- the file

-- no byte of cluster k changes, but where it is the refcount table's or a block's
abbrev pub SparesClaimed : Shape → Allocator → List ℕ → List ℕ → Type 0
SparesClaimed s a old new = (k : ℕ) → k < a.pool.prepared → (Meets s k s.counts (8 * s.blocks) → ⊥)
    → ((i : ℕ) → i < s.blocks → block_at a.pool i ≢ 0 → block_at a.pool i ≢ place s k) → SameIn s k old new

-- the count of no prepared cluster changes
abbrev pub KeepsCounts : Shape → Allocator → List ℕ → List ℕ → Type 0
KeepsCounts s a old new = (k many : ℕ) → k < a.pool.prepared → IsCounted s old k many → IsCounted s new k many

-- The image goes on to stand, and each crash since leaves a file that an opening takes. Nothing of the guest's changes, and no claimed
-- cluster.
pub record Grows (a b : Allocator) (old new : World) : Type 0 where
  pub file : b.file ≡ a.file
  pub table : b.table ≡ a.table
  pub hands : (first : ℕ) → HandsOut first a → HandsOut first b
  pub moves : (s : Shape) (disks : List (List ℕ)) (first : ℕ) → Moves a.file (IsSafe s disks) (Allocates s disks first a) (Allocates s disks first b) old new
  pub leaves : (s : Shape) (disks : List (List ℕ)) (first : ℕ) → Reads a.file (Allocates s disks first a) (LeavesGuest s) old new
  pub tables : (s : Shape) (disks : List (List ℕ)) (first : ℕ) → Reads a.file (Allocates s disks first a) (SameTables s) old new
  pub spares : (s : Shape) (disks : List (List ℕ)) (first : ℕ) → Reads a.file (Allocates s disks first a) (SparesClaimed s a) old new
  pub counts : (s : Shape) (disks : List (List ℕ)) (first : ℕ) → Reads a.file (Allocates s disks first a) (KeepsCounts s a) old new

-- Calls that ended well: the words of the refcount table are the blocks,
pub record NamesBlocks (a b : Allocator) (old new : World) : Type 0 where
  pub words : (s : Shape) (disks : List (List ℕ)) (first : ℕ) → Reads a.file (Allocates s disks first a) (λ c d. HasBlocks s b d) old new

-- or are so where they were before, or where more clusters were prepared.
pub record MendsBlocks (a b : Allocator) (old new : World) : Type 0 where
  pub words : (s : Shape) (disks : List (List ℕ)) (first : ℕ) → (a.pool.prepared < b.pool.prepared) ⊎ Told (HasBlocks s a) a.file old
      → Reads a.file (Allocates s disks first a) (λ c d. HasBlocks s b d) old new

-- ---- runs

-- The first run of fresh neighbours that become no block is taken, and the fresh ones before it are passed over.
pub record TakesRun (p q : Pool) (count first : ℕ) : Type 0 where
  pub run : IsFirstRunOf p count first
  pub between : Pool
  pub raises : Raises p between
  pub next : between.next ≡ p.next
  pub ready : between.ready ≡ p.ready
  pub takes : HasTakenRun between q first count
  pub prepared : first + count ≤ q.prepared
  -- the block that counts one is there, and is another
  pub linked : (k : ℕ) → first ≤ k → k < first + count → block_of q k ≢ 0
  pub differs : (k : ℕ) → first ≤ k → k < first + count → block_of q k ≢ place_of q.bits k

-- ---- settling

-- no cluster is ready any more; after Ok the counts are those of the clusters that are spoken for
abbrev pub after_settling : {T E : Type 0} → Result T E → Pool → Pool
after_settling (Ok value) p = settled (emptied p)
after_settling (Err error) p = emptied p
