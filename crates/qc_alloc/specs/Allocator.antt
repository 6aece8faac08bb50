-- An allocator of an image's clusters, and how it goes with the file.
use Rattle.std.specs.Prelude.{◌≡◌, ◌≢◌, ◌⊎◌, ℕ, ◌+◌, ◌*◌, ◌/◌, ◌^◌, ◌<◌, ◌≤◌, List, length, All, false}
use Rattle.disk_model.specs.Files.{u64_at}
use Rattle.disk_model.specs.World.{World}
use Rattle.bitmap_model.specs.Granules.{is_in}
use Rattle.qc_layout.specs.Disks.{place_of}
use Rattle.cluster_pool.specs.Pool.{Pool, IsPool, each, block_at}
use Rattle.image_model.specs.Clusters.{Shape, IsShape, size, place, IsStanding}
use Rattle.image_model.specs.Calls.{Told, AreExactly}

pub record Allocator : Type 0 where
  -- the image's file, and where its refcount table stands
  pub file : ℕ
  pub table : ℕ
  pub pool : Pool

-- What holds of each: cluster 0 is the header's, each block that is there is a cluster below those that aren't prepared, and the
-- refcount table lies where files can be.
pub record IsAllocator (a : Allocator) : Type 0 where
  pub pool : IsPool a.pool
  pub some : 0 < a.pool.prepared
  pub blocks : (i : ℕ) → block_at a.pool i ≢ 0 → (k : ℕ) × (0 < k) × (k < a.pool.prepared) × (block_at a.pool i ≡ place_of a.pool.bits k)
  pub below : a.table + 8 * length a.pool.blocks ≤ 2 ^ 62
  -- and so does each block
  pub ends : (i : ℕ) → block_at a.pool i + 2 ^ a.pool.bits ≤ 2 ^ 62
  -- no cluster is spoken for that isn't prepared
  pub unspoken : (k : ℕ) → a.pool.prepared ≤ k → is_in a.pool.spoken k ≡ false

-- its numbers are those of the shape
pub record IsOf (s : Shape) (a : Allocator) : Type 0 where
  pub shape : IsShape s
  pub table : a.table ≡ s.counts
  pub cluster : 2 ^ a.pool.bits ≡ size s
  pub blocks : length a.pool.blocks ≡ s.blocks

-- the word of a block that is missing names the first cluster that isn't prepared: the call that was to add it failed
pub record IsHalfAdded (s : Shape) (a : Allocator) (i : ℕ) (file : List ℕ) : Type 0 where
  pub missing : block_at a.pool i ≡ 0
  pub counts : i ≡ a.pool.prepared / each a.pool
  pub word : u64_at file (s.counts + 8 * i) ≡ place s a.pool.prepared

-- the words of the refcount table are its blocks
abbrev pub HasBlocks : Shape → Allocator → List ℕ → Type 0
HasBlocks s a file = (i : ℕ) → i < s.blocks → u64_at file (s.counts + 8 * i) ≡ block_at a.pool i

-- and but for one that was half added
abbrev pub HasTable : Shape → Allocator → List ℕ → Type 0
HasTable s a file = (i : ℕ) → i < s.blocks → (u64_at file (s.counts + 8 * i) ≡ block_at a.pool i) ⊎ IsHalfAdded s a i file

-- The image stands, with the clusters from `first` to those that aren't prepared ready, and the allocator knows it.
pub record Allocates (s : Shape) (disks : List (List ℕ)) (first : ℕ) (a : Allocator) (w : World) : Type 0 where
  pub is : IsOf s a
  pub stands : IsStanding s disks first a.pool.prepared a.file w
  pub table : Told (HasTable s a) a.file w

-- the clusters that it hands out next are among those from `first` on
pub record HandsOut (first : ℕ) (a : Allocator) : Type 0 where
  pub ready : All (λ k. first ≤ k) a.pool.ready
  pub fresh : first ≤ a.pool.next

-- the image stands, the allocator knows it, and hands out clusters that are ready
abbrev pub StandsFrom : Shape → List (List ℕ) → Allocator → World → Type 0
StandsFrom s disks a w = (first : ℕ) × HandsOut first a × Allocates s disks first a w

-- The allocator knows the file: the clusters that are referred to are just those that are spoken for, and the words of the refcount table are
-- its blocks.
pub record IsKnown (s : Shape) (a : Allocator) (file : List ℕ) : Type 0 where
  pub exactly : AreExactly s (is_in a.pool.spoken) file
  pub blocks : HasBlocks s a file

-- They differ in what is spoken for and in what is ready alone.
pub record DiffersInUse (a b : Allocator) : Type 0 where
  pub file : b.file ≡ a.file
  pub table : b.table ≡ a.table
  pub bits : b.pool.bits ≡ a.pool.bits
  pub blocks : b.pool.blocks ≡ a.pool.blocks
  pub prepared : b.pool.prepared ≡ a.pool.prepared
