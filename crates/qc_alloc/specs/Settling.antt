-- What the counts of an image go through while they are settled.
use Rattle.std.specs.Prelude.{◌≡◌, ◌⊎◌, ℕ, ◌+◌, ◌*◌, ◌<◌, ◌≤◌, List, Bool, if◌then◌else◌}
use Rattle.disk_model.specs.Files.{u16_at}
use Rattle.disk_model.specs.World.{World}
use Rattle.bitmap_model.specs.Granules.{is_in}
use Rattle.image_model.specs.Clusters.{Shape, IsCounted, IsSafe, Moves, Reads}
use Rattle.image_model.specs.Calls.{Told, Rests, LeavesGuest, SameTables}
use Rattle.qc_alloc.specs.Allocator.{Allocator, IsOf, HasBlocks}

-- The image rests, each counted cluster is one that is spoken for, and the allocator knows the blocks.
pub record Settles (s : Shape) (disks : List (List ℕ)) (a : Allocator) (w : World) : Type 0 where
  pub is : IsOf s a
  pub rests : Rests s disks (is_in a.pool.spoken) a.pool.prepared a.file w
  pub blocks : Told (HasBlocks s a) a.file w

-- Calls that write counts, whatever they answer: the image goes on to rest, each crash since leaves a file that an opening takes, and
-- nothing of the guest's changes.
pub record SettlesOn (a : Allocator) (old new : World) : Type 0 where
  pub moves : (s : Shape) (disks : List (List ℕ)) → Moves a.file (IsSafe s disks) (Settles s disks a) (Settles s disks a) old new
  pub leaves : (s : Shape) (disks : List (List ℕ)) → Reads a.file (Settles s disks a) (λ old new. LeavesGuest s old new × SameTables s old new) old new

-- the count of a cluster: 1 where it is one of these, else 0
abbrev pub count_for : (ℕ → Bool) → ℕ → ℕ
count_for taken k = if taken k then 1 else 0

-- The counts of n clusters from one on are settled, and every other is as it was.
pub record HasSettled (s : Shape) (taken : ℕ → Bool) (from n : ℕ) (old new : List ℕ) : Type 0 where
  pub inside : (k many : ℕ) → from ≤ k → k < from + n → IsCounted s new k many → many ≡ count_for taken k
  pub outside : (k many : ℕ) → (k < from) ⊎ (from + n ≤ k) → IsCounted s new k many → IsCounted s old k many

-- Calls that ended well.
pub record SettlesAll (a : Allocator) (from n : ℕ) (old new : World) : Type 0 where
  pub counts : (s : Shape) (disks : List (List ℕ)) → Reads a.file (Settles s disks a) (HasSettled s (is_in a.pool.spoken) from n) old new

-- these bytes are the counts of n clusters from one on
abbrev pub AreCountsOf : (ℕ → Bool) → ℕ → ℕ → List ℕ → Type 0
AreCountsOf taken from n counts = (t : ℕ) → t < n → u16_at counts (2 * t) ≡ count_for taken (from + t)
