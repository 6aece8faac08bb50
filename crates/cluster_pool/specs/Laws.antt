-- What layers above take from a pool, as statements.
use Rattle.std.specs.Prelude.{◌≡◌, ◌↔◌, ℕ, ◌<◌, ◌≤◌, List, length, false, not, ◌==◌, slice_index}
use Rattle.std.specs.List.{list_any}
use Rattle.bitmap_model.specs.Granules.{is_in}
use Rattle.qc_layout.specs.Disks.{bits_of, blocks_in, block_at, refcount}
use Rattle.qc_layout.specs.Opening.{claim_fault}
use Rattle.qc_layout.specs.Room.{IsNextFree, IsRun, room_from}
use Rattle.cluster_pool.specs.Pool.{Pool, IsPool, fresh, claim_refusal, is_counted, is_own_block, reach, IsRunOf}

-- a pool has the blocks of a file
pub record HasBlocksOf (p : Pool) (file : List ℕ) : Type 0 where
  pub bits : p.bits ≡ bits_of file
  pub count : length p.blocks ≡ blocks_in file
  pub blocks : (i : ℕ) → i < blocks_in file → slice_index p.blocks i ≡ block_at file i

-- nothing from the first fresh cluster on is spoken for, and none was prepared
pub record IsUntouched (p : Pool) : Type 0 where
  pub unspoken : (k : ℕ) → p.next ≤ k → is_in p.spoken k ≡ false
  pub unprepared : p.prepared ≡ p.next
  -- nor is it a block
  pub behind : (k : ℕ) → p.next ≤ k → is_own_block p k ≡ false

-- as an opening finds it, its room is that of the file
abbrev pub FreshIsRoom : Type 0
FreshIsRoom = (p : Pool) (file : List ℕ) → IsPool p → HasBlocksOf p file → IsUntouched p → IsNextFree file p.next → fresh p ≡ room_from file p.next

-- and its runs are those of the file
abbrev pub RunsAreRuns : Type 0
RunsAreRuns = (p : Pool) (file : List ℕ) (count first : ℕ) → IsPool p → HasBlocksOf p file → IsUntouched p → IsNextFree file p.next → 0 < count
    → IsRunOf p count first ↔ IsRun file p.next count first

-- its claims are refused as the file's clusters are, where these have been claimed before
abbrev pub ClaimsAreExact : Type 0
ClaimsAreExact = (p : Pool) (file claims : List ℕ) (k : ℕ) → IsPool p → HasBlocksOf p file
    → ((m : ℕ) → m < reach p → is_in p.spoken m ≡ list_any (λ other. other == m) claims)
    → ((m : ℕ) → m < reach p → is_counted p m ≡ not (refcount file m == 0))
    → claim_refusal p k ≡ claim_fault file claims k
