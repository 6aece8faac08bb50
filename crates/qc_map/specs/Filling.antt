-- Clusters that are given back.
use Rattle.std.specs.Prelude.{◌≡◌, ◌≢◌, ℕ, ◌+◌, ◌*◌, ◌/◌, ◌^◌, ◌<◌, ◌≤◌, List, false}
use Rattle.disk_model.specs.Files.{u64_at}
use Rattle.bitmap_model.specs.Granules.{is_in}
use Rattle.cluster_pool.specs.Pool.{room}
use Rattle.image_model.specs.Clusters.{offset}
use Rattle.qc_alloc.specs.Allocator.{Allocator}

-- one of n entries in a row names cluster k, of 2 to this power bytes
pub record IsNamedIn (bits n : ℕ) (row : List ℕ) (k : ℕ) : Type 0 where
  pub entry : ℕ
  pub inside : entry < n
  pub some : offset (u64_at row (8 * entry)) ≢ 0
  pub is : offset (u64_at row (8 * entry)) / 2 ^ bits ≡ k

-- What is spoken for alone changed. Where no cluster that was given back is fresh, as many can be handed out as before.
pub record ChangesSpoken (a b : Allocator) (given : ℕ → Type 0) : Type 0 where
  pub is : b ≡ record a { pool = record a.pool { spoken = b.pool.spoken } }
  pub room : ((k : ℕ) → given k → k < a.pool.next) → room b.pool ≡ room a.pool
  pub gone : (k : ℕ) → given k → is_in b.pool.spoken k ≡ false
  pub stays : (k : ℕ) → (given k → ⊥) → is_in b.pool.spoken k ≡ is_in a.pool.spoken k

-- clusters k to k + n were given back
abbrev pub AreGiven : Allocator → Allocator → ℕ → ℕ → Type 0
AreGiven a b k n = ChangesSpoken a b (λ m. (k ≤ m) × (m < k + n))

-- so those that n entries in a row name
abbrev pub AreFreed : Allocator → Allocator → ℕ → ℕ → List ℕ → Type 0
AreFreed a b bits n row = ChangesSpoken a b (λ k. IsNamedIn bits n row k)

-- each cluster that n entries in a row name lies below this one
abbrev pub NamesBelow : ℕ → ℕ → List ℕ → ℕ → Type 0
NamesBelow bits n row next = (k : ℕ) → IsNamedIn bits n row k → k < next
