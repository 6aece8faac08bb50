-- How large places are.
use Rattle.std.proofs.Common.{◌≡◌, ◌≢◌, ℕ, ◌+◌, ◌*◌, ◌%◌, ◌^◌, ◌≤◌, List, take, ◌∙◌, arith}
use Rattle.std.proofs.Math.Nat.{mul-le-mul_left}
use Rattle.std.proofs.lemmas.List.{get_or-take}
use Rattle.std.specs.Int.{w16}
use Rattle.disk_model.proofs.Laws.{number_same}
use Rattle.image_model.specs.Calls.{AreOnes}
use Rattle.qc_layout.specs.Disks.{place_of}
use Rattle.cluster_pool.specs.Pool.{block_at}
use Rattle.cluster_pool.proofs.Sizes as pools
use Rattle.cluster_pool.proofs.Sizes.{cluster_small}
use Rattle.qc_alloc.specs.Allocator.{Allocator, IsAllocator}

pub place_of_small : (bits k : ℕ) → bits ≤ 21 → k ≤ 2 ^ 30 → place_of bits k ≤ 2 ^ 51
unfolding place_of
place_of_small bits k few small =
    let most : k * 2 ^ bits ≤ k * 2 ^ 21 = mul-le-mul_left k (cluster_small bits few) in
    omega (arith, most, small)

-- as code writes them
pub place_shifted : (bits k : ℕ) → bits ≤ 21 → k ≤ 2 ^ 30 → k * 2 ^ bits % 18446744073709551616 ≡ place_of bits k
place_shifted bits k few small = pools.place_shifted bits k (omega (arith, place_of_small bits k few small))

pub place_of_next : (bits k : ℕ) → place_of bits (k + 1) ≡ place_of bits k + 2 ^ bits
unfolding place_of
place_of_next bits k = omega arith

pub block_small : (a : Allocator) (i : ℕ) → IsAllocator a → block_at a.pool i ≢ 0 → a.pool.prepared ≤ 2 ^ 30 → block_at a.pool i ≤ 2 ^ 51
block_small a i is some small =
    let block = is.blocks i some in
    omega (arith, block.3, place_of_small a.pool.bits block.0 is.pool.high (omega (arith, block.2, small)))

-- the first counts of ones
pub ones_part : (n : ℕ) (xs : List ℕ) → AreOnes n xs → AreOnes n (take (2 * n) xs)
ones_part n xs ones t t_in =
    number_same w16 (take (2 * n) xs) xs (2 * t) (λ i low high. get_or-take (2 * n) xs i 0 (omega (arith, high, t_in))) ∙ ones t t_in
