-- Sizes of clusters and blocks.
use Rattle.std.proofs.Common.{◌≡◌, ℕ, ◌+◌, ◌-◌, ◌*◌, ◌/◌, ◌%◌, ◌^◌, ◌<◌, ◌≤◌, length, sym, ap, ◌∙◌, arith}
use Rattle.std.proofs.lemmas.Nat.{one_shl, pow_pos, div_below, div-mul-add}
use Rattle.std.proofs.lemmas.Grind.{common_steps, pow_more}
use Rattle.std.proofs.Math.Pow.{pow_mono}
use Rattle.std.proofs.Math.Nat.{mul-le-mul_left}
use Rattle.qc_layout.specs.Disks.{counts_in, place_of}
use Rattle.cluster_pool.specs.Pool.{Pool, IsPool, each, reach}

half_cluster : (bits : ℕ) → 9 ≤ bits → counts_in bits ≡ 2 ^ (bits - 1)
unfolding counts_in
half_cluster bits low =
    let more : bits ≡ bits - 1 + 1 = omega arith in
    let twice : 2 ^ bits ≡ 2 ^ (bits - 1) * 2 = ap (λ (b : ℕ). 2 ^ b) more ∙ pow_more 2 (bits - 1) in
    omega (arith, twice)

-- as the code has it
pub each_shifted : (bits : ℕ) → 9 ≤ bits → bits ≤ 21 → 1 * 2 ^ (bits - 1) % 2 ^ 64 ≡ counts_in bits
each_shifted bits low high = one_shl (bits - 1) 64 (omega arith) ∙ sym (half_cluster bits low)

pub each_some : (bits : ℕ) → 9 ≤ bits → 0 < counts_in bits
each_some bits low = omega (arith, half_cluster bits low, pow_pos (bits - 1))

pub cluster_small : (bits : ℕ) → bits ≤ 21 → 2 ^ bits ≤ 2 ^ 21
cluster_small bits high = pow_mono high

-- the place of a cluster, as the code shifts it
pub place_shifted : (bits k : ℕ) → place_of bits k < 2 ^ 64 → k * 2 ^ bits % 2 ^ 64 ≡ place_of bits k
unfolding place_of
place_shifted bits k fits = omega arith

pub place_fits : (bits k : ℕ) → bits ≤ 21 → k < 2 ^ 30 → place_of bits k < 2 ^ 64
unfolding place_of
place_fits bits k high below =
    let most : k * 2 ^ bits ≤ k * 2 ^ 21 = mul-le-mul_left k (cluster_small bits high) in
    omega arith

pub place_of_same : (bits j k : ℕ) → place_of bits j ≡ place_of bits k → j ≡ k
unfolding place_of
place_of_same bits j k e = grind (arith, common_steps, pow_pos)

pub place_none : (bits k : ℕ) → place_of bits k ≡ 0 → k ≡ 0
unfolding place_of
place_none bits k e = grind (arith, common_steps, pow_pos)

-- a cluster below the reach has an entry of the table
pub block_inside : (p : Pool) → IsPool p → (k : ℕ) → k < reach p → k / each p < length p.blocks
block_inside p h k below = div_below k (each p) (length p.blocks) (each_some p.bits h.low) (omega arith)

-- the clusters that a block counts
pub counted_by : (k e i : ℕ) → i * e ≤ k → k < i * e + e → k / e ≡ i
counted_by k e i low high =
    let sum : i * e + (k - i * e) ≡ k = omega arith in
    ap (λ (x : ℕ). x / e) (sym sum) ∙ div-mul-add i e (k - i * e) (omega arith)
