-- Clusters counted block by block.
use Rattle.std.proofs.Common.{◌≡◌, ◌≢◌, ℕ, ◌+◌, ◌-◌, ◌*◌, ◌/◌, ◌%◌, ◌^◌, ◌<◌, ◌≤◌, max, min, Bool, true, false, not, ◌&&◌, List, [], get_or, replicate, refl, sym, ap, ◌∙◌, arith, rules}
use Rattle.std.specs.Prelude.{count_by, ◌==◌}
use Rattle.std.specs.List.{range_with_len}
use Rattle.std.proofs.lemmas.Grind.{common_steps}
use Rattle.std.proofs.lemmas.Bool.{eq-eqb, ne_eqb}
use Rattle.std.proofs.lemmas.Nat.{shl-shr}
use Rattle.std.proofs.lemmas.List.FromFn.{length-range_with_len}
use Rattle.std.proofs.lemmas.List.Sums.{count_by-le-length}
use Rattle.bitmap_model.specs.Granules.{is_in}
use Rattle.qc_layout.specs.Disks.{counts_in, place_of}
use Rattle.cluster_pool.specs.Pool.{Pool, is_open, found_pool, fresh, reach}
use Rattle.cluster_pool.proofs.Counting.{count_same, count_all, count_all_but_one, count_between}
use Rattle.cluster_pool.proofs.Sizes.{counted_by, place_none}
use Rattle.cluster_pool.proofs.Fresh.{fresh_same, plain}

-- a cluster is neither the block of these, nor the first of them where that is missing
abbrev pub stands_apart : ℕ → ℕ → ℕ → ℕ → Bool
stands_apart bits block start k = not (block == place_of bits k) && not ((block == 0) && (k == start))

module _ (bits block start end : ℕ) where
  pub apart_missing : block ≡ 0 → start < end → count_by (stands_apart bits block start) (range_with_len start (end - start)) ≡ end - start - 1
  apart_missing missing some =
      let none : (block == 0) ≡ true = eq-eqb block 0 missing in
      count_all_but_one (stands_apart bits block start) start (end - start) start (omega arith) (omega arith)
      (let here : (start == start) ≡ true = eq-eqb start start refl in grind (arith, common_steps))
      (λ k low high other.
      let away : (block == place_of bits k) ≡ false = ne_eqb block (place_of bits k) (λ e. let zero_place : k ≡ 0 = place_none bits k (sym e ∙ missing) in omega arith) in
      let behind : (k == start) ≡ false = ne_eqb k start other in
      grind (arith, common_steps))

  only : block < 2 ^ 64 → (k : ℕ) → block ≡ place_of bits k → (block / 2 ^ bits ≡ k) × (block / 2 ^ bits * 2 ^ bits % 2 ^ 64 ≡ block)
  unfolding place_of
  only fits k e =
      let turned : block ≡ k * 2 ^ bits = omega arith in
      let own : block / 2 ^ bits ≡ k = ap (λ (x : ℕ). x / 2 ^ bits) turned ∙ shl-shr k bits in
      let back : block / 2 ^ bits * 2 ^ bits ≡ block = ap (λ (x : ℕ). x * 2 ^ bits) own ∙ sym turned in
      (own, omega arith)

  place_back : block < 2 ^ 64 → block / 2 ^ bits * 2 ^ bits % 2 ^ 64 ≡ block → block ≡ place_of bits (block / 2 ^ bits)
  unfolding place_of
  place_back fits e =
      let order : block / 2 ^ bits * 2 ^ bits ≤ block = search rules in
      omega arith

  pub apart_within : block ≢ 0 → block < 2 ^ 64 → block / 2 ^ bits * 2 ^ bits % 2 ^ 64 ≡ block → start ≤ block / 2 ^ bits → block / 2 ^ bits < end
      → count_by (stands_apart bits block start) (range_with_len start (end - start)) ≡ end - start - 1
  apart_within some fits back low high =
      let there : (block == 0) ≡ false = ne_eqb block 0 some in
      let own : ℕ = block / 2 ^ bits in
      count_all_but_one (stands_apart bits block start) start (end - start) own low (omega arith)
      (let here : (block == place_of bits own) ≡ true = eq-eqb block (place_of bits own) (place_back fits back) in
      ap (λ (b : Bool). not b && not ((block == 0) && (own == start))) here)
      (λ k _ _ other.
      let away : (block == place_of bits k) ≡ false = ne_eqb block (place_of bits k) (λ e. other (sym (only fits k e).0)) in
      grind (arith, common_steps))

  pub apart_all : block ≢ 0 → block < 2 ^ 64 → (block / 2 ^ bits * 2 ^ bits % 2 ^ 64 ≡ block → start ≤ block / 2 ^ bits → block / 2 ^ bits < end → ⊥)
      → count_by (stands_apart bits block start) (range_with_len start (end - start)) ≡ end - start
  apart_all some fits outside =
      let there : (block == 0) ≡ false = ne_eqb block 0 some in
      count_all (stands_apart bits block start) start (end - start)
      (λ k low high.
      let away : (block == place_of bits k) ≡ false = ne_eqb block (place_of bits k) (λ e.
      let own : block / 2 ^ bits ≡ k = (only fits k e).0 in outside (only fits k e).1 (omega arith) (omega arith)) in
      grind (arith, common_steps))

-- of the clusters that block i counts, where nothing from the first fresh one on is spoken for
pub open_apart : (p : Pool) (i k : ℕ) → is_in p.spoken k ≡ false → i * counts_in p.bits ≤ k → k < i * counts_in p.bits + counts_in p.bits
    → is_open p k ≡ stands_apart p.bits (get_or p.blocks i 0) (max p.next (i * counts_in p.bits)) k
open_apart p i k unspoken low high =
    let one : k / counts_in p.bits ≡ i = counted_by k (counts_in p.bits) i low high in
    ap (λ (b : Bool). not b && plain p k) unspoken
    ∙ ap (λ (x : ℕ). not (get_or p.blocks x 0 == place_of p.bits k) && not ((get_or p.blocks x 0 == 0) && (k == max p.next (x * counts_in p.bits)))) one

none_spoken : (n k : ℕ) → is_in (replicate n false) k ≡ false
none_spoken n k = grind (arith, common_steps)

-- one block more
module _ (bits : ℕ) (blocks : List ℕ) (next top i : ℕ) where
  pub count_more : count_by (is_open (found_pool bits blocks [] next)) (range_with_len next (min top ((i + 1) * counts_in bits) - next))
      ≡ count_by (is_open (found_pool bits blocks [] next)) (range_with_len next (min top (i * counts_in bits) - next))
      + count_by (stands_apart bits (get_or blocks i 0) (max next (i * counts_in bits))) (range_with_len (max next (i * counts_in bits)) (min top (i * counts_in bits + counts_in bits) - max next (i * counts_in bits)))
  count_more =
      let p : Pool = found_pool bits blocks [] next in
      let e : ℕ = counts_in bits in
      let start : ℕ = max next (i * e) in
      let more : (i + 1) * e ≡ i * e + e = grind arith in
      ap (λ (x : ℕ). count_by (is_open p) (range_with_len next (min top x - next))) more
      ∙ (count_between (is_open p) next (i * e) (i * e + e) top (omega arith)
      ∙ ap (λ (n : ℕ). count_by (is_open p) (range_with_len next (min top (i * e) - next)) + n)
      (count_same (is_open p) (stands_apart bits (get_or blocks i 0) start) start (min top (i * e + e) - start)
      (λ k low high. open_apart p i k (none_spoken (reach p) k) (omega arith) (omega arith))))

  pub count_small : count_by (is_open (found_pool bits blocks [] next)) (range_with_len next (min top ((i + 1) * counts_in bits) - next)) ≤ top
  count_small =
      let n : ℕ = min top ((i + 1) * counts_in bits) - next in
      omega (arith, count_by-le-length (is_open (found_pool bits blocks [] next)) (range_with_len next n), length-range_with_len next n)

pub fresh_found : (bits : ℕ) (blocks : List ℕ) (counted : List Bool) (next : ℕ) → fresh (found_pool bits blocks counted next) ≡ fresh (found_pool bits blocks [] next)
fresh_found bits blocks counted next = fresh_same (found_pool bits blocks [] next) (found_pool bits blocks counted next) refl refl (λ _ _ _. refl)
