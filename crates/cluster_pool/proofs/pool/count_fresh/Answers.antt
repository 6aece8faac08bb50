use Rattle.std.proofs.Common.{◌≡◌, ℕ, ◌+◌, ◌-◌, ◌*◌, ◌^◌, ◌≤◌, max, min, List, [], length, get_or, refl, sym, ap, ◌∙◌, arith, rules}
use Rattle.std.specs.Prelude.{count_by}
use Rattle.std.specs.List.{range_with_len}
use Rattle.qc_layout.specs.Disks.{counts_in}
use Rattle.cluster_pool.specs.Pool.{Pool, found_pool, is_open}
use Rattle.cluster_pool.proofs.Sizes.{each_shifted}
use Rattle.cluster_pool.proofs.Fresh.{fresh_is}
use Rattle.cluster_pool.proofs.Blocks.{stands_apart, count_more, count_small}
use Rattle.cluster_pool.proofs.pool.count_fresh.Goals as goal

-- what one block adds, as the code has it
module _ (bits : ℕ) (blocks : List ℕ) (reach next i e start end added sum : ℕ) (size : e ≡ counts_in bits) (from : start ≡ max next (i * e)) (to : end ≡ min reach (i * e + e))
    (count : added ≡ count_by (stands_apart bits (get_or blocks i 0) start) (range_with_len start (end - start))) where
  added_is : added ≡ count_by (stands_apart bits (get_or blocks i 0) (max next (i * counts_in bits)))
      (range_with_len (max next (i * counts_in bits)) (min reach (i * counts_in bits + counts_in bits) - max next (i * counts_in bits)))
  added_is =
      let place : start ≡ max next (i * counts_in bits) = from ∙ ap (λ (x : ℕ). max next (i * x)) size in
      let past : end ≡ min reach (i * counts_in bits + counts_in bits) = to ∙ ap (λ (x : ℕ). min reach (i * x + x)) size in
      count ∙ (ap (λ (x : ℕ). count_by (stands_apart bits (get_or blocks i 0) x) (range_with_len x (end - x))) place
      ∙ ap (λ (x : ℕ). count_by (stands_apart bits (get_or blocks i 0) (max next (i * counts_in bits))) (range_with_len (max next (i * counts_in bits)) (x - max next (i * counts_in bits)))) past)

  sum_is : sum ≡ count_by (is_open (found_pool bits blocks [] next)) (range_with_len next (min reach (i * counts_in bits) - next))
      → sum + added ≡ count_by (is_open (found_pool bits blocks [] next)) (range_with_len next (min reach ((i + 1) * counts_in bits) - next))
  sum_is was = omega (arith, added_is, count_more bits blocks next reach i)

pub overflow_add-fresh : goal.overflow_add-fresh
overflow_add-fresh c =
    let small : c.loop-index.fresh + c.count_plain-fresh.result ≤ 2 ^ 30 = omega (
      arith,
      sum_is c.args.cluster_bits c.args.blocks.now c.args.reach c.args.next c.loop-index.index _ _ _ _ c.loop-index.fresh
          (each_shifted c.args.cluster_bits c.requires.low c.requires.high) c.max.ensures c.min.ensures c.count_plain-fresh.ensures c.loop-index.invariant,
      count_small c.args.cluster_bits c.args.blocks.now c.args.next c.args.reach c.loop-index.index,
      c.requires.reach,
    ) in
    search rules

pub loop-index-preserved : goal.loop-index-preserved
loop-index-preserved c =
    sum_is c.args.cluster_bits c.args.blocks.now c.args.reach c.args.next c.loop-index.index _ _ _ _ c.loop-index.fresh
    (each_shifted c.args.cluster_bits c.requires.low c.requires.high) c.max.ensures c.min.ensures c.count_plain-fresh.ensures c.loop-index.invariant

pub returns : goal.returns
returns c =
    let bits : ℕ = c.args.cluster_bits in
    let all : c.loop-index.index ≡ length c.args.blocks.now = omega arith in
    let whole : min c.args.reach (c.loop-index.index * counts_in bits) ≡ c.args.reach = ap (λ (n : ℕ). min c.args.reach (n * counts_in bits)) all ∙ omega (arith, c.requires.reach) in
    let p : Pool = found_pool bits c.args.blocks.now [] c.args.next in
    c.loop-index.invariant ∙ (ap (λ (n : ℕ). count_by (is_open p) (range_with_len c.args.next (n - c.args.next))) whole ∙ sym (fresh_is p c.args.next c.args.reach refl (sym c.requires.reach)))
