-- The room of a pool that an opening finds.
use Rattle.std.proofs.Common.{◌≡◌, ◌≢◌, ℕ, zero, suc, ◌+◌, ◌-◌, ◌*◌, ◌/◌, ◌^◌, ◌<◌, ◌≤◌, max, min, Bool, true, false, not, ◌&&◌, List, length, get_or, inl, inr, refl, sym, ap, ◌∙◌, arith}
use Rattle.std.specs.Prelude.{count_by, nat_lt, ◌==◌, if◌then◌else◌}
use Rattle.std.specs.List.{range_with_len}
use Rattle.std.proofs.lemmas.Grind.{common_steps}
use Rattle.std.proofs.lemmas.Bool.{cases_lt, cases_eq, eq-eqb, ne_eqb, lt-ltb, le-ltb}
use Rattle.qc_layout.specs.Disks.{counts_in, bits_of, blocks_in, block_at, reach_of}
use Rattle.qc_layout.specs.Room.{is_missing_block, missing_blocks, room_from}
use Rattle.cluster_pool.specs.Laws.{HasBlocksOf, IsUntouched}
use Rattle.cluster_pool.specs.Pool.{Pool, IsPool, each, reach, is_open, fresh, block_of, becomes_block}
use Rattle.cluster_pool.proofs.Counting.{one_if, count-suc, count_same, count_all, count_cut, count_between}
use Rattle.cluster_pool.proofs.Sizes.{each_some, counted_by}
use Rattle.cluster_pool.proofs.Fresh.{fresh_is, plain}
use Rattle.cluster_pool.proofs.Blocks.{stands_apart, open_apart, apart_missing}

-- block i is missing, and would take a fresh cluster for itself
abbrev misses : Pool → ℕ → Bool
misses p i = (get_or p.blocks i 0 == 0) && (nat_lt p.next ((i + 1) * each p) && nat_lt (i * each p) (reach p))

module _ (p : Pool) (h : IsPool p) (u : IsUntouched p) (some : p.next < reach p) where
  block_there : (i k : ℕ) → get_or p.blocks i 0 ≢ 0 → i * each p ≤ k → k < i * each p + each p → p.next ≤ k → is_open p k ≡ true
  block_there i k there low high from =
      let one : block_of p k ≡ get_or p.blocks i 0 = ap (λ (x : ℕ). get_or p.blocks x 0) (counted_by k (each p) i low high) in
      let full : (block_of p k == 0) ≡ false = ne_eqb (block_of p k) 0 (λ e. there (sym one ∙ e)) in
      ap (λ (b : Bool). not b && plain p k) (u.unspoken k from)
      ∙ (ap (λ (b : Bool). not b && not (becomes_block p k)) (u.behind k from) ∙ ap (λ (b : Bool). not (b && (k == max p.next (k / each p * each p)))) full)

  block_count : (i : ℕ) → count_by (is_open p) (range_with_len (max p.next (i * each p)) (min (reach p) (i * each p + each p) - max p.next (i * each p))) + one_if (misses p i)
      ≡ min (reach p) (i * each p + each p) - max p.next (i * each p)
  block_count i =
      let e : ℕ = each p in
      let start : ℕ = max p.next (i * e) in
      let end : ℕ = min (reach p) (i * e + e) in
      let more : (i + 1) * e ≡ i * e + e = grind arith in
      let wide : 0 < e = each_some p.bits h.low in
      elim (cases_lt start end) [
        | inl inside ↦
            let first : nat_lt p.next ((i + 1) * e) ≡ true = lt-ltb p.next ((i + 1) * e) (omega arith) in
            let second : nat_lt (i * e) (reach p) ≡ true = lt-ltb (i * e) (reach p) (omega arith) in
            elim (cases_eq (get_or p.blocks i 0) 0) [
              | inl missing ↦
                  let one : one_if (misses p i) ≡ 1 =
                  ap (λ (b : Bool). one_if (b && (nat_lt p.next ((i + 1) * e) && nat_lt (i * e) (reach p)))) (eq-eqb (get_or p.blocks i 0) 0 missing)
                  ∙ (ap (λ (b : Bool). one_if (b && nat_lt (i * e) (reach p))) first ∙ ap one_if second) in
                  let same = count_same (is_open p) (stands_apart p.bits (get_or p.blocks i 0) start) start (end - start)
                  (λ k low high. open_apart p i k (u.unspoken k (omega arith)) (omega arith) (omega arith)) in
                  omega (arith, same, apart_missing p.bits (get_or p.blocks i 0) start end missing inside)
              | inr there ↦
                  let none : one_if (misses p i) ≡ 0 =
                  ap (λ (b : Bool). one_if (b && (nat_lt p.next ((i + 1) * e) && nat_lt (i * e) (reach p)))) (ne_eqb (get_or p.blocks i 0) 0 there) in
                  omega (arith, count_all (is_open p) start (end - start) (λ k low high. block_there i k there (omega arith) (omega arith) (omega arith)))
            ]
        | inr outside ↦
            let nothing : end - start ≡ 0 = omega arith in
            let none : one_if (misses p i) ≡ 0 = elim (cases_lt p.next ((i + 1) * e)) [
              | inl before ↦ let past : nat_lt (i * e) (reach p) ≡ false = le-ltb (i * e) (reach p) (omega arith) in grind (arith, common_steps)
              | inr behind ↦ let past : nat_lt p.next ((i + 1) * e) ≡ false = le-ltb p.next ((i + 1) * e) behind in grind (arith, common_steps)
            ] in
            ap (λ (n : ℕ). count_by (is_open p) (range_with_len start n) + one_if (misses p i)) nothing ∙ omega (arith)
      ]

  below_block : (m : ℕ) → count_by (is_open p) (range_with_len p.next (min (reach p) (m * each p) - p.next)) + count_by (misses p) (range_with_len 0 m) ≡ min (reach p) (m * each p) - p.next
  below_block zero =
      let none : min (reach p) (0 * each p) - p.next ≡ 0 = omega arith in
      ap (λ (n : ℕ). count_by (is_open p) (range_with_len p.next n) + 0) none ∙ sym none
  below_block (suc m) =
      let e : ℕ = each p in
      let start : ℕ = max p.next (m * e) in
      let more : suc m * e ≡ m * e + e = grind arith in
      let one : suc m ≡ m + 1 = omega arith in
      let cut : count_by (is_open p) (range_with_len p.next (min (reach p) (suc m * e) - p.next))
      ≡ count_by (is_open p) (range_with_len p.next (min (reach p) (m * e) - p.next)) + count_by (is_open p) (range_with_len start (min (reach p) (m * e + e) - start)) =
      ap (λ (x : ℕ). count_by (is_open p) (range_with_len p.next (min (reach p) x - p.next))) more ∙ count_between (is_open p) p.next (m * e) (m * e + e) (reach p) (omega arith) in
      let last : count_by (misses p) (range_with_len 0 (suc m)) ≡ count_by (misses p) (range_with_len 0 m) + count_by (misses p) (range_with_len (0 + m) 1) =
      ap (λ (n : ℕ). count_by (misses p) (range_with_len 0 n)) one ∙ count_cut (misses p) 0 m 1 in
      let single : count_by (misses p) (range_with_len (0 + m) 1) ≡ one_if (misses p m) =
      count-suc (misses p) (0 + m) 0 ∙ (let same : 0 + m ≡ m = omega arith in ap (λ (x : ℕ). one_if (misses p x) + 0) same ∙ omega arith) in
      omega (arith, below_block m, block_count m)

  room_is : fresh p + count_by (misses p) (range_with_len 0 (length p.blocks)) ≡ reach p - p.next
  room_is =
      let whole : min (reach p) (length p.blocks * each p) ≡ reach p = omega arith in
      let all : count_by (is_open p) (range_with_len p.next (min (reach p) (length p.blocks * each p) - p.next)) ≡ fresh p =
      ap (λ (x : ℕ). count_by (is_open p) (range_with_len p.next (x - p.next))) whole ∙ sym (fresh_is p p.next (reach p) refl refl) in
      omega (arith, below_block (length p.blocks))

pub fresh_room : (p : Pool) (file : List ℕ) → IsPool p → HasBlocksOf p file → IsUntouched p → fresh p ≡ room_from file p.next
fresh_room p file h b u =
    let size : each p ≡ counts_in (bits_of file) = ap counts_in b.bits in
    let far : reach p ≡ reach_of file = ap (λ (n : ℕ). min (2 ^ 30) (n * each p)) b.count ∙ ap (λ (e : ℕ). min (2 ^ 30) (blocks_in file * e)) size in
    elim (cases_lt p.next (reach p)) [
      | inl some ↦
          let same : count_by (misses p) (range_with_len 0 (length p.blocks)) ≡ missing_blocks file p.next =
          ap (λ (n : ℕ). count_by (misses p) (range_with_len 0 n)) b.count
          ∙ count_same (misses p) (is_missing_block file p.next) 0 (blocks_in file)
          (λ i _ below. ap (λ (x : ℕ). (x == 0) && (nat_lt p.next ((i + 1) * each p) && nat_lt (i * each p) (reach p))) (b.blocks i (omega arith))
          ∙ (ap (λ (e : ℕ). (block_at file i == 0) && (nat_lt p.next ((i + 1) * e) && nat_lt (i * e) (reach p))) size
          ∙ ap (λ (r : ℕ). (block_at file i == 0) && (nat_lt p.next ((i + 1) * counts_in (bits_of file)) && nat_lt (i * counts_in (bits_of file)) r)) far)) in
          let test : nat_lt p.next (reach_of file) ≡ true = lt-ltb p.next (reach_of file) (omega arith) in
          let count : fresh p ≡ reach_of file - p.next - missing_blocks file p.next = omega (arith, room_is p h u some) in
          count ∙ sym (ap (λ (t : Bool). if t then reach_of file - p.next - missing_blocks file p.next else 0) test)
      | inr none ↦
          let test : nat_lt p.next (reach_of file) ≡ false = le-ltb p.next (reach_of file) (omega arith) in
          let nothing : reach p - p.next ≡ 0 = omega arith in
          fresh_is p p.next (reach p) refl refl ∙ (ap (λ (n : ℕ). count_by (is_open p) (range_with_len p.next n)) nothing
          ∙ sym (ap (λ (t : Bool). if t then reach_of file - p.next - missing_blocks file p.next else 0) test))
    ]
