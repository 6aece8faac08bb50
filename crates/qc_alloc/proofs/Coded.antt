-- Places and counts as the code writes them.
use Rattle.std.proofs.Common.{◌≡◌, ◌≢◌, inl, inr, ℕ, ◌+◌, ◌-◌, ◌*◌, ◌/◌, ◌%◌, ◌^◌, ◌<◌, ◌≤◌, List, length, ◌==◌, cond, refl, sym, ◌∙◌, ap, eq-eqb, arith}
use Rattle.std.proofs.lemmas.Bool.{cases_eq, ne_eqb}
use Rattle.disk_model.specs.World.{World, Parts, Runs}
use Rattle.qc_layout.specs.Disks.{place_of, counts_in}
use Rattle.image_model.specs.Calls.{AreOnes}
use Rattle.cluster_pool.specs.Pool.{each, reach, block_of, HasAddedBlock}
use Rattle.cluster_pool.proofs.Sizes.{each_shifted}
use Rattle.qc_alloc.specs.Allocator.{Allocator, IsAllocator}
use Rattle.qc_alloc.specs.Growing.{Raises, Grows, NamesBlocks}
use Rattle.qc_alloc.proofs.Raising.{place_of_some}
use Rattle.qc_alloc.proofs.Sizes.{place_shifted}
use Rattle.qc_alloc.proofs.Grown.{Counts, counted_grows, Adds, IsEither, IsLinking, half_grows, added_grows}

-- where a cluster begins, and how many counts a block has
abbrev pub shifted : ℕ → ℕ → ℕ
shifted bits k = k * 2 ^ bits % 18446744073709551616

abbrev pub half : ℕ → ℕ
half bits = 1 * 2 ^ (bits - 1) % 18446744073709551616

module _ (a : Allocator) (is_a : IsAllocator a) (bits last : ℕ) (bits_is : bits ≡ a.pool.bits) (last_is : last ≡ a.pool.prepared) where
  pub half_is : half bits ≡ each a.pool
  half_is = each_shifted bits (omega (arith, bits_is, is_a.pool.low)) (omega (arith, bits_is, is_a.pool.high)) ∙ ap counts_in bits_is

  pub slot_is : last % half bits ≡ a.pool.prepared % each a.pool
  slot_is = ap (λ (x : ℕ). last % x) half_is ∙ ap (λ (x : ℕ). x % each a.pool) last_is

  pub index_is : last / half bits ≡ a.pool.prepared / each a.pool
  index_is = ap (λ (x : ℕ). last / x) half_is ∙ ap (λ (x : ℕ). x / each a.pool) last_is

  pub place_at : (n : ℕ) → a.pool.prepared + n ≤ 2 ^ 30 → shifted bits (last + n) ≡ place_of a.pool.bits (a.pool.prepared + n)
  place_at n small =
      place_shifted bits (last + n) (omega (arith, bits_is, is_a.pool.high)) (omega (arith, last_is, small))
      ∙ ap (λ (x : ℕ). place_of x (last + n)) bits_is ∙ ap (λ (x : ℕ). place_of a.pool.bits (x + n)) last_is

  pub finish_at : (n : ℕ) → 0 < n → a.pool.prepared + n ≤ 2 ^ 30 → shifted bits (last + n) - 1 + 1 ≡ place_of a.pool.bits (a.pool.prepared + n)
  finish_at n some small = omega (arith, place_at n small, place_of_some a.pool.bits (a.pool.prepared + n) (omega (arith, some)))

  -- clusters are counted
  pub counted_at : {parts : Parts} (n on block : ℕ) (counts : List ℕ) (old new : World) → Runs parts old new → 0 < n → block_of a.pool a.pool.prepared ≢ 0
      → block ≡ block_of a.pool a.pool.prepared
      → a.pool.prepared % each a.pool + n ≤ each a.pool → a.pool.prepared + n ≤ reach a.pool → length counts ≡ 2 * n → AreOnes n counts
      → Counts a.file a.pool.prepared n on (shifted bits (last + n) - 1) (block + 2 * (last % half bits)) counts old new
      → (b : Allocator) → b.file ≡ a.file → b.table ≡ a.table → b.pool ≡ record a.pool { prepared = on } → Grows a b old new × NamesBlocks a b old new
  counted_at n on block counts old new run some linked block_is within below long ones call =
      counted_grows a is_a n on (shifted bits (last + n) - 1) (block + 2 * (last % half bits)) counts old new run some linked within below long ones
      (ap (λ (x : ℕ). x + 2 * (last % half bits)) block_is ∙ ap (λ (x : ℕ). block_of a.pool a.pool.prepared + 2 * x) slot_is)
      (finish_at n some (omega (arith, below))) call

  -- a block is added
  module _ {parts : Parts} (on end : ℕ) (old new : World) (run : Runs parts old new) (missing : block_of a.pool a.pool.prepared ≡ 0) (below : a.pool.prepared < reach a.pool)
      (one : last % half bits + 1 ≡ half bits → end ≡ 1) (none : last % half bits + 1 ≢ half bits → end ≡ 0)
      (call : Adds a.file a.pool.prepared on (shifted bits (last + 1) - 1) end (shifted bits last + 2 * (last % half bits)) (a.table + 8 * (last / half bits)) (shifted bits last) old new) where
    word_at : shifted bits last ≡ place_of a.pool.bits a.pool.prepared
    word_at = ap (shifted bits) (omega arith) ∙ place_at 0 (omega (arith, below)) ∙ ap (place_of a.pool.bits) (omega arith)

    spot_at : shifted bits last + 2 * (last % half bits) ≡ place_of a.pool.bits a.pool.prepared + 2 * (a.pool.prepared % each a.pool)
    spot_at = ap (λ (x : ℕ). x + 2 * (last % half bits)) word_at ∙ ap (λ (x : ℕ). place_of a.pool.bits a.pool.prepared + 2 * x) slot_is

    end_at : end ≡ cond (a.pool.prepared % each a.pool + 1 == each a.pool) 1 0
    end_at = elim (cases_eq (a.pool.prepared % each a.pool + 1) (each a.pool)) [
      | inl is ↦ one (omega (arith, is, slot_is, half_is)) ∙ sym (ap (λ t. cond t 1 0) (eq-eqb _ _ is))
      | inr not ↦ none (λ is. not (omega (arith, is, slot_is, half_is))) ∙ sym (ap (λ t. cond t 1 0) (ne_eqb _ _ not))
    ]

    table_at : a.table + 8 * (last / half bits) ≡ a.table + 8 * (a.pool.prepared / each a.pool)
    table_at = ap (λ (x : ℕ). a.table + 8 * x) index_is

    pub half_at : on ≡ a.pool.prepared → IsEither a.file a.pool.prepared (shifted bits (last + 1) - 1) end (shifted bits last + 2 * (last % half bits)) (a.table + 8 * (last / half bits)) (shifted bits last) old new → Grows a a old new
    half_at same either =
        half_grows a is_a on (shifted bits (last + 1) - 1) end (shifted bits last + 2 * (last % half bits)) (a.table + 8 * (last / half bits)) (shifted bits last) old new run missing below
        spot_at (finish_at 1 (omega arith) (omega (arith, below))) end_at table_at word_at call either a same refl refl refl

    pub added_at : on ≡ a.pool.prepared + 1 → IsLinking a.file a.pool.prepared (shifted bits (last + 1) - 1) end (shifted bits last + 2 * (last % half bits)) (a.table + 8 * (last / half bits)) (shifted bits last) old new
        → (b : Allocator) → b.file ≡ a.file → b.table ≡ a.table → HasAddedBlock a.pool b.pool → Raises a.pool b.pool → Grows a b old new × NamesBlocks a b old new
    added_at more linking b file table added raises =
        added_grows a is_a on (shifted bits (last + 1) - 1) end (shifted bits last + 2 * (last % half bits)) (a.table + 8 * (last / half bits)) (shifted bits last) old new run missing below
        spot_at (finish_at 1 (omega arith) (omega (arith, below))) end_at table_at word_at call linking b more file table added raises
