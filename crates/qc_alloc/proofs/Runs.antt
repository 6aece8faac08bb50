-- Which clusters are spoken for once a run was taken: those that something refers to, and the run.
use Rattle.std.proofs.Common.{◌≡◌, ◌⊎◌, inl, inr, ℕ, ◌+◌, ◌<◌, ◌≤◌, List, false, IsTrue, sym, ◌∙◌, ap, subst, arith}
use Rattle.std.proofs.lemmas.Bool.{cases_lt}
use Rattle.bitmap_model.specs.Granules.{is_in}
use Rattle.cluster_pool.specs.Pool.{Pool, reach, block_at, is_own_block, becomes_block}
use Rattle.image_model.specs.Clusters.{Shape, Who, IsBlock, Refers}
use Rattle.image_model.specs.Calls.{AreNamed, LeavesGuest, SameTables}
use Rattle.image_steps.proofs.Places.{place_same}
use Rattle.qc_alloc.specs.Allocator.{Allocator, IsAllocator, IsOf, HasBlocks, HasTable}
use Rattle.qc_alloc.specs.Growing.{TakesRun}
use Rattle.qc_alloc.specs.Laws.{IsExact, IsExactButRun}
use Rattle.qc_alloc.proofs.Exact.{stays_exact, stays_whole}
use Rattle.qc_alloc.proofs.Grown.{half_same, table_same}
use Rattle.qc_alloc.proofs.Raising.{same_reach}
use Rattle.qc_alloc.proofs.Valid.{open_unspoken}

module _ (s : Shape) (a b : Allocator) (old new : List ℕ) (count first : ℕ) (is : IsAllocator a) (of : IsOf s a) (run : TakesRun a.pool b.pool count first) (had : HasTable s a old) (has : HasTable s b new) (leaves : LeavesGuest s old new) (tables : SameTables s old new) (exact : IsExact s a old) where
  -- as it is before the run is taken
  abbrev ready : Allocator
  ready = record b { pool = run.between }

  bits : b.pool.bits ≡ run.between.bits
  bits = ap (λ (p : Pool). p.bits) run.takes.is

  blocks : b.pool.blocks ≡ run.between.blocks
  blocks = ap (λ (p : Pool). p.blocks) run.takes.is

  prepared : b.pool.prepared ≡ run.between.prepared
  prepared = ap (λ (p : Pool). p.prepared) run.takes.is

  reach_b : reach b.pool ≡ reach a.pool
  reach_b = ap (λ (p : Pool). reach p) run.takes.is ∙ same_reach a.pool run.between run.raises

  has_ready : HasTable s ready new
  has_ready = table_same s b ready new (sym bits) (sym blocks) (sym prepared) has

  is_ready : IsExact s ready new
  is_ready = stays_exact s a ready old new is of run.raises had has_ready leaves tables exact

  unready : (k : ℕ) → first ≤ k → k < first + count → is_in run.between.spoken k ≡ false
  unready k low high =
      (open_unspoken _ (is_own_block run.between k) (becomes_block run.between k) (run.raises.opens k (omega (arith, low, run.next, run.run.is.from)) ∙ run.run.is.plain k low high)).0

  unspoken : (k : ℕ) → first ≤ k → k < first + count → is_in a.pool.spoken k ≡ false
  unspoken k low high = (open_unspoken _ (is_own_block a.pool k) (becomes_block a.pool k) (run.run.is.plain k low high)).0

  unnamed : (who : Who) (k : ℕ) → first ≤ k → k < first + count → Refers s new who k → ⊥
  unnamed who k low high r = elim (is_ready.named who k r) [
    | inl spoken ↦ absurd (cc (spoken, unready k low high))
    | inr half ↦
        let block : IsBlock s new half.0 k = subst (λ (x : Who). Refers s new x k) half.1 r in
        absurd (omega (arith, place_same s run.between.prepared k of.shape.some (sym half.2.word ∙ block.at), high, run.prepared, prepared))
  ]

  -- a cluster is one of the run, or spoken for as before
  parts : (k : ℕ) → ((first ≤ k) × (k < first + count)) ⊎ (is_in b.pool.spoken k ≡ is_in run.between.spoken k)
  parts k = elim (cases_lt k first) [
    | inl below ↦ inr (run.takes.spoken.others k (inl below))
    | inr from ↦ elim (cases_lt k (first + count)) [
      | inl inside ↦ inl (omega (arith, from), inside)
      | inr past ↦ inr (run.takes.spoken.others k (inr (omega (arith, past))))
    ]
  ]

  spoken_on : (k : ℕ) → IsTrue (is_in run.between.spoken k) → IsTrue (is_in b.pool.spoken k)
  spoken_on k spoken = elim (parts k) [
    | inl inside ↦ absurd (cc (spoken, unready k inside.0 inside.1))
    | inr same ↦ same ∙ spoken
  ]

  pub run_exact : IsExactButRun s a b count first new
  run_exact = record {
    named = λ who k r. elim (is_ready.named who k r) [
      | inl spoken ↦ inl (spoken_on k spoken)
      | inr half ↦ inr (half.0, half.1, half_same s ready b new bits blocks prepared half.0 half.2)
    ];
    exact = λ k spoken. elim (parts k) [ inl inside ↦ inr inside | inr same ↦ inl (is_ready.exact k (sym same ∙ spoken)) ];
    unnamed = unnamed;
    unspoken = unspoken;
    spoken = λ pool k low high. run.takes.spoken.inside k low high (omega (arith, high, run.run.is.below, pool.spoken, run.takes.spoken.same_length, reach_b));
  }

  pub run_named : HasBlocks s b new → AreNamed s (is_in b.pool.spoken) new
  run_named words who k r =
      spoken_on k ((stays_whole s a ready old new is of run.raises had has_ready leaves tables exact (λ i inside. words i inside ∙ ap (λ (p : Pool). block_at p i) run.takes.is)).named who k r)
