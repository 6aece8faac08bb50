-- Which clusters are spoken for while more are prepared: those that something refers to.
use Rattle.std.proofs.Common.{◌≡◌, ◌≢◌, ◌⊎◌, inl, inr, ⊎_elim, ℕ, ◌*◌, ◌/◌, ◌<◌, max, List, length, Bool, true, false, not, ◌&&◌, ◌||◌, IsTrue, refl, sym, ◌∙◌, ap, subst, eq-eqb, arith}
use Rattle.std.proofs.lemmas.Bool.{cases_eq, cases_lt, ne_eqb, eqb-true, eqb-false}
use Rattle.std.proofs.lemmas.List.{get_or_past}
use Rattle.bitmap_model.specs.Granules.{is_in}
use Rattle.qc_layout.specs.Disks.{place_of, counts_in}
use Rattle.cluster_pool.specs.Pool as pools
use Rattle.cluster_pool.specs.Pool.{block_at, block_of, is_own_block}
use Rattle.cluster_pool.proofs.Sizes.{each_some, place_of_same, counted_by}
use Rattle.qc_alloc.specs.Allocator.{Allocator, IsAllocator, IsOf, IsHalfAdded, HasBlocks, HasTable}
use Rattle.qc_alloc.specs.Growing.{Raises}
use Rattle.qc_alloc.specs.Laws.{IsExact}
use Rattle.qc_alloc.proofs.Grown.{place_is}
use Rattle.qc_alloc.proofs.Naming.{guest_by, refers_on}
use Rattle.qc_alloc.proofs.Raising.{place_of_some}
use Rattle.image_model.specs.Clusters.{Shape, Who, Head, Counts, Block, Tables, Table, Guest, Bitmaps, offset, place, IsBlock, IsTable, IsGuest, Refers}
use Rattle.image_model.specs.Calls.{AreExactly, LeavesGuest, SameTables}
use Rattle.image_steps.proofs.Places.{place_some, place_zero}

spoken_block : (p o w q : Bool) → q ≡ (p || (o && not w)) → o ≡ true → w ≡ false → q ≡ true
spoken_block p o w q is own was = grind (arith, is, own, was)

spoken_still : (p o w q : Bool) → q ≡ (p || (o && not w)) → p ≡ true → q ≡ true
spoken_still p o w q is old = grind (arith, is, old)

spoken_since : (p o w q : Bool) → q ≡ (p || (o && not w)) → q ≡ true → (p ≡ true) ⊎ ((o ≡ true) × (w ≡ false))
spoken_since true o w q is now = inl refl
spoken_since false true false q is now = inr (refl, refl)
spoken_since false true true q is now = absurd (cc)
spoken_since false false w q is now = absurd (cc)

same_block : (i j : ℕ) → Block i ≡ Block j → i ≡ j
same_block i j same = cc

module _ (s : Shape) (a b : Allocator) (old new : List ℕ) (is : IsAllocator a) (of : IsOf s a) (raises : Raises a.pool b.pool) (had : HasTable s a old) (has : HasTable s b new) (leaves : LeavesGuest s old new) (tables : SameTables s old new) where
  each_b : pools.each b.pool ≡ pools.each a.pool
  each_b = ap counts_in raises.bits

  place_b : (k : ℕ) → place_of b.pool.bits k ≡ place s k
  place_b k = ap (λ (x : ℕ). place_of x k) raises.bits ∙ place_is s a.pool.bits k of.cluster

  -- ---- tables, and what they name

  table_back : (i q : ℕ) → IsTable s new i q → IsTable s old i q
  table_back i q t = record { inside = t.inside; some = t.some; at = ap offset (sym (tables i t.inside)) ∙ t.at }

  guest_back : (i j k : ℕ) → IsGuest s new i j k → IsGuest s old i j k
  guest_back i j k g = guest_by s new old i j k of.shape.some g (table_back i g.table g.linked) (sym (leaves.alike.entries i j g.linked.inside g.inside))

  -- ---- blocks

  still : (k : ℕ) → IsTrue (is_in a.pool.spoken k) → IsTrue (is_in b.pool.spoken k)
  still k spoken = spoken_still _ (is_own_block b.pool k) (is_own_block a.pool k) _ (raises.spoken k) spoken

  -- a block that was added is spoken for
  added_spoken : (i k : ℕ) → block_at a.pool i ≡ 0 → block_at b.pool i ≢ 0 → block_at b.pool i ≡ place s k → IsTrue (is_in b.pool.spoken k)
  added_spoken i k none some at =
      let m = max a.pool.prepared (i * pools.each a.pool) in
      let new_at : block_at b.pool i ≡ place_of a.pool.bits m = (raises.added i none some).1 in
      let same : m ≡ k = place_of_same a.pool.bits m k (sym new_at ∙ at ∙ sym (place_is s a.pool.bits k of.cluster)) in
      let index : k / pools.each a.pool ≡ i = counted_by k (pools.each a.pool) i (omega (arith, same)) (omega (arith, same, raises.counts i none some, each_some a.pool.bits is.pool.low)) in
      let own : block_of b.pool k ≡ place_of b.pool.bits k = ap (λ (e : ℕ). block_at b.pool (k / e)) each_b ∙ ap (block_at b.pool) index ∙ at ∙ sym (place_b k) in
      let was : block_of a.pool k ≡ 0 = ap (block_at a.pool) index ∙ none in
      spoken_block _ (is_own_block b.pool k) (is_own_block a.pool k) _ (raises.spoken k) (eq-eqb _ _ own)
      (ne_eqb _ _ (λ same_a. absurd (omega (arith, was, same_a, place_of_some a.pool.bits k (omega (arith, same, is.some))))))

  module _ (exact : IsExact s a old) where
    named_still : (who : Who) (k : ℕ) → ((i : ℕ) → who ≢ Block i) → Refers s old who k → IsTrue (is_in b.pool.spoken k)
    named_still who k other r = elim (exact.named who k r) [ inl spoken ↦ still k spoken | inr half ↦ absurd (other half.0 half.1) ]

    named_block : (i k : ℕ) → IsBlock s new i k → IsTrue (is_in b.pool.spoken k) ⊎ IsHalfAdded s b i new
    named_block i k r = elim (has i r.inside) [
      | inr half ↦ inr half
      | inl word ↦
          let at : block_at b.pool i ≡ place s k = sym word ∙ r.at in
          let some : block_at b.pool i ≢ 0 = λ (none : block_at b.pool i ≡ 0). absurd (omega (arith, at, none, place_some s k of.shape.some r.some)) in
          inl (elim (cases_eq (block_at a.pool i) 0) [
            | inl none ↦ added_spoken i k none some at
            | inr was ↦
                let kept = raises.kept i was in
                elim (had i r.inside) [
                  | inr half ↦ absurd (was half.missing)
                  | inl old_word ↦ elim (exact.named (Block i) k (record { inside = r.inside; some = r.some; at = old_word ∙ sym kept ∙ at })) [
                    | inl spoken ↦ still k spoken
                    | inr half ↦ absurd (was (ap (block_at a.pool) (same_block i half.0 half.1) ∙ half.2.missing))
                  ]
                ]
          ])
    ]

    named : (who : Who) (k : ℕ) → Refers s new who k → IsTrue (is_in b.pool.spoken k) ⊎ ((i : ℕ) × (who ≡ Block i) × IsHalfAdded s b i new)
    named Head k r = inl (named_still Head k (λ i same. cc) r)
    named Counts k r = inl (named_still Counts k (λ i same. cc) r)
    named (Block i) k r = elim (named_block i k r) [ inl spoken ↦ inl spoken | inr half ↦ inr (i, refl, half) ]
    named Tables k r = inl (named_still Tables k (λ i same. cc) r)
    named (Table i) k r = inl (named_still (Table i) k (λ i same. cc) (table_back i k r))
    named (Guest i j) k r = inl (named_still (Guest i j) k (λ i same. cc) (guest_back i j k r))
    named (Bitmaps held) k r = inl (named_still (Bitmaps held) k (λ i same. cc) r)

    -- a block that was added is referred to
    own_there : (k : ℕ) → is_own_block b.pool k ≡ true → is_own_block a.pool k ≡ false → IsBlock s new (k / pools.each b.pool) k
    own_there k own not_own =
        let i = k / pools.each b.pool in
        let at : block_at b.pool i ≡ place s k = eqb-true _ _ own ∙ place_b k in
        let other = eqb-false (block_of a.pool k) (place_of a.pool.bits k) not_own in
        let index : block_at a.pool i ≡ block_of a.pool k = ap (λ (e : ℕ). block_at a.pool (k / e)) each_b in
        let none : block_at a.pool i ≡ 0 = elim (cases_eq (block_at a.pool i) 0) [
          | inl is_none ↦ is_none
          | inr was ↦ absurd (other (sym index ∙ sym (raises.kept i was) ∙ at ∙ sym (place_is s a.pool.bits k of.cluster)))
        ] in
        let more : 0 < k = elim (cases_eq k 0) [
          | inl zero ↦ absurd (other (sym index ∙ none ∙ sym (ap (place s) zero ∙ place_zero s) ∙ sym (place_is s a.pool.bits k of.cluster)))
          | inr some ↦ omega (arith, some)
        ] in
        let some : block_at b.pool i ≢ 0 = λ (is_none : block_at b.pool i ≡ 0). absurd (omega (arith, at, is_none, place_some s k of.shape.some more)) in
        let inside : i < s.blocks = elim (cases_lt i (length b.pool.blocks)) [
          | inl below ↦ omega (arith, below, raises.count, of.blocks)
          | inr past ↦ absurd (some (get_or_past b.pool.blocks i 0 past))
        ] in
        record { inside = inside; some = more; at = ⊎_elim (λ word. word ∙ at) (λ half. absurd (some half.missing)) (has i inside) }

    there : (k : ℕ) → IsTrue (is_in b.pool.spoken k) → (who : Who) × Refers s new who k
    there k spoken = elim (spoken_since _ (is_own_block b.pool k) (is_own_block a.pool k) _ (raises.spoken k) spoken) [
      | inl was ↦ let who = exact.exact k was in (who.0, refers_on s old new of.shape.some leaves who.0 k who.1)
      | inr since ↦ (Block (k / pools.each b.pool), own_there k since.0 since.1)
    ]

    pub stays_exact : IsExact s b new
    stays_exact = record { named = named; exact = there }

    pub stays_whole : HasBlocks s b new → AreExactly s (is_in b.pool.spoken) new
    stays_whole blocks = record {
      named = λ who k r. elim (named who k r) [
        | inl spoken ↦ spoken
        | inr half ↦
            let block : IsBlock s new half.0 k = subst (λ (x : Who). Refers s new x k) half.1 r in
            absurd (omega (arith, half.2.word, blocks half.0 block.inside, half.2.missing, place_some s b.pool.prepared of.shape.some (omega (arith, is.some, raises.prepared))))
      ];
      exact = there;
    }
