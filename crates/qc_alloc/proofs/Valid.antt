-- What holds of every pool and allocator holds after each call that prepares clusters.
use Rattle.std.proofs.Common.{◌≡◌, ◌≢◌, inl, inr, ℕ, ◌+◌, ◌*◌, ◌/◌, ◌%◌, ◌^◌, ◌<◌, ◌≤◌, max, List, [], ◌∷◌, ◌++◌, length, All, Bool, true, false, not}
use Rattle.std.proofs.Common.{◌&&◌, ◌||◌, cond, refl, sym, ◌∙◌, ap, subst, arith}
use Rattle.std.proofs.lemmas.Bool.{cases_eq, cases_lt, ne_eqb, eqb-false}
use Rattle.std.proofs.lemmas.List.{length_push}
use Rattle.std.proofs.lemmas.List.Elements.{All-push, All-weaker}
use Rattle.bitmap_model.specs.Granules.{is_in}
use Rattle.qc_layout.specs.Disks.{place_of}
use Rattle.cluster_pool.specs.Pool.{Pool, IsPool, IsReady, AreRising, each, reach, block_at, block_of, is_own_block, becomes_block, is_open, prepared_on}
use Rattle.cluster_pool.specs.Pool.{stepped, HasTakenRun, IsFirstRunOf}
use Rattle.cluster_pool.proofs.Keeping.{rising_push}
use Rattle.cluster_pool.proofs.Sizes.{place_of_same}
use Rattle.qc_alloc.specs.Allocator.{Allocator, IsAllocator}
use Rattle.qc_alloc.specs.Growing.{Raises, TakesRun}
use Rattle.qc_alloc.proofs.Raising.{same_block, place_of_some}
use Rattle.qc_alloc.proofs.Sizes.{place_of_small, place_of_next}

-- ---- pools

pub pool_prepared : (p : Pool) (n : ℕ) → IsPool p → block_of p p.prepared ≢ 0 → p.prepared % each p + n ≤ each p → IsPool (prepared_on p n)
pool_prepared p n is some within = record {
  low = is.low;
  high = is.high;
  few = is.few;
  spoken = is.spoken;
  order = omega (arith, is.order);
  found = omega (arith, is.found);
  linked = λ k low high. elim (cases_lt k p.prepared) [
    | inl was ↦ is.linked k low was
    | inr since ↦ (λ (none : block_of p k ≡ 0). some (ap (block_at p) (sym (same_block p n k within since high)) ∙ none))
  ];
  ready = All-weaker (IsReady p) (IsReady (prepared_on p n))
      (λ k r. record { below = r.below; reach = r.reach; unspoken = r.unspoken; linked = r.linked; differs = r.differs }) p.ready is.ready;
  rising = is.rising;
  at_once = is.at_once;
}

pub open_unspoken : (s o c : Bool) → (not s && (not o && not c)) ≡ true → (s ≡ false) × (o ≡ false)
open_unspoken s o c e = (grind (arith, e), grind (arith, e))

stepped_ready : (p : Pool) → IsPool p → p.next < p.prepared → p.next < reach p → is_open p p.next ≡ true → IsReady (stepped p) p.next
stepped_ready p is less below opens = record {
  below = omega arith;
  reach = below;
  unspoken = (open_unspoken (is_in p.spoken p.next) (is_own_block p p.next) (becomes_block p p.next) opens).0;
  linked = is.linked p.next (omega arith) less;
  differs = eqb-false (block_of p p.next) (place_of p.bits p.next) (open_unspoken (is_in p.spoken p.next) (is_own_block p p.next) (becomes_block p p.next) opens).1;
}

-- the ready ones after a step
abbrev joined : Bool → List ℕ → ℕ → List ℕ
joined o ready k = cond o (ready ++ k ∷ []) ready

joined_all : (P : ℕ → Type 0) (o : Bool) (ready : List ℕ) (k : ℕ) → All P ready → (o ≡ true → P k) → All P (joined o ready k)
joined_all P true ready k all is = All-push P ready k all (is refl)
joined_all P false ready k all is = all

joined_rising : (o : Bool) (ready : List ℕ) (k : ℕ) → AreRising ready → All (λ m. m < k) ready → AreRising (joined o ready k)
joined_rising true ready k rising below = rising_push ready k below rising
joined_rising false ready k rising below = rising

pub joined_length : (o : Bool) (ready : List ℕ) (k : ℕ) → length (joined o ready k) ≤ length ready + 1
joined_length true ready k = omega (arith, length_push ready k)
joined_length false ready k = omega arith

pub pool_stepped : (p : Pool) → IsPool p → p.next < p.prepared → p.next < reach p → length p.ready < 64 → IsPool (stepped p)
pool_stepped p is less below few = record {
  low = is.low;
  high = is.high;
  few = is.few;
  spoken = is.spoken;
  order = omega (arith, less);
  found = is.found;
  linked = λ k low high. is.linked k (omega (arith, low)) high;
  ready = joined_all (IsReady (stepped p)) (is_open p p.next) p.ready p.next
      (All-weaker (IsReady p) (IsReady (stepped p)) (λ k r. record {
        below = omega (
          arith,
          r.below,
        );
        reach = r.reach;
        unspoken = r.unspoken;
        linked = r.linked;
        differs = r.differs;
      }) p.ready is.ready)
      (stepped_ready p is less below);
  rising = joined_rising (is_open p p.next) p.ready p.next is.rising (All-weaker (IsReady p) (λ m. m < p.next) (λ k r. r.below) p.ready is.ready);
  at_once = omega (arith, joined_length (is_open p p.next) p.ready p.next, few);
}

pub pool_taken : (p q : Pool) (first count : ℕ) → IsPool p → p.next ≤ first → first + count ≤ p.prepared → HasTakenRun p q first count → IsPool q
pool_taken p q first count is low high taken = subst IsPool (sym taken.is) (record {
  low = is.low;
  high = is.high;
  few = is.few;
  spoken = taken.spoken.same_length ∙ is.spoken;
  order = high;
  found = is.found;
  linked = λ k from to. is.linked k (omega (arith, from, low)) to;
  ready = All-weaker (IsReady p) (IsReady (record p { spoken = q.spoken; next = first + count })) (λ k r. record {
    below = omega (arith, r.below, low);
    reach = r.reach;
    unspoken = taken.spoken.others k (inl (omega (arith, r.below, low))) ∙ r.unspoken;
    linked = r.linked;
    differs = r.differs;
  }) p.ready is.ready;
  rising = is.rising;
  at_once = is.at_once;
})

-- ---- allocators

own_only : (s o p : Bool) → s ≡ false → o ≡ false → (s || (o && not p)) ≡ false
own_only s o p e d = grind (arith, e, d)

module _ (a b : Allocator) (is : IsAllocator a) (table : b.table ≡ a.table) (raises : Raises a.pool b.pool) (pool : IsPool b.pool) where
  some_on : 0 < b.pool.prepared
  some_on = omega (arith, is.some, raises.prepared)

  blocks_on : (i : ℕ) → block_at b.pool i ≢ 0 → (k : ℕ) × (0 < k) × (k < b.pool.prepared) × (block_at b.pool i ≡ place_of b.pool.bits k)
  blocks_on i some = elim (cases_eq (block_at a.pool i) 0) [
    | inr was ↦ (let old = is.blocks i was in
        (old.0, old.1, omega (arith, old.2, raises.prepared), raises.kept i was ∙ old.3 ∙ ap (λ (x : ℕ). place_of x old.0) (sym raises.bits)))
    | inl none ↦ (let new = raises.added i none some in (
      max a.pool.prepared (i * each a.pool),
      omega (arith, is.some),
      new.0,
      new.1 ∙ ap
          (λ (x : ℕ). place_of x (max a.pool.prepared (i * each a.pool))) (sym raises.bits),
    ))
  ]

  ends_on : (i : ℕ) → block_at b.pool i + 2 ^ b.pool.bits ≤ 2 ^ 62
  ends_on i = elim (cases_eq (block_at a.pool i) 0) [
    | inr was ↦ omega (arith, is.ends i, raises.kept i was, size)
    | inl none ↦ elim (cases_eq (block_at b.pool i) 0) [
      | inl still ↦ omega (arith, is.ends i, none, still, size)
      | inr some ↦ (let new = raises.added i none some in
          let k = max a.pool.prepared (i * each a.pool) in
          omega (arith, new.0, new.1, place_of_next a.pool.bits k, place_of_small a.pool.bits (k + 1) is.pool.high (omega (arith, new.0, raises.below)), size))
    ]
  ]
    where
      size : 2 ^ b.pool.bits ≡ 2 ^ a.pool.bits
      size = ap (λ (x : ℕ). 2 ^ x) raises.bits

  unspoken_on : (k : ℕ) → b.pool.prepared ≤ k → is_in b.pool.spoken k ≡ false
  unspoken_on k high =
      raises.spoken k ∙ own_only (is_in a.pool.spoken k) (is_own_block b.pool k) (is_own_block a.pool k) (is.unspoken k (omega (arith, high, raises.prepared)))
      (ne_eqb (block_of b.pool k) (place_of b.pool.bits k) (λ own. elim (cases_eq (block_of b.pool k) 0) [
        | inl none ↦ absurd (omega (arith, none, own, place_of_some b.pool.bits k (omega (arith, some_on, high))))
        | inr some ↦ (let at = blocks_on (k / each b.pool) some in absurd (omega (arith, at.2, high, place_of_same b.pool.bits at.0 k (sym at.3 ∙ own))))
      ]))

  pub allocator_on : IsAllocator b
  allocator_on = record {
    pool = pool;
    some = some_on;
    blocks = blocks_on;
    below = omega (
      arith,
      is.below,
      table,
      raises.count,
    );
    ends = ends_on;
    unspoken = unspoken_on;
  }

pub allocator_taken : (a b : Allocator) (first count : ℕ) → IsAllocator a → b.table ≡ a.table → a.pool.next ≤ first → first + count ≤ a.pool.prepared
    → HasTakenRun a.pool b.pool first count → IsAllocator b
allocator_taken a b first count is table low high taken = record {
  pool = pool_taken a.pool b.pool first count is.pool low high taken;
  some = omega (arith, is.some, ap (λ (x : Pool). x.prepared) taken.is);
  blocks = λ i some.
      let same : block_at b.pool i ≡ block_at a.pool i = ap (λ (x : Pool). block_at x i) taken.is in
      let old = is.blocks i (λ none. some (same ∙ none)) in
      (old.0, old.1, omega (arith, old.2, ap (λ (x : Pool). x.prepared) taken.is), same ∙ old.3 ∙ ap (λ (x : Pool). place_of x.bits old.0) (sym taken.is));
  below = omega (arith, is.below, table, ap (λ (x : Pool). length x.blocks) taken.is);
  ends = λ i. omega (arith, is.ends i, ap (λ (x : Pool). block_at x i) taken.is, ap (λ (x : Pool). 2 ^ x.bits) taken.is);
  unspoken = λ k from. let past : a.pool.prepared ≤ k = omega (arith, from, ap (λ (x : Pool). x.prepared) taken.is) in
      taken.spoken.others k (inr (omega (arith, past, high))) ∙ is.unspoken k past;
}

-- ---- a run is taken

pub takes_run : (p m q : Pool) (first count : ℕ) → IsFirstRunOf p count first → Raises p m → m.next ≡ p.next → m.ready ≡ p.ready → IsPool m
    → first + count ≤ m.prepared → HasTakenRun m q first count → TakesRun p q count first
takes_run p m q first count run raises next ready is high taken = record {
  run = run;
  between = m;
  raises = raises;
  next = next;
  ready = ready;
  takes = taken;
  prepared = omega (arith, high, ap (λ (x : Pool). x.prepared) taken.is);
  linked = λ k low below none. is.linked k (omega (arith, low, next, run.is.from)) (omega (arith, below, high)) (ap
      (λ (x : Pool). block_of x k) (sym taken.is) ∙ none);
  differs = λ k low below own.
      let opens : is_open m k ≡ true = raises.opens k (omega (arith, low, next, run.is.from)) ∙ run.is.plain k low below in
      eqb-false (block_of m k) (place_of m.bits k) (open_unspoken (is_in m.spoken k) (is_own_block m k) (becomes_block m k) opens).1
      (ap (λ (x : Pool). block_of x k) (sym taken.is) ∙ own ∙ ap (λ (x : Pool). place_of x.bits k) taken.is);
}
