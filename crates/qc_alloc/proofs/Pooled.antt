-- What holds of every pool holds after a claim, a taking and a giving back.
use Rattle.std.proofs.Common.{◌≡◌, ◌≢◌, ℕ, zero, suc, ◌+◌, ◌-◌, ◌*◌, ◌^◌, ◌<◌, ◌≤◌, List, [], ◌∷◌, ◌++◌, length, min, slice_index, filter, None, Result, Ok, Err, OnOk, OnErr, Bool, true, false, not, inl, inr, refl, sym, ap, subst, ◌∙◌, arith}
use Rattle.std.specs.Prelude.{◌==◌}
use Rattle.std.specs.List.{All, range_with_len}
use Rattle.std.proofs.lemmas.Bool.{eq-eqb, cases_Bool, cases_eq}
use Rattle.std.proofs.lemmas.List.{length-append}
use Rattle.std.proofs.lemmas.List.FromFn.{length-range_with_len}
use Rattle.std.proofs.lemmas.List.Elements.{All-filter, All-nil, All-cons, All-head, All-tail, All-weaker}
use Rattle.bitmap_model.specs.Granules.{is_in}
use Rattle.cluster_pool.specs.Sets.{without_member}
use Rattle.qc_layout.specs.Disks.{place_of, counts_in}
use Rattle.qc_alloc.specs.declared.clusters.Clusters.TheInside.{Inside}
use Rattle.qc_alloc.specs.declared.refusals.ClusterRefusal.{ClusterRefusal}
use Rattle.qc_alloc.specs.Allocator.{Allocator, HandsOut}
use Rattle.qc_alloc.specs.Inside.{IsInside}
use Rattle.cluster_pool.specs.Pool.{Pool, claim_refusal, IsPool, IsReady, AreRising, claimed, given_back, HasTaken, HasTakenRow, fresh, room}
use Rattle.cluster_pool.proofs.Keeping.{rising_filter, filter_short}
use Rattle.cluster_pool.proofs.Words.{length-with, length-without, is_in-with_other, is_in-without, is_in-without_other}
use Rattle.cluster_pool.proofs.Rows.{row_one}
use Rattle.qc_alloc.proofs.Claiming.{claimed_below}

-- ---- some of a list

all_kept : (P Q : ℕ → Type 0) (t : ℕ → Bool) → ((m : ℕ) → P m → t m ≡ true → Q m) → (xs : List ℕ) → All P xs → All Q (filter t xs)
all_kept P Q t so [] are = All-nil Q
all_kept P Q t so (x ∷ xs) are = elim (cases_Bool (t x)) [
  | inl kept ↦ rw kept (All-cons Q x (filter t xs) (so x (All-head P x xs are) kept) (all_kept P Q t so xs (All-tail P x xs are)))
  | inr gone ↦ rw gone (all_kept P Q t so xs (All-tail P x xs are))
]

-- ---- one member less

still_out : (set : List Bool) (k j : ℕ) → is_in set j ≡ false → is_in (without_member set k) j ≡ false
still_out set k j out = elim (cases_eq j k) [
  | inl same ↦ ap (is_in (without_member set k)) same ∙ is_in-without set k
  | inr other ↦ is_in-without_other set k j other ∙ out
]

-- ---- pools

other_than : (m k : ℕ) → not (m == k) ≡ true → m ≢ k
other_than m k t e = let f : not (m == k) ≡ false = ap not (eq-eqb m k e) in absurd (cc)

pub pool_claimed : (p : Pool) (k : ℕ) → IsPool p → IsPool (claimed p k)
pool_claimed p k is = record {
  low = is.low;
  high = is.high;
  few = is.few;
  spoken = length-with p.spoken k ∙ is.spoken;
  order = is.order;
  found = is.found;
  linked = is.linked;
  ready = all_kept (IsReady p) (IsReady (claimed p k)) (λ m. not (m == k))
      (λ m r t. record { below = r.below; reach = r.reach; unspoken = is_in-with_other p.spoken k m (other_than m k t) ∙ r.unspoken; linked = r.linked; differs = r.differs }) p.ready is.ready;
  rising = rising_filter (λ m. not (m == k)) p.ready is.rising;
  at_once = let less = filter_short (λ m. not (m == k)) p.ready in let most = is.at_once in omega (arith, less, most);
}

pub pool_given : (p : Pool) (k : ℕ) → IsPool p → IsPool (given_back p k)
pool_given p k is = record {
  low = is.low;
  high = is.high;
  few = is.few;
  spoken = length-without p.spoken k ∙ is.spoken;
  order = is.order;
  found = is.found;
  linked = is.linked;
  ready = λ j d below. let r = is.ready j d below in record { below = r.below; reach = r.reach; unspoken = still_out p.spoken k _ r.unspoken; linked = r.linked; differs = r.differs };
  rising = is.rising;
  at_once = is.at_once;
}

-- one row of them fewer
pub row_room : (p q : Pool) (k n : ℕ) → HasTakenRow p q k n → fresh q ≡ fresh p → room p ≡ room q + n
row_room p q k n row same =
    omega (arith, same, ap (λ (xs : List ℕ). length xs) row.first, length-append (range_with_len k n) row.rest, length-range_with_len k n, ap (λ (x : Pool). length x.ready) row.is)

-- ---- what is handed out next

pub hands_claimed : {T : Type 0} (first k : ℕ) (a b : Allocator) (result : Result T ClusterRefusal) → OnOk result ((claim_refusal a.pool k ≡ None) × (b.pool ≡ claimed a.pool k)) → OnErr result (b.pool ≡ a.pool)
    → HandsOut first a → HandsOut first b
hands_claimed first k a b (Ok value) done kept is = record {
  ready = subst (λ (p : Pool). All (λ m. first ≤ m) p.ready) (sym done.1) (All-filter (λ m. not (m == k)) (λ m. first ≤ m) a.pool.ready is.ready);
  fresh = omega (arith, is.fresh, ap (λ (p : Pool). p.next) done.1);
}
hands_claimed first k a b (Err why) done kept is = record {
  ready = subst (λ (p : Pool). All (λ m. first ≤ m) p.ready) (sym kept) is.ready;
  fresh = omega (arith, is.fresh, ap (λ (p : Pool). p.next) kept);
}

row_head : (P : ℕ → Type 0) (k n : ℕ) (rest : List ℕ) → 0 < n → All P (range_with_len k n ++ rest) → P k
row_head P k zero rest some all = absurd (omega arith)
row_head P k (suc n) rest some all = All-head P k (range_with_len (k + 1) n ++ rest) all

row_behind : (k n : ℕ) (rest : List ℕ) → 0 < n → AreRising (range_with_len k n ++ rest) → All (λ m. k + n ≤ m) rest
row_behind k zero rest some rising = absurd (omega arith)
row_behind k (suc zero) rest some rising = All-weaker (λ m. k < m) (λ m. k + 1 ≤ m) (λ m above. omega arith) rest rising.0
row_behind k (suc (suc n)) rest some rising = All-weaker (λ m. k + 1 + suc n ≤ m) (λ m. k + suc (suc n) ≤ m) (λ m above. omega arith) rest (row_behind (k + 1) (suc n) rest (omega arith) rising.1)

-- the clusters of a row are ready, and those behind it are handed out later
pub hands_row : (first k n : ℕ) (a b : Allocator) → IsPool a.pool → HasTakenRow a.pool b.pool k n → ((j : ℕ) → k ≤ j → j < k + n → IsReady a.pool j) → HandsOut first a → (first ≤ k) × HandsOut (k + n) b
hands_row first k n a b is row ready hands = (
  row_head (λ m. first ≤ m) k n row.rest row.some (subst (All (λ m. first ≤ m)) row.first hands.ready),
  record {
    ready = subst (λ (p : Pool). All (λ m. k + n ≤ m) p.ready) (sym row.is) (row_behind k n row.rest row.some (subst AreRising row.first is.rising));
    fresh = omega (arith, (ready (k + (n - 1)) (omega (arith, row.some)) (omega (arith, row.some))).below, row.some, ap (λ (p : Pool). p.next) row.is);
  },
)

-- ---- allocators

-- a pool with the same blocks, of which as much is prepared
pub inside_on : (c : Inside) (q : Pool) → IsInside c → IsPool q → q.bits ≡ c.pool.bits → q.blocks ≡ c.pool.blocks → q.prepared ≡ c.pool.prepared
    → ((k : ℕ) → c.pool.prepared ≤ k → is_in q.spoken k ≡ false) → IsInside (record c { pool = q })
inside_on c q is pool bits blocks prepared unspoken =
    let some : 0 < c.pool.prepared = is.allocator.some in
    let below : c.table + 8 * length c.pool.blocks ≤ 2 ^ 62 = is.allocator.below in
    let count : length q.blocks ≡ length c.pool.blocks = ap (λ (bs : List ℕ). length bs) blocks in
    record {
      allocator = record {
        pool = pool;
        some = omega (arith, some, prepared);
        blocks = λ i there.
            let here : slice_index q.blocks i ≡ slice_index c.pool.blocks i = ap (λ (bs : List ℕ). slice_index bs i) blocks in
            let at = is.allocator.blocks i (λ z. there (here ∙ z)) in
            let low : at.0 < c.pool.prepared = at.2 in
            (at.0, at.1, (omega (arith, low, prepared)), here ∙ (at.3 ∙ ap (λ (b : ℕ). place_of b at.0) (sym bits)));
        below = omega (arith, below, count);
        ends = λ i.
            let here : slice_index q.blocks i ≡ slice_index c.pool.blocks i = ap (λ (bs : List ℕ). slice_index bs i) blocks in
            let size : 2 ^ q.bits ≡ 2 ^ c.pool.bits = ap (λ (b : ℕ). 2 ^ b) bits in
            let end : slice_index c.pool.blocks i + 2 ^ c.pool.bits ≤ 2 ^ 62 = is.allocator.ends i in
            omega (arith, here, size, end);
        unspoken = λ k high. unspoken k (omega (arith, prepared, high));
      };
      counts = is.counts ∙ ap (λ (b : ℕ). 2 * min (counts_in b) (2 ^ 15)) (sym bits);
      batch = is.batch;
    }

pub inside_claimed : {T : Type 0} (c : Inside) (q : Pool) (k : ℕ) (result : Result T ClusterRefusal) → IsInside c → OnOk result ((claim_refusal c.pool k ≡ None) × (q ≡ claimed c.pool k)) → OnErr result (q ≡ c.pool)
    → IsInside (record c { pool = q })
inside_claimed c q k (Ok value) is done kept =
    let P : Pool → Type 0 = λ x. IsInside (record c { pool = x }) in
    subst P (sym done.1) (inside_on c (claimed c.pool k) is (pool_claimed c.pool k is.allocator.pool) refl refl refl
    (let below = claimed_below c.pool k is.allocator.pool done.0 in λ j high. is_in-with_other c.pool.spoken k j (λ e. absurd (omega (arith, below, high, e))) ∙ is.allocator.unspoken j high))
inside_claimed c q k (Err why) is done kept =
    let P : Pool → Type 0 = λ x. IsInside (record c { pool = x }) in
    subst P (sym kept) is

pub inside_given : (c : Inside) (q : Pool) (k : ℕ) → IsInside c → q ≡ given_back c.pool k → IsInside (record c { pool = q })
inside_given c q k is same =
    let P : Pool → Type 0 = λ x. IsInside (record c { pool = x }) in
    subst P (sym same) (inside_on c (given_back c.pool k) is (pool_given c.pool k is.allocator.pool) refl refl refl
    (λ j high. still_out c.pool.spoken k j (is.allocator.unspoken j high)))

pub inside_row : (c : Inside) (q : Pool) (k n : ℕ) → IsInside c → HasTakenRow c.pool q k n → ((j : ℕ) → k ≤ j → j < k + n → IsReady c.pool j) → IsPool q → IsInside (record c { pool = q })
inside_row c q k n is row ready pool =
    inside_on c q is pool (ap (λ (x : Pool). x.bits) row.is) (ap (λ (x : Pool). x.blocks) row.is) (ap (λ (x : Pool). x.prepared) row.is)
    (λ j high. row.spoken.others j (inr (omega (arith, high, is.allocator.pool.order, row.some, (ready (k + (n - 1)) (omega (arith, row.some)) (omega (arith, row.some))).below))) ∙ is.allocator.unspoken j high)

pub inside_taken : (c : Inside) (q : Pool) (k : ℕ) → IsInside c → HasTaken c.pool q k → IsReady c.pool k → IsPool q → IsInside (record c { pool = q })
inside_taken c q k is taken ready = inside_row c q k 1 is (row_one c.pool q k taken) (λ j low high. subst (IsReady c.pool) (omega arith) ready)
