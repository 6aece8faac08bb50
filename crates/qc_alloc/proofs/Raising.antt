-- Pools that go on: what calls that prepare clusters do to them.
use Rattle.std.proofs.Common.{◌≡◌, ◌≢◌, inl, inr, ℕ, ◌+◌, ◌-◌, ◌*◌, ◌/◌, ◌%◌, ◌^◌, ◌<◌, ◌≤◌, max, List, [], ◌∷◌, ◌++◌, length, All, Bool, true, false, not}
use Rattle.std.proofs.Common.{◌&&◌, ◌||◌, ◌==◌, cond, refl, sym, ◌∙◌, ap, subst, append_assoc, append-nil, eq-eqb, arith}
use Rattle.std.proofs.lemmas.Bool.{cases_eq, cases_lt, ne_eqb}
use Rattle.std.proofs.lemmas.Nat.{pow_pos}
use Rattle.std.proofs.Math.Nat.{div-add-mod, mod-lt, mul-le-mul_left}
use Rattle.std.proofs.lemmas.List.Elements.{All-append, All-weaker, All-nil, All-cons}
use Rattle.std.specs.List.{count_by, range_with_len}
use Rattle.bitmap_model.specs.Granules.{is_in}
use Rattle.qc_layout.specs.Disks.{place_of, counts_in}
use Rattle.cluster_pool.specs.Pool.{Pool, IsPool, IsReady, AreRising, each, reach, block_at, block_of, is_own_block, becomes_block, is_open, fresh, room}
use Rattle.cluster_pool.specs.Pool.{prepared_on, HasAddedBlock, stepped}
use Rattle.cluster_pool.specs.Sets.{with_member}
use Rattle.cluster_pool.proofs.Sizes.{each_some, place_of_same, counted_by}
use Rattle.cluster_pool.proofs.Words.{length-with, is_in-with_member}
use Rattle.qc_alloc.specs.Growing.{Raises}

spoken_same : (s o : Bool) → s ≡ (s || (o && not o))
spoken_same s o = grind arith

spoken_old : (s t u P Q R : Bool) → t ≡ (s || (Q && not P)) → u ≡ (t || (R && not Q)) → R ≡ Q → u ≡ (s || (R && not P))
spoken_old s t u P Q R first second same = grind arith

spoken_new : (s t u P Q R : Bool) → t ≡ (s || (Q && not P)) → u ≡ (t || (R && not Q)) → Q ≡ P → u ≡ (s || (R && not P))
spoken_new s t u P Q R first second same = grind arith

-- nothing is done
pub raises_none : (p : Pool) → Raises p p
raises_none p = record {
  bits = refl;
  counted = refl;
  from = refl;
  more = [];
  ready = sym (append-nil p.ready);
  fresh = All-nil (λ k. p.next ≤ k);
  next = omega arith;
  prepared = omega arith;
  below = omega arith;
  count = refl;
  kept = λ i some. refl;
  added = λ i none some. absurd (some none);
  counts = λ i none some. absurd (some none);
  linked = λ k low high. absurd (omega arith);
  spoken = λ k. spoken_same (is_in p.spoken k) (is_own_block p k);
  opens = λ k low. refl;
  room = refl;
}

pub same_reach : (p q : Pool) → Raises p q → reach q ≡ reach p
same_reach p q raises = let each_same : each q ≡ each p = ap counts_in raises.bits in cc (each_same, raises.count)

module _ (p q r : Pool) (a : Raises p q) (b : Raises q r) where
  each_q : each q ≡ each p
  each_q = ap counts_in a.bits

  each_r : each r ≡ each q
  each_r = ap counts_in b.bits

  still : (i : ℕ) → block_at p i ≢ 0 → block_at q i ≢ 0
  still i some none = some (sym (a.kept i some) ∙ none)

  stays : (i : ℕ) → block_at q i ≢ 0 → block_at r i ≢ 0
  stays i some none = some (sym (b.kept i some) ∙ none)

  -- a block that is missing still counts none of those that were prepared
  missing : (i : ℕ) → block_at q i ≡ 0 → q.prepared < i * each q + each q → q.prepared ≤ max p.prepared (i * each p)
  missing i none low = elim (cases_lt (max p.prepared (i * each p)) q.prepared) [
    | inr not ↦ omega (arith, not)
    | inl less ↦ (let k = max p.prepared (i * each p) in
        let is : k / each q ≡ i = counted_by k (each q) i (omega (arith, ap (λ (x : ℕ). i * x) each_q)) (omega (arith, less, low)) in
        absurd (a.linked k (omega arith) less (ap (block_at q) is ∙ none)))
  ]

  own_on : (k : ℕ) → block_of q k ≢ 0 → is_own_block r k ≡ is_own_block q k
  own_on k some =
      let index : k / each r ≡ k / each q = ap (λ (x : ℕ). k / x) each_r in
      let block : block_at r (k / each r) ≡ block_at q (k / each q) = ap (block_at r) index ∙ b.kept (k / each q) some in
      let place : place_of r.bits k ≡ place_of q.bits k = ap (λ (x : ℕ). place_of x k) b.bits in
      cc

  own_was : (k : ℕ) → block_of q k ≡ 0 → is_own_block q k ≡ is_own_block p k
  own_was k none =
      let index : k / each q ≡ k / each p = ap (λ (x : ℕ). k / x) each_q in
      let none_p : block_at q (k / each p) ≡ 0 = ap (block_at q) (sym index) ∙ none in
      let was : block_at p (k / each p) ≡ 0 = elim (cases_eq (block_at p (k / each p)) 0) [ inl is ↦ is | inr some ↦ absurd (still (k / each p) some none_p) ] in
      let place : place_of q.bits k ≡ place_of p.bits k = ap (λ (x : ℕ). place_of x k) a.bits in
      cc

  -- one call after the other
  pub raises_on : Raises p r
  raises_on = record {
    bits = b.bits ∙ a.bits;
    counted = b.counted ∙ a.counted;
    from = b.from ∙ a.from;
    more = a.more ++ b.more;
    ready = b.ready ∙ ap (λ (l : List ℕ). l ++ b.more) a.ready ∙ append_assoc p.ready a.more b.more;
    fresh = All-append (λ k. p.next ≤ k) a.more b.more a.fresh (All-weaker (λ k. q.next ≤ k) (λ k. p.next ≤ k)
        (λ k low. omega (arith, low, a.next)) b.more b.fresh);
    next = omega (arith, a.next, b.next);
    prepared = omega (arith, a.prepared, b.prepared);
    below = omega (arith, a.below, b.below, same_reach p q a);
    count = b.count ∙ a.count;
    kept = λ i some. b.kept i (still i some) ∙ a.kept i some;
    added = λ i none some. elim (cases_eq (block_at q i) 0) [
      | inr there ↦ (omega (arith, (a.added i none there).0, b.prepared), b.kept i there ∙ (a.added i none there).1)
      | inl none_q ↦ (let at : max q.prepared (i * each q) ≡ max p.prepared (i * each p) = omega (
        arith,
        missing i none_q (b.counts i none_q some),
        a.prepared,
        ap (λ (x : ℕ). i * x) each_q,
      ) in (
        omega (arith, at, (b.added i none_q some).0),
        (b.added i none_q some).1 ∙ ap (λ (x : ℕ). place_of q.bits x) at ∙ ap
            (λ (x : ℕ). place_of x (max p.prepared (i * each p))) a.bits,
      ))
    ];
    counts = λ i none some. elim (cases_eq (block_at q i) 0) [
      | inr there ↦ a.counts i none there
      | inl none_q ↦ omega (arith, b.counts i none_q some, a.prepared, each_q, ap (λ (x : ℕ). i * x) each_q)
    ];
    linked = λ k low high. elim (cases_lt k q.prepared) [
      | inl was ↦ (let some = stays (k / each q) (a.linked k low was) in λ (none : block_of r k ≡ 0). some (ap (λ (x : ℕ). block_at r (k / x)) (sym each_r)
          ∙ none))
      | inr since ↦ b.linked k (omega (arith, since)) high
    ];
    spoken = λ k. elim (cases_eq (block_of q k) 0) [
      | inr some ↦ spoken_old _ _ _ _ _ _ (a.spoken k) (b.spoken k) (own_on k some)
      | inl none ↦ spoken_new _ _ _ _ _ _ (a.spoken k) (b.spoken k) (own_was k none)
    ];
    opens = λ k low. b.opens k low ∙ a.opens k (omega (arith, low, b.next));
    room = b.room ∙ a.room;
  }

-- ---- places and sets

pub place_of_some : (bits k : ℕ) → 0 < k → 0 < place_of bits k
unfolding place_of
place_of_some bits k some = let more : 2 ^ bits * 1 ≤ 2 ^ bits * k = mul-le-mul_left (2 ^ bits) (omega arith) in omega (arith, more, pow_pos bits)

-- ---- more clusters are prepared

-- they have one block
pub same_block : (p : Pool) (n k : ℕ) → p.prepared % each p + n ≤ each p → p.prepared ≤ k → k < p.prepared + n → k / each p ≡ p.prepared / each p
same_block p n k within low high =
    let whole = div-add-mod p.prepared (each p) in
    counted_by k (each p) (p.prepared / each p) (omega (arith, whole, low)) (omega (arith, whole, high, within))

raises_prepared_on : (p : Pool) (n : ℕ) → block_of p p.prepared ≢ 0 → p.prepared % each p + n ≤ each p → p.prepared + n ≤ reach p
    → fresh (prepared_on p n) ≡ fresh p → Raises p (prepared_on p n)
raises_prepared_on p n some within below same = record {
  bits = refl;
  counted = refl;
  from = refl;
  more = [];
  ready = sym (append-nil p.ready);
  fresh = All-nil (λ k. p.next ≤ k);
  next = omega arith;
  prepared = omega arith;
  below = omega arith;
  count = refl;
  kept = λ i there. refl;
  added = λ i none there. absurd (there none);
  counts = λ i none there. absurd (there none);
  linked = λ k low high none. some (ap (block_at p) (sym (same_block p n k within low high)) ∙ none);
  spoken = λ k. spoken_same (is_in p.spoken k) (is_own_block p k);
  opens = λ k low. refl;
  room = ap (λ (x : ℕ). length p.ready + x) same;
}

pub raises_prepared : (p q : Pool) (n : ℕ) → q ≡ prepared_on p n → block_of p p.prepared ≢ 0 → p.prepared % each p + n ≤ each p → p.prepared + n ≤ reach p
    → fresh q ≡ fresh p → Raises p q
raises_prepared p q n is some within below same =
    subst (Raises p) (sym is) (raises_prepared_on p n some within below (ap fresh (sym is) ∙ same))

-- ---- a block is added

own_change : (x y x_on y_on k m : ℕ) (s : Bool) → (k ≡ m → x_on ≡ y_on) → (k ≡ m → x ≢ y) → (k ≢ m → x_on ≡ y_on → x ≡ y)
    → ((k == m) || s) ≡ (s || ((x_on == y_on) && not (x == y)))
own_change x y x_on y_on k m s here was other = elim (cases_eq k m) [
  | inl same ↦ (let a = eq-eqb k m same in let b = eq-eqb x_on y_on (here same) in let d = ne_eqb x y (was same) in grind (arith, a, b, d))
  | inr differ ↦ (let a = ne_eqb k m differ in elim (cases_eq x_on y_on) [
    | inl own ↦ (let b = eq-eqb x_on y_on own in let d = eq-eqb x y (other differ own) in grind (arith, a, b, d))
    | inr not_own ↦ (let b = ne_eqb x_on y_on not_own in grind (arith, a, b))
  ])
]

none_open : (s o c s_on o_on c_on : Bool) → s_on ≡ true → c ≡ true → (not s_on && (not o_on && not c_on)) ≡ (not s && (not o && not c))
none_open s o c s_on o_on c_on spoken becomes = grind arith

as_open : (s o c s_on o_on c_on : Bool) → s_on ≡ s → o_on ≡ false → c_on ≡ false → o ≡ false → c ≡ false
    → (not s_on && (not o_on && not c_on)) ≡ (not s && (not o && not c))
as_open s o c s_on o_on c_on spoken e1 e2 e3 e4 = grind arith

same_open : (s o c s_on o_on c_on : Bool) → s_on ≡ s → o_on ≡ o → c_on ≡ c → (not s_on && (not o_on && not c_on)) ≡ (not s && (not o && not c))
same_open s o c s_on o_on c_on e1 e2 e3 = cc

and_first : (a b : Bool) → a ≡ false → (a && b) ≡ false
and_first a b e = grind arith

and_second : (a b : Bool) → b ≡ false → (a && b) ≡ false
and_second a b e = grind arith

and_both : (a b : Bool) → a ≡ true → b ≡ true → (a && b) ≡ true
and_both a b e d = grind arith

module _ (p q : Pool) (is : IsPool p) (some : 0 < p.prepared) (missing : block_of p p.prepared ≡ 0) (below : p.prepared < reach p) (added : HasAddedBlock p q) where
  abbrev i0 : ℕ
  i0 = p.prepared / each p

  bits_q : q.bits ≡ p.bits
  bits_q = ap (λ (x : Pool). x.bits) added.is

  next_q : q.next ≡ p.next
  next_q = ap (λ (x : Pool). x.next) added.is

  prepared_q : q.prepared ≡ p.prepared + 1
  prepared_q = ap (λ (x : Pool). x.prepared) added.is

  spoken_q : q.spoken ≡ with_member p.spoken p.prepared
  spoken_q = ap (λ (x : Pool). x.spoken) added.is

  each_added : each q ≡ each p
  each_added = ap counts_in bits_q

  whole_0 : i0 * each p + p.prepared % each p ≡ p.prepared
  whole_0 = omega (arith, div-add-mod p.prepared (each p))

  part_0 : p.prepared % each p < each p
  part_0 = mod-lt p.prepared (each_some p.bits is.low)

  index_q : (k : ℕ) → k / each q ≡ k / each p
  index_q k = ap (λ (x : ℕ). k / x) each_added

  block_here : (k : ℕ) → k / each p ≡ i0 → block_of q k ≡ place_of p.bits p.prepared
  block_here k same = ap (block_at q) (index_q k ∙ same) ∙ added.blocks.there

  none_here : (k : ℕ) → k / each p ≡ i0 → block_of p k ≡ 0
  none_here k same = ap (block_at p) same ∙ missing

  block_else : (k : ℕ) → k / each p ≢ i0 → block_of q k ≡ block_of p k
  block_else k differ = ap (block_at q) (index_q k) ∙ added.blocks.others (k / each p) differ

  -- it is the first fresh one that its block counts
  first_0 : max p.next (i0 * each p) ≡ p.prepared
  first_0 = elim (cases_lt (max p.next (i0 * each p)) p.prepared) [
    | inl less ↦ (let m = max p.next (i0 * each p) in
        let index : m / each p ≡ i0 = counted_by m (each p) i0 (omega arith) (omega (arith, less, whole_0, part_0)) in
        absurd (is.linked m (omega arith) less (none_here m index)))
    | inr not ↦ omega (arith, not, is.order, whole_0)
  ]

  spoken_set : (k : ℕ) → is_in q.spoken k ≡ ((k == p.prepared) || is_in p.spoken k)
  spoken_set k = ap (λ (x : List Bool). is_in x k) spoken_q ∙ is_in-with_member p.spoken p.prepared k (omega (arith, is.spoken, below))

  place_q : (k : ℕ) → place_of q.bits k ≡ place_of p.bits k
  place_q k = ap (λ (x : ℕ). place_of x k) bits_q

  own_on_added : (k : ℕ) → k ≢ p.prepared → block_of q k ≡ place_of q.bits k → block_of p k ≡ place_of p.bits k
  own_on_added k differ own = elim (cases_eq (k / each p) i0) [
    | inl same ↦ absurd (differ (sym (place_of_same p.bits p.prepared k (sym (block_here k same) ∙ own ∙ place_q k))))
    | inr other ↦ sym (block_else k other) ∙ own ∙ place_q k
  ]

  own_here : (k : ℕ) → k ≡ p.prepared → block_of q k ≡ place_of q.bits k
  own_here k same = block_here k (ap (λ (x : ℕ). x / each p) same) ∙ ap (place_of p.bits) (sym same) ∙ sym (place_q k)

  none_own : (k : ℕ) → 0 < k → block_of p k ≡ 0 → block_of p k ≢ place_of p.bits k
  none_own k more none own = absurd (omega (arith, none, own, place_of_some p.bits k more))

  opens_added : (k : ℕ) → q.next ≤ k → is_open q k ≡ is_open p k
  opens_added k low = elim (cases_eq k p.prepared) [
    | inl same ↦ (
        let at : k == p.prepared ≡ true = eq-eqb k p.prepared same in
        let spoken : is_in q.spoken k ≡ true = spoken_set k ∙ ap (λ (x : Bool). x || is_in p.spoken k) at in
        let index : k / each p ≡ i0 = ap (λ (x : ℕ). x / each p) same in
        let first : k ≡ max p.next (k / each p * each p) = same ∙ sym first_0 ∙ ap (λ (x : ℕ). max p.next (x * each p)) (sym index) in
        none_open (is_in p.spoken k) (is_own_block p k) (becomes_block p k) (is_in q.spoken k) (is_own_block q k) (becomes_block q k) spoken
        (and_both (block_of p k == 0) (k == max p.next (k / each p * each p)) (eq-eqb _ _ (none_here k index)) (eq-eqb _ _ first)))
    | inr differ ↦ (
        let at : k == p.prepared ≡ false = ne_eqb k p.prepared differ in
        let spoken : is_in q.spoken k ≡ is_in p.spoken k = spoken_set k ∙ ap (λ (x : Bool). x || is_in p.spoken k) at in
        elim (cases_eq (k / each p) i0) [
          | inl same ↦ (
              let none = none_here k same in
              let after : p.prepared < k = (elim (cases_lt p.prepared k) [
                | inl more ↦ more
                | inr not ↦ absurd (is.linked k (omega (
                  arith,
                  low,
                  next_q,
                )) (omega (arith, not, differ)) none)
              ]) in
              let own_q : is_own_block q k ≡ false = ne_eqb _ _
              (λ own. differ (sym (place_of_same p.bits p.prepared k (sym (block_here k same) ∙ own ∙ place_q k)))) in
              let own_p : is_own_block p k ≡ false = ne_eqb _ _ (none_own k (omega (arith, after)) none) in
              let some_q : (block_of q k == 0) ≡ false = ne_eqb _ _
              (λ zero. absurd (omega (arith, zero, block_here k same, place_of_some p.bits p.prepared some))) in
              let past : (k == max p.next (k / each p * each p)) ≡ false = ne_eqb _ _
              (λ is_first. absurd (differ (is_first ∙ ap (λ (x : ℕ). max p.next (x * each p)) same ∙ first_0))) in
              as_open (is_in p.spoken k) (is_own_block p k) (becomes_block p k) (is_in q.spoken k) (is_own_block q k) (becomes_block q k) spoken own_q
              (and_first (block_of q k == 0) _ some_q) own_p (and_second (block_of p k == 0) _ past))
          | inr other ↦ (
              let block = block_else k other in
              let place = place_q k in
              let index = index_q k in
              let own : is_own_block q k ≡ is_own_block p k = cc in
              let becomes : becomes_block q k ≡ becomes_block p k = cc (each_added, next_q) in
              same_open (is_in p.spoken k) (is_own_block p k) (becomes_block p k) (is_in q.spoken k) (is_own_block q k) (becomes_block q k) spoken own becomes)
        ])
  ]

  pub raises_added : fresh q ≡ fresh p → Raises p q
  raises_added same = record {
    bits = bits_q;
    counted = ap (λ (x : Pool). x.counted) added.is;
    from = ap (λ (x : Pool). x.from) added.is;
    more = [];
    ready = ap (λ (x : Pool). x.ready) added.is ∙ sym (append-nil p.ready);
    fresh = All-nil (λ k. p.next ≤ k);
    next = omega (arith, next_q);
    prepared = omega (arith, prepared_q);
    below = omega (arith, prepared_q, below);
    count = added.blocks.same_length;
    kept = λ i there. added.blocks.others i (λ same. absurd (there (ap (block_at p) same ∙ missing)));
    added = λ i none there. elim (cases_eq i i0) [
      | inl same ↦ (let at : max p.prepared (i * each p) ≡ p.prepared = omega (arith, ap (λ (x : ℕ). x * each p) same, whole_0) in
          (omega (arith, at, prepared_q), ap (block_at q) same ∙ added.blocks.there ∙ ap (place_of p.bits) (sym at)))
      | inr differ ↦ absurd (there (added.blocks.others i differ ∙ none))
    ];
    counts = λ i none there. elim (cases_eq i i0) [
      | inl same ↦ omega (arith, ap (λ (x : ℕ). x * each p) same, whole_0, part_0)
      | inr differ ↦ absurd (there (added.blocks.others i differ ∙ none))
    ];
    linked = λ k low high none.
        let same : k ≡ p.prepared = omega (arith, low, high, prepared_q) in
        absurd (omega (arith, none, block_here k (ap (λ (x : ℕ). x / each p) same), place_of_some p.bits p.prepared some));
    spoken = λ k. spoken_set k ∙ own_change (block_of p k) (place_of p.bits k) (block_of q k) (place_of q.bits k) k p.prepared (is_in p.spoken k) (own_here k)
        (λ at. none_own k (omega (arith, at, some)) (none_here k (ap (λ (x : ℕ). x / each p) at))) (own_on_added k);
    opens = opens_added;
    room = let ready : q.ready ≡ p.ready = ap (λ (x : Pool). x.ready) added.is in omega (arith, ap (λ (x : List ℕ). length x) ready, same);
  }

  -- ---- the pool with it

  ready_q : q.ready ≡ p.ready
  ready_q = ap (λ (x : Pool). x.ready) added.is

  reach_added : reach q ≡ reach p
  reach_added = cc (each_added, added.blocks.same_length)

  spoken_long : length q.spoken ≡ length p.spoken
  spoken_long = ap (λ (x : List Bool). length x) spoken_q ∙ length-with p.spoken p.prepared

  ready_on : (k : ℕ) → IsReady p k → IsReady q k
  ready_on k r =
      let other : k / each p ≢ i0 = (λ (same : k / each p ≡ i0). r.linked (none_here k same)) in
      let at : k == p.prepared ≡ false = ne_eqb k p.prepared (λ same. absurd (omega (arith, same, r.below, is.order))) in
      record {
        below = omega (arith, r.below, next_q);
        reach = omega (arith, r.reach, reach_added);
        unspoken = spoken_set k ∙ ap (λ (x : Bool). x || is_in p.spoken k) at ∙ r.unspoken;
        linked = λ none. r.linked (sym (block_else k other) ∙ none);
        differs = λ own. r.differs (sym (block_else k other) ∙ own ∙ place_q k);
      }

  pub pool_added : IsPool q
  pool_added = record {
    low = omega (arith, is.low, bits_q);
    high = omega (arith, is.high, bits_q);
    few = omega (arith, is.few, added.blocks.same_length);
    spoken = spoken_long ∙ is.spoken ∙ sym reach_added;
    order = omega (arith, is.order, next_q, prepared_q);
    found = omega (arith, is.found, ap (λ (x : Pool). x.from) added.is, prepared_q);
    linked = λ k low high. elim (cases_eq (k / each p) i0) [
      | inl same ↦ (λ (none : block_of q k ≡ 0). absurd (omega (arith, none, block_here k same, place_of_some p.bits p.prepared some)))
      | inr other ↦ (let before : k < p.prepared = elim (cases_eq k p.prepared) [
        | inl here ↦ absurd (other (ap
            (λ (x : ℕ). x / each p) here))
        | inr differ ↦ omega (arith, differ, high, prepared_q)
      ] in
          λ (none : block_of q k ≡ 0). is.linked k (omega (arith, low, next_q)) before (sym (block_else k other) ∙ none))
    ];
    ready = subst (All (IsReady q)) (sym ready_q) (All-weaker (IsReady p) (IsReady q) ready_on p.ready is.ready);
    rising = subst AreRising (sym ready_q) is.rising;
    at_once = omega (arith, is.at_once, ap (λ (x : List ℕ). length x) ready_q);
  }

-- ---- one fresh cluster is passed

ready_step : (o : Bool) (ready : List ℕ) (k : ℕ) → cond o (ready ++ k ∷ []) ready ≡ ready ++ cond o (k ∷ []) []
ready_step true ready k = refl
ready_step false ready k = sym (append-nil ready)

all_step : (o : Bool) (k : ℕ) → All (λ m. k ≤ m) (cond o (k ∷ []) [])
all_step true k = All-cons (λ m. k ≤ m) k [] (omega arith) (All-nil (λ m. k ≤ m))
all_step false k = All-nil (λ m. k ≤ m)

becomes_step : (block k next at : ℕ) → (block ≡ 0 → max (next + 1) at ≡ max next at)
    → ((block == 0) && (k == max (next + 1) at)) ≡ ((block == 0) && (k == max next at))
becomes_step block k next at same = elim (cases_eq block 0) [
  | inl none ↦ ap (λ (x : ℕ). (block == 0) && (k == x)) (same none)
  | inr some ↦ (let a = ne_eqb block 0 some in and_first _ _ a ∙ sym (and_first _ _ a))
]

pub raises_stepped : (p : Pool) → IsPool p → p.next < p.prepared → room (stepped p) ≡ room p → Raises p (stepped p)
raises_stepped p is less same = record {
  bits = refl;
  counted = refl;
  from = refl;
  more = cond (is_open p p.next) (p.next ∷ []) [];
  ready = ready_step (is_open p p.next) p.ready p.next;
  fresh = all_step (is_open p p.next) p.next;
  next = omega arith;
  prepared = omega arith;
  below = omega arith;
  count = refl;
  kept = λ i there. refl;
  added = λ i none there. absurd (there none);
  counts = λ i none there. absurd (there none);
  linked = λ k low high. absurd (omega (arith, low, high));
  spoken = λ k. spoken_same (is_in p.spoken k) (is_own_block p k);
  opens = λ k low. ap (λ (x : Bool). not (is_in p.spoken k) && (not (is_own_block p k) && not x)) (becomes_step (block_of p k) k p.next (k / each p * each p)
      (λ none.
      let whole = div-add-mod k (each p) in
      let part : k % each p < each p = mod-lt k (each_some p.bits is.low) in
      elim (cases_lt p.next (k / each p * each p)) [
        | inl more ↦ omega (arith, more)
        | inr not ↦ (let index : p.next / each p ≡ k / each p = counted_by p.next (each p) (k / each p) (omega (arith, not)) (omega (arith, whole, part, low)) in
            absurd (is.linked p.next (omega arith) less (ap (block_at p) index ∙ none)))
      ]));
  room = same;
}

-- where a fresh cluster can be handed out, the first fresh one lies below the reach
pub fresh_some : (p : Pool) → 0 < fresh p → p.next < reach p
unfolding fresh
fresh_some p some = elim (cases_lt p.next (reach p)) [
  | inl below ↦ below
  | inr past ↦ absurd (omega (arith, some, ap (λ (n : ℕ). count_by (is_open p) (range_with_len p.next n)) (none_left p.next (reach p) past)))
]
  where
    none_left : (a b : ℕ) → b ≤ a → b - a ≡ 0
    none_left a b h = omega arith
