-- What a pool's struct holds, before and after a change.
use Rattle.std.proofs.Common.{◌≡◌, ◌≢◌, ℕ, ◌+◌, ◌-◌, ◌*◌, ◌/◌, ◌%◌, ◌^◌, ◌<◌, ◌≤◌, Bool, true, false, not, ◌&&◌, List, length, get_or, refl, sym, ap, subst, ◌∙◌, arith}
use Rattle.std.specs.Prelude.{All, nat_le, nat_lt}
use Rattle.std.proofs.lemmas.List.{get_or_read}
use Rattle.bitmap_model.specs.Granules.{is_in}
use Rattle.bitmap_model.proofs.Sets.{in_length}
use Rattle.qc_layout.specs.Disks.{place_of}
use Rattle.cluster_pool.specs.Sets.{with_member, without_member}
use Rattle.cluster_pool.specs.declared.pool.Pool.TheInside.{Inside}
use Rattle.cluster_pool.specs.Inside.{pool_view, IsInside}
use Rattle.cluster_pool.specs.Pool.{Pool, IsPool, each, reach, block_of, is_open, fresh}
use Rattle.cluster_pool.proofs.Words.{is_in-with, is_in-with_other, is_in-without, is_in-without_other}
use Rattle.cluster_pool.proofs.Counting.{one_if}
use Rattle.cluster_pool.proofs.Sizes.{block_inside, place_shifted, place_fits}
use Rattle.cluster_pool.proofs.Fresh.{plain, fresh_less, fresh_passed, fresh_few, fresh_same}
use Rattle.cluster_pool.proofs.Keeping.{pool_speaks, pool_gives, pool_passed}

-- what is read of the blocks
pub block_read : (a : Inside) (p : Pool) (k e b : ℕ) → pool_view a ≡ p → IsInside a → k < reach p → e ≡ each p → b ≡ get_or a.blocks.items (k / e) b → b ≡ block_of p k
block_read a p k e b view h below size read =
    let pool : IsPool p = subst IsPool view h.pool in
    let blocks : a.blocks.items ≡ p.blocks = ap (λ (q : Pool). q.blocks) view in
    let there : b ≡ get_or p.blocks (k / each p) b = read ∙ (ap (λ (bs : List ℕ). get_or bs (k / e) b) blocks ∙ ap (λ (x : ℕ). get_or p.blocks (k / x) b) size) in
    get_or_read p.blocks (k / each p) b (block_inside p pool k below) there 0

pub place_read : (a : Inside) (p : Pool) (k : ℕ) → pool_view a ≡ p → IsInside a → k < reach p → k * 2 ^ a.cluster_bits % 2 ^ 64 ≡ place_of p.bits k
place_read a p k view h below =
    let pool : IsPool p = subst IsPool view h.pool in
    ap (λ (q : Pool). k * 2 ^ q.bits % 2 ^ 64) view ∙ place_shifted p.bits k (place_fits p.bits k pool.high (omega arith))

-- A struct a stands for the pool q. What refers to one more cluster:
pub inside_speaks : (a : Inside) (q : Pool) (k n : ℕ) (s : List Bool) → pool_view a ≡ q → IsInside a → k < reach q → is_in q.spoken k ≡ false → All (λ m. m ≢ k) q.ready
    → s ≡ with_member a.spoken k → n ≡ one_if (nat_le q.next k && plain q k) → (n ≤ a.fresh) × IsInside (record a { spoken = s; fresh = a.fresh - n })
inside_speaks a q k n s view h low unspoken unready is count =
    let p : Pool = pool_view a in
    let back : q ≡ p = sym view in
    let below : k < reach p = subst (λ (o : Pool). k < reach o) back low in
    let was : is_in p.spoken k ≡ false = ap (λ (o : Pool). is_in o.spoken k) view ∙ unspoken in
    let inside : k < length a.spoken = omega (arith, h.pool.spoken) in
    let same : (j : ℕ) → j ≢ k → is_in s j ≡ is_in a.spoken j = λ j other. ap (λ (t : List Bool). is_in t j) is ∙ is_in-with_other a.spoken k j other in
    let less : fresh p ≡ fresh (record p { spoken = s }) + one_if (nat_le p.next k && plain p k) =
    fresh_less p s k below was (ap (λ (t : List Bool). is_in t k) is ∙ is_in-with a.spoken k inside) same in
    let one : n ≡ one_if (nat_le p.next k && plain p k) = count ∙ ap (λ (o : Pool). one_if (nat_le o.next k && plain o k)) back in (
      omega (arith, h.fresh),
      record {
        pool = subst (λ (t : List Bool). IsPool (record p { spoken = t })) (sym is) (pool_speaks p k h.pool (subst (λ (o : Pool). All (λ m. m ≢ k) o.ready) back unready));
        reach = h.reach;
        fresh = omega (arith, h.fresh);
        capacity = h.capacity;
      },
    )

-- and to one less
pub inside_gives : (a : Inside) (q : Pool) (k n : ℕ) (s : List Bool) → pool_view a ≡ q → IsInside a → is_in q.spoken k ≡ true
    → s ≡ without_member a.spoken k → n ≡ one_if (nat_le q.next k && plain q k) → (a.fresh + n ≤ 2 ^ 30) × IsInside (record a { spoken = s; fresh = a.fresh + n })
inside_gives a o k n s view h spoken is count =
    let p : Pool = pool_view a in
    let q : Pool = record p { spoken = s } in
    let was : is_in a.spoken k ≡ true = ap (λ (x : Pool). is_in x.spoken k) view ∙ spoken in
    let below : k < reach q = omega (arith, in_length a.spoken k was, h.pool.spoken) in
    let same : (j : ℕ) → j ≢ k → is_in a.spoken j ≡ is_in s j = λ j other. sym (ap (λ (t : List Bool). is_in t j) is ∙ is_in-without_other a.spoken k j other) in
    let more : fresh q ≡ fresh p + one_if (nat_le p.next k && plain p k) =
    fresh_less q a.spoken k below (ap (λ (t : List Bool). is_in t k) is ∙ is_in-without a.spoken k) was same in
    let one : n ≡ one_if (nat_le p.next k && plain p k) = count ∙ ap (λ (x : Pool). one_if (nat_le x.next k && plain x k)) (sym view) in (
      omega (arith, h.fresh, fresh_few q),
      record {
        pool = subst (λ (t : List Bool). IsPool (record p { spoken = t })) (sym is) (pool_gives p k h.pool);
        reach = h.reach;
        fresh = omega (arith, h.fresh);
        capacity = h.capacity;
      },
    )

-- The first fresh cluster is passed.
pub inside_passes : (a : Inside) (q : Pool) (n : ℕ) → pool_view a ≡ q → IsInside a → q.next < q.prepared → n ≡ one_if (nat_lt q.next (reach q) && is_open q q.next)
    → (n ≤ a.fresh) × IsInside (record a { fresh = a.fresh - n; next = a.next + 1 })
inside_passes a q n view h order count =
    let p : Pool = pool_view a in
    let before : p.next < p.prepared = subst (λ (o : Pool). o.next < o.prepared) (sym view) order in
    let less : fresh p ≡ fresh (record p { next = p.next + 1 }) + one_if (nat_lt p.next (reach p) && is_open p p.next) = fresh_passed p h.pool before in
    let one : n ≡ one_if (nat_lt p.next (reach p) && is_open p p.next) = count ∙ ap (λ (o : Pool). one_if (nat_lt o.next (reach o) && is_open o o.next)) (sym view) in (
      omega (arith, h.fresh),
      record {
        pool = pool_passed p h.pool before;
        reach = h.reach;
        fresh = omega (arith, h.fresh);
        capacity = h.capacity;
      },
    )

-- a ready cluster is taken, which isn't fresh
pub fresh_taken : (p : Pool) (k : ℕ) (rest : List ℕ) → k < p.next → fresh (record p { ready = rest; spoken = with_member p.spoken k }) ≡ fresh p
fresh_taken p k rest behind =
    fresh_same p (record p { ready = rest; spoken = with_member p.spoken k }) refl refl
    (λ j low _. ap (λ (b : Bool). not b && plain p j) (is_in-with_other p.spoken k j (omega arith)))
