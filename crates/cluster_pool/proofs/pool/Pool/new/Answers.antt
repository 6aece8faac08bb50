use Rattle.std.proofs.Common.{◌≡◌, ℕ, ◌-◌, ◌*◌, ◌%◌, ◌^◌, ◌≤◌, min, false, List, Bool, [], length, replicate, sym, ap, subst, ◌∙◌, arith}
use Rattle.qc_layout.specs.Disks.{counts_in}
use Rattle.cluster_pool.specs.Pool.{Pool, IsPool, found_pool, fresh}
use Rattle.cluster_pool.proofs.Sizes.{each_shifted}
use Rattle.cluster_pool.proofs.Blocks.{fresh_found}
use Rattle.cluster_pool.proofs.Keeping.{pool_found}
use Rattle.cluster_pool.proofs.pool.Pool.new.Goals as goal

abbrev laid : ℕ → List ℕ → ℕ → List Bool → List Bool → List ℕ → Pool
laid bits blocks next spoken counted ready =
    record { bits = bits; blocks = blocks; spoken = spoken; counted = counted; from = next; ready = ready; next = next; prepared = next }

found_is : (bits : ℕ) (blocks : List ℕ) (next : ℕ) (spoken counted known : List Bool) (ready : List ℕ) → spoken ≡ replicate (min (2 ^ 30) (length blocks * counts_in bits)) false
    → counted ≡ known → ready ≡ [] → laid bits blocks next spoken counted ready ≡ found_pool bits blocks known next
found_is bits blocks next spoken counted known ready none same empty =
    ap (λ (s : List Bool). laid bits blocks next s counted ready) none
    ∙ (ap (λ (s : List Bool). laid bits blocks next (replicate (min (2 ^ 30) (length blocks * counts_in bits)) false) s ready) same
    ∙ ap (λ (ks : List ℕ). laid bits blocks next (replicate (min (2 ^ 30) (length blocks * counts_in bits)) false) known ks) empty)

reach_is : (bits n m far : ℕ) → 9 ≤ bits → bits ≤ 21 → n ≡ m → far ≡ min (2 ^ 30) (n * (1 * 2 ^ (bits - 1) % 2 ^ 64)) → far ≡ min (2 ^ 30) (m * counts_in bits)
reach_is bits n m far low high same is =
    is ∙ (ap (λ (e : ℕ). min (2 ^ 30) (n * e)) (each_shifted bits low high) ∙ ap (λ (x : ℕ). min (2 ^ 30) (x * counts_in bits)) same)

pub count_fresh-fresh-requires-clause-reach : goal.count_fresh-fresh-requires-clause-reach
count_fresh-fresh-requires-clause-reach c =
    reach_is c.args.cluster_bits c.len.result (length c.deref.result.now) c.min-reach.result c.requires.low c.requires.high (c.len.ensures ∙ sym c.deref.ensures.len) c.min-reach.ensures

pub invariant_of-result-2 : goal.invariant_of-result-2
invariant_of-result-2 c =
    let bits : ℕ = c.args.cluster_bits in
    let blocks : List ℕ = c.args.blocks.items in
    let far : c.min-reach.result ≡ min (2 ^ 30) (length blocks * counts_in bits) =
    reach_is bits c.len.result (length blocks) c.min-reach.result c.requires.low c.requires.high (omega (arith, c.len.ensures, c.args.blocks.ok)) c.min-reach.ensures in
    let same = found_is bits blocks c.args.next c.in_ok-new.field-0 _ c.args.counted c.in_ok-with_capacity.field-0.items
    (c.in_ok-new.ensures ∙ ap (λ (n : ℕ). replicate n false) far) c.counted.view_is c.in_ok-with_capacity.ensures.items in
    record {
      pool = subst IsPool (sym same) (pool_found bits blocks c.args.counted c.args.next c.requires.low c.requires.high c.requires.few);
      reach = far;
      fresh = c.count_fresh-fresh.ensures ∙ (ap (λ (bs : List ℕ). fresh (found_pool bits bs [] c.args.next)) c.deref.ensures.value
          ∙ (sym (fresh_found bits blocks c.args.counted c.args.next) ∙ ap fresh (sym same)));
      capacity = c.in_ok-with_capacity.ensures.capacity;
    }

pub returns : goal.returns
returns c =
    let bits : ℕ = c.args.cluster_bits in
    let blocks : List ℕ = c.args.blocks.items in
    let far : c.min-reach.result ≡ min (2 ^ 30) (length blocks * counts_in bits) =
    reach_is bits c.len.result (length blocks) c.min-reach.result c.requires.low c.requires.high (omega (arith, c.len.ensures, c.args.blocks.ok)) c.min-reach.ensures in
    found_is bits blocks c.args.next c.in_ok-new.field-0 _ c.args.counted c.in_ok-with_capacity.field-0.items
    (c.in_ok-new.ensures ∙ ap (λ (n : ℕ). replicate n false) far) c.counted.view_is c.in_ok-with_capacity.ensures.items
