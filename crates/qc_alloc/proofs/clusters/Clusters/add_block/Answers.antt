use Rattle.std.proofs.Common.{◌≡◌, ◌≢◌, ◌+◌, ◌-◌, ◌*◌, ◌/◌, ◌%◌, ◌^◌, ◌<◌, ◌≤◌, refl, sym, ap, subst, arith}
use Rattle.std.proofs.Math.Nat.{mod-le}
use Rattle.cluster_pool.specs.Pool.{Pool, reach, each, block_of}
use Rattle.cluster_pool.proofs.Sizes.{block_inside}
use Rattle.qc_alloc.specs.Allocator.{Allocator}
use Rattle.qc_alloc.specs.Inside.{allocator_view}
use Rattle.qc_alloc.specs.Growing.{Raises, Grows, NamesBlocks}
use Rattle.qc_alloc.proofs.Grown.{Adds}
use Rattle.qc_alloc.proofs.Raising.{raises_none, raises_added, pool_added}
use Rattle.qc_alloc.proofs.Sizes.{place_of_small, place_shifted}
use Rattle.qc_alloc.proofs.Valid.{allocator_on}
use Rattle.qc_alloc.proofs.Coded.{shifted, half, index_is, half_at, added_at}
use Rattle.qc_alloc.proofs.clusters.Clusters.add_block.Goals as goal
use Rattle.qc_alloc.proofs.clusters.Clusters.add_block.Goals.{then-slot-each, else-slot-each}

pub add_block-requires-clause-count_end : goal.add_block-requires-clause-count_end
add_block-requires-clause-count_end g c =
    let below = subst (λ (x : Allocator). x.pool.prepared < reach x.pool) (sym c.self.view_is) c.requires.below in
    let few : c.cluster_bits-bits.result ≤ 21 = omega (arith, c.cluster_bits-bits.ensures.bits, c.cluster_bits-bits.ensures.pool.high) in
    let small : c.prepared-last.result ≤ 2 ^ 30 = omega (arith, below, c.prepared-last.ensures) in
    omega (
      arith,
      small,
      place_shifted c.cluster_bits-bits.result c.prepared-last.result few small,
      place_of_small c.cluster_bits-bits.result c.prepared-last.result few small,
      mod-le c.prepared-last.result (half c.cluster_bits-bits.result),
    )

pub add_block-requires-clause-word_end : goal.add_block-requires-clause-word_end
add_block-requires-clause-word_end g c =
    let a = allocator_view c.self.inside in
    let below = subst (λ (x : Allocator). x.pool.prepared < reach x.pool) (sym c.self.view_is) c.requires.below in
    let index = index_is a c.self.invariant.allocator c.cluster_bits-bits.result c.prepared-last.result c.cluster_bits-bits.ensures.bits c.prepared-last.ensures in
    let inside = block_inside a.pool c.self.invariant.allocator.pool a.pool.prepared below in
    omega (arith, index, inside, c.self.invariant.allocator.below)

pub returns-in_err-add_block-clause-pool : goal.returns-in_err-add_block-clause-pool
returns-in_err-add_block-clause-pool g c = raises_none c.args.self.now.pool

pub returns-in_err-add_block-clause-grows : goal.returns-in_err-add_block-clause-grows
returns-in_err-add_block-clause-grows g c =
    let a = allocator_view c.self.inside in
    let bits = c.cluster_bits-bits.result in
    let last = c.prepared-last.result in
    let end = c.if-slot-each.end in
    let below = subst (λ (x : Allocator). x.pool.prepared < reach x.pool) (sym c.self.view_is) c.requires.below in
    let missing = subst (λ (x : Allocator). block_of x.pool x.pool.prepared ≡ 0) (sym c.self.view_is) c.requires.missing in
    let one : last % half bits + 1 ≡ half bits → end ≡ 1 = λ is. elim c.if-slot-each.branch [ then-slot-each w ↦ w.end-is | else-slot-each w ↦ absurd (w.if-slot-each.false is) ] in
    let none : last % half bits + 1 ≢ half bits → end ≡ 0 = λ not. elim c.if-slot-each.branch [ then-slot-each w ↦ absurd (not w.if-slot-each.true) | else-slot-each w ↦ w.end-is ] in
    let call : Adds a.file a.pool.prepared a.pool.prepared (shifted bits (last + 1) - 1) end (shifted bits last + 2 * (last % half bits)) (a.table + 8 * (last / half bits)) (shifted bits last)
    (g.D.Outside.world c.args.depot.now) (g.D.Outside.world c.add_block.new.depot) = record {
      moves = λ s disks first i slot is. c.in_err-add_block.ensures.moves s disks first a.pool.prepared i slot is;
      leaves = λ s disks first i slot is. c.in_err-add_block.ensures.leaves s disks first a.pool.prepared i slot is;
      rows = λ s disks first i slot is. c.in_err-add_block.ensures.rows s disks first a.pool.prepared i slot is;
      others = λ s disks first i slot is. c.in_err-add_block.ensures.others s disks first a.pool.prepared i slot is;
      frame = c.in_err-add_block.ensures.frame;
    } in
    subst (λ (x : Allocator). Grows x x (g.D.Outside.world c.args.depot.now) (g.D.Outside.world c.add_block.new.depot)) c.self.view_is
    (half_at a c.self.invariant.allocator bits last c.cluster_bits-bits.ensures.bits c.prepared-last.ensures a.pool.prepared end _ _ c.in_err-add_block.ensures.puts.calls.run missing below one none call refl
    (λ s disks first i slot is. c.in_err-add_block.ensures.either s disks first a.pool.prepared i slot is))

pub invariant_of-self : goal.invariant_of-self
invariant_of-self g c =
    let a = allocator_view c.self.inside in
    let below = subst (λ (x : Allocator). x.pool.prepared < reach x.pool) (sym c.self.view_is) c.requires.below in
    let missing = subst (λ (x : Allocator). block_of x.pool x.pool.prepared ≡ 0) (sym c.self.view_is) c.requires.missing in
    let is = c.self.invariant.allocator in
    let added = c.add_block-2.ensures.added in
    record {
      allocator = allocator_on a _ is refl (raises_added a.pool c.add_block-2.new.self is.pool is.some missing below added c.add_block-2.ensures.fresh)
          (pool_added a.pool c.add_block-2.new.self is.pool is.some missing below added);
      counts = omega (arith, c.self.invariant.counts, ap (λ (x : Pool). each x) added.is);
      batch = c.self.invariant.batch;
    }

pub returns-clause-pool : goal.returns-clause-pool
returns-clause-pool g c =
    let below = subst (λ (x : Allocator). x.pool.prepared < reach x.pool) (sym c.self.view_is) c.requires.below in
    let missing = subst (λ (x : Allocator). block_of x.pool x.pool.prepared ≡ 0) (sym c.self.view_is) c.requires.missing in
    let is = c.self.invariant.allocator in
    subst (λ (x : Allocator). Raises x.pool c.add_block-2.new.self) c.self.view_is
    (raises_added c.self.inside.pool c.add_block-2.new.self is.pool is.some missing below c.add_block-2.ensures.added c.add_block-2.ensures.fresh)

pub returns-clause-grows : goal.returns-clause-grows
returns-clause-grows g c =
    let a = allocator_view c.self.inside in
    let bits = c.cluster_bits-bits.result in
    let last = c.prepared-last.result in
    let end = c.if-slot-each.end in
    let is = c.self.invariant.allocator in
    let below = subst (λ (x : Allocator). x.pool.prepared < reach x.pool) (sym c.self.view_is) c.requires.below in
    let missing = subst (λ (x : Allocator). block_of x.pool x.pool.prepared ≡ 0) (sym c.self.view_is) c.requires.missing in
    let one : last % half bits + 1 ≡ half bits → end ≡ 1 = λ is. elim c.if-slot-each.branch [ then-slot-each w ↦ w.end-is | else-slot-each w ↦ absurd (w.if-slot-each.false is) ] in
    let none : last % half bits + 1 ≢ half bits → end ≡ 0 = λ not. elim c.if-slot-each.branch [ then-slot-each w ↦ absurd (not w.if-slot-each.true) | else-slot-each w ↦ w.end-is ] in
    let call : Adds a.file a.pool.prepared (a.pool.prepared + 1) (shifted bits (last + 1) - 1) end (shifted bits last + 2 * (last % half bits)) (a.table + 8 * (last / half bits)) (shifted bits last)
    (g.D.Outside.world c.args.depot.now) (g.D.Outside.world c.add_block.new.depot) = record {
      moves = λ s disks first i slot is. c.in_ok-add_block.ensures.moves s disks first a.pool.prepared i slot is;
      leaves = λ s disks first i slot is. c.in_ok-add_block.ensures.leaves s disks first a.pool.prepared i slot is;
      rows = λ s disks first i slot is. c.in_ok-add_block.ensures.rows s disks first a.pool.prepared i slot is;
      others = λ s disks first i slot is. c.in_ok-add_block.ensures.others s disks first a.pool.prepared i slot is;
      frame = c.in_ok-add_block.ensures.frame;
    } in
    subst (λ (x : Allocator). Grows x (record a { pool = c.add_block-2.new.self }) (g.D.Outside.world c.args.depot.now) (g.D.Outside.world c.add_block.new.depot)) c.self.view_is
    ((added_at a is bits last c.cluster_bits-bits.ensures.bits c.prepared-last.ensures (a.pool.prepared + 1) end _ _ c.in_ok-add_block.ensures.puts.calls.run missing below one none call refl
    (λ s disks first i slot adding stands told. (c.in_ok-add_block.ensures.linked s disks first a.pool.prepared i slot adding stands told).0) _ refl refl c.add_block-2.ensures.added
    (raises_added a.pool c.add_block-2.new.self is.pool is.some missing below c.add_block-2.ensures.added c.add_block-2.ensures.fresh)).0)

pub returns-clause-words : goal.returns-clause-words
returns-clause-words g c =
    let a = allocator_view c.self.inside in
    let bits = c.cluster_bits-bits.result in
    let last = c.prepared-last.result in
    let end = c.if-slot-each.end in
    let is = c.self.invariant.allocator in
    let below = subst (λ (x : Allocator). x.pool.prepared < reach x.pool) (sym c.self.view_is) c.requires.below in
    let missing = subst (λ (x : Allocator). block_of x.pool x.pool.prepared ≡ 0) (sym c.self.view_is) c.requires.missing in
    let one : last % half bits + 1 ≡ half bits → end ≡ 1 = λ is. elim c.if-slot-each.branch [ then-slot-each w ↦ w.end-is | else-slot-each w ↦ absurd (w.if-slot-each.false is) ] in
    let none : last % half bits + 1 ≢ half bits → end ≡ 0 = λ not. elim c.if-slot-each.branch [ then-slot-each w ↦ absurd (not w.if-slot-each.true) | else-slot-each w ↦ w.end-is ] in
    let call : Adds a.file a.pool.prepared (a.pool.prepared + 1) (shifted bits (last + 1) - 1) end (shifted bits last + 2 * (last % half bits)) (a.table + 8 * (last / half bits)) (shifted bits last)
    (g.D.Outside.world c.args.depot.now) (g.D.Outside.world c.add_block.new.depot) = record {
      moves = λ s disks first i slot is. c.in_ok-add_block.ensures.moves s disks first a.pool.prepared i slot is;
      leaves = λ s disks first i slot is. c.in_ok-add_block.ensures.leaves s disks first a.pool.prepared i slot is;
      rows = λ s disks first i slot is. c.in_ok-add_block.ensures.rows s disks first a.pool.prepared i slot is;
      others = λ s disks first i slot is. c.in_ok-add_block.ensures.others s disks first a.pool.prepared i slot is;
      frame = c.in_ok-add_block.ensures.frame;
    } in
    subst (λ (x : Allocator). NamesBlocks x (record a { pool = c.add_block-2.new.self }) (g.D.Outside.world c.args.depot.now) (g.D.Outside.world c.add_block.new.depot)) c.self.view_is
    ((added_at a is bits last c.cluster_bits-bits.ensures.bits c.prepared-last.ensures (a.pool.prepared + 1) end _ _ c.in_ok-add_block.ensures.puts.calls.run missing below one none call refl
    (λ s disks first i slot adding stands told. (c.in_ok-add_block.ensures.linked s disks first a.pool.prepared i slot adding stands told).0) _ refl refl c.add_block-2.ensures.added
    (raises_added a.pool c.add_block-2.new.self is.pool is.some missing below c.add_block-2.ensures.added c.add_block-2.ensures.fresh)).1)
