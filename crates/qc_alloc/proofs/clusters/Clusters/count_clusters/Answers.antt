use Rattle.std.proofs.Common.{◌≡◌, ℕ, ◌+◌, ◌-◌, ◌*◌, ◌%◌, ◌≤◌, List, length, take, refl, sym, ◌∙◌, ap, subst, arith}
use Rattle.std.proofs.Math.Nat.{mod-le}
use Rattle.std.proofs.lemmas.List.{length-take-le, length-take, with_items_is}
use Rattle.image_model.specs.Calls.{AreOnes}
use Rattle.cluster_pool.specs.Pool.{Pool, IsPool, reach, each, block_of}
use Rattle.qc_alloc.specs.Allocator.{Allocator}
use Rattle.qc_alloc.specs.Inside.{allocator_view}
use Rattle.qc_alloc.specs.Growing.{Raises, Grows, NamesBlocks}
use Rattle.qc_alloc.proofs.Grown.{Counts}
use Rattle.qc_alloc.proofs.Coded.{shifted, half, counted_at}
use Rattle.qc_alloc.proofs.Raising.{raises_none, raises_prepared, place_of_some}
use Rattle.qc_alloc.proofs.Sizes.{place_of_small, place_shifted, block_small, ones_part}
use Rattle.qc_alloc.proofs.Valid.{pool_prepared, allocator_on}
use Rattle.qc_alloc.proofs.clusters.Clusters.count_clusters.Goals as goal

pub overflow_add-spot : goal.overflow_add-spot
overflow_add-spot g c =
    let below = subst (λ (x : Allocator). x.pool.prepared + c.args.count ≤ reach x.pool) (sym c.self.view_is) c.requires.below in
    let block = subst (λ (x : Allocator). c.args.block ≡ block_of x.pool x.pool.prepared) (sym c.self.view_is) c.requires.block in
    let small = block_small (allocator_view c.self.inside) _ c.self.invariant.allocator (λ none. c.requires.linked (block ∙ none)) (omega (arith, below)) in
    omega (arith, block, small, below, c.prepared-last.ensures, mod-le c.prepared-last.result (half c.cluster_bits-bits.result))

pub overflow_sub-finish : goal.overflow_sub-finish
overflow_sub-finish g c =
    let below = subst (λ (x : Allocator). x.pool.prepared + c.args.count ≤ reach x.pool) (sym c.self.view_is) c.requires.below in
    let at = c.prepared-last.result + c.args.count in
    let is = place_shifted c.cluster_bits-bits.result at (omega (
      arith,
      c.cluster_bits-bits.ensures.bits,
      c.cluster_bits-bits.ensures.pool.high,
    )) (omega (arith, below, c.prepared-last.ensures)) in
    omega (arith, is, place_of_some c.cluster_bits-bits.result at (omega (arith, c.requires.some)))

pub top_up-requires-clause-end : goal.top_up-requires-clause-end
top_up-requires-clause-end g c =
    let below = subst (λ (x : Allocator). x.pool.prepared + c.args.count ≤ reach x.pool) (sym c.self.view_is) c.requires.below in
    let at = c.prepared-last.result + c.args.count in
    let few : c.cluster_bits-bits.result ≤ 21 = omega (arith, c.cluster_bits-bits.ensures.bits, c.cluster_bits-bits.ensures.pool.high) in
    let is = place_shifted c.cluster_bits-bits.result at few (omega (arith, below, c.prepared-last.ensures)) in
    omega (arith, is, place_of_small c.cluster_bits-bits.result at few (omega (arith, below, c.prepared-last.ensures)))

pub top_up-requires-clause-counts_end : goal.top_up-requires-clause-counts_end
top_up-requires-clause-counts_end g c =
    let below = subst (λ (x : Allocator). x.pool.prepared + c.args.count ≤ reach x.pool) (sym c.self.view_is) c.requires.below in
    let block = subst (λ (x : Allocator). c.args.block ≡ block_of x.pool x.pool.prepared) (sym c.self.view_is) c.requires.block in
    let small = block_small (allocator_view c.self.inside) _ c.self.invariant.allocator (λ none. c.requires.linked (block ∙ none)) (omega (arith, below)) in
    omega (
      arith,
      block,
      small,
      below,
      c.prepared-last.ensures,
      c.requires.few,
      length-take (2 * c.args.count) c.deref.result.now,
      mod-le c.prepared-last.result (half c.cluster_bits-bits.result),
    )

pub returns-in_err-top_up-clause-pool : goal.returns-in_err-top_up-clause-pool
returns-in_err-top_up-clause-pool g c = subst (λ (x : Allocator). Raises x.pool c.self.inside.pool) c.self.view_is (raises_none c.self.inside.pool)

pub returns-in_err-top_up-clause-grows : goal.returns-in_err-top_up-clause-grows
returns-in_err-top_up-clause-grows g c =
    let a = allocator_view c.self.inside in
    let n = c.args.count in
    let last = c.prepared-last.result in
    let bits = c.cluster_bits-bits.result in
    let below = subst (λ (x : Allocator). x.pool.prepared + n ≤ reach x.pool) (sym c.self.view_is) c.requires.below in
    let within = subst (λ (x : Allocator). x.pool.prepared % each x.pool + n ≤ each x.pool) (sym c.self.view_is) c.requires.within in
    let block : c.args.block ≡ block_of a.pool a.pool.prepared = subst
    (λ (x : Allocator). c.args.block ≡ block_of x.pool x.pool.prepared) (sym c.self.view_is) c.requires.block in
    let counts = take (2 * n) c.deref.result.now in
    let written = c.deref.ensures.value ∙ with_items_is c.self.inside.counts c.write_ones.new.counts (omega (
      arith,
      c.write_ones.ensures.same_length,
      ap
          (λ (x : List ℕ). length x) c.deref_mut.ensures.value,
      c.self.inside.counts.ok.0,
    )) in
    let call : Counts a.file a.pool.prepared n a.pool.prepared (shifted bits (last + n) - 1) (c.args.block + 2 * (last % half bits)) counts (g.D.Outside.world c.args.depot.now) (g.D.Outside.world c.top_up.new.depot) = record {
      moves = λ s disks first q i low is. c.in_err-top_up.ensures.moves s disks first a.pool.prepared q i low n is;
      leaves = λ s disks first q i low is. c.in_err-top_up.ensures.leaves s disks first a.pool.prepared q i low n is;
      rows = λ s disks first q i low is. c.in_err-top_up.ensures.rows s disks first a.pool.prepared q i low n is;
      others = λ s disks first q i low is. c.in_err-top_up.ensures.others s disks first a.pool.prepared q i low n is;
      frame = c.in_err-top_up.ensures.frame;
    } in
    let long = length-take-le (2 * n) c.deref.result.now
    (omega (
      arith,
      ap (λ (x : List ℕ). length x) written,
      c.write_ones.ensures.same_length,
      ap (λ (x : List ℕ). length x) c.deref_mut.ensures.value,
      c.self.invariant.counts,
      within,
      c.requires.few,
    )) in
    subst (λ (x : Allocator). Grows x a (g.D.Outside.world c.args.depot.now) (g.D.Outside.world c.top_up.new.depot)) c.self.view_is
    ((counted_at a c.self.invariant.allocator bits last c.cluster_bits-bits.ensures.bits c.prepared-last.ensures n a.pool.prepared c.args.block counts _ _ c.in_err-top_up.ensures.puts.calls.run c.requires.some
    (λ none. c.requires.linked (block ∙ none)) block within below long (ones_part n c.deref.result.now (subst (AreOnes n) (sym written) c.write_ones.ensures.ones)) call _ refl refl refl).0)

pub invariant_of-self-2 : goal.invariant_of-self-2
invariant_of-self-2 g c =
    let linked = λ (none : block_of c.self.inside.pool c.self.inside.pool.prepared ≡ 0).
    c.requires.linked (subst (λ (x : Allocator). c.args.block ≡ block_of x.pool x.pool.prepared) (sym c.self.view_is) c.requires.block ∙ none) in
    let within = subst (λ (x : Allocator). x.pool.prepared % each x.pool + c.args.count ≤ each x.pool) (sym c.self.view_is) c.requires.within in
    let below = subst (λ (x : Allocator). x.pool.prepared + c.args.count ≤ reach x.pool) (sym c.self.view_is) c.requires.below in
    let raises = raises_prepared c.self.inside.pool c.prepare.new.self c.args.count c.prepare.ensures.prepared linked within below c.prepare.ensures.fresh in
    let written = with_items_is c.self.inside.counts c.write_ones.new.counts (omega (
      arith,
      c.write_ones.ensures.same_length,
      ap
          (λ (x : List ℕ). length x) c.deref_mut.ensures.value,
      c.self.inside.counts.ok.0,
    )) in
    let pool = subst IsPool (sym c.prepare.ensures.prepared) (pool_prepared c.self.inside.pool c.args.count c.self.invariant.allocator.pool linked within) in
    record {
      allocator = allocator_on (allocator_view c.self.inside) _ c.self.invariant.allocator refl raises pool;
      counts = omega (
        arith,
        c.self.invariant.counts,
        ap (λ (x : List ℕ). length x) written,
        c.write_ones.ensures.same_length,
        ap
            (λ (x : List ℕ). length x) c.deref_mut.ensures.value,
        ap (λ (x : Pool). each x) c.prepare.ensures.prepared,
      );
      batch = c.self.invariant.batch;
    }

pub returns-clause-pool : goal.returns-clause-pool
returns-clause-pool g c =
    subst (λ (x : Allocator). Raises x.pool c.prepare.new.self) c.self.view_is
    (raises_prepared c.self.inside.pool c.prepare.new.self c.args.count c.prepare.ensures.prepared
    (λ none. c.requires.linked (subst (λ (x : Allocator). c.args.block ≡ block_of x.pool x.pool.prepared) (sym c.self.view_is) c.requires.block ∙ none))
    (subst (λ (x : Allocator). x.pool.prepared % each x.pool + c.args.count ≤ each x.pool) (sym c.self.view_is) c.requires.within)
    (subst (λ (x : Allocator). x.pool.prepared + c.args.count ≤ reach x.pool) (sym c.self.view_is) c.requires.below)
    c.prepare.ensures.fresh)

pub returns-clause-grows : goal.returns-clause-grows
returns-clause-grows g c =
    let a = allocator_view c.self.inside in
    let n = c.args.count in
    let last = c.prepared-last.result in
    let bits = c.cluster_bits-bits.result in
    let below = subst (λ (x : Allocator). x.pool.prepared + n ≤ reach x.pool) (sym c.self.view_is) c.requires.below in
    let within = subst (λ (x : Allocator). x.pool.prepared % each x.pool + n ≤ each x.pool) (sym c.self.view_is) c.requires.within in
    let block : c.args.block ≡ block_of a.pool a.pool.prepared = subst
    (λ (x : Allocator). c.args.block ≡ block_of x.pool x.pool.prepared) (sym c.self.view_is) c.requires.block in
    let counts = take (2 * n) c.deref.result.now in
    let written = c.deref.ensures.value ∙ with_items_is c.self.inside.counts c.write_ones.new.counts (omega (
      arith,
      c.write_ones.ensures.same_length,
      ap
          (λ (x : List ℕ). length x) c.deref_mut.ensures.value,
      c.self.inside.counts.ok.0,
    )) in
    let call : Counts a.file a.pool.prepared n (a.pool.prepared + n) (shifted bits (last + n) - 1) (c.args.block + 2 * (last % half bits)) counts (g.D.Outside.world c.args.depot.now) (g.D.Outside.world c.top_up.new.depot) = record {
      moves = λ s disks first q i low is. c.in_ok-top_up.ensures.moves s disks first a.pool.prepared q i low n is;
      leaves = λ s disks first q i low is. c.in_ok-top_up.ensures.leaves s disks first a.pool.prepared q i low n is;
      rows = λ s disks first q i low is. c.in_ok-top_up.ensures.rows s disks first a.pool.prepared q i low n is;
      others = λ s disks first q i low is. c.in_ok-top_up.ensures.others s disks first a.pool.prepared q i low n is;
      frame = c.in_ok-top_up.ensures.frame;
    } in
    let long = length-take-le (2 * n) c.deref.result.now
    (omega (
      arith,
      ap (λ (x : List ℕ). length x) written,
      c.write_ones.ensures.same_length,
      ap (λ (x : List ℕ). length x) c.deref_mut.ensures.value,
      c.self.invariant.counts,
      within,
      c.requires.few,
    )) in
    subst (λ (x : Allocator). Grows x (record a { pool = c.prepare.new.self }) (g.D.Outside.world c.args.depot.now) (g.D.Outside.world c.top_up.new.depot)) c.self.view_is
    ((counted_at a c.self.invariant.allocator bits last c.cluster_bits-bits.ensures.bits c.prepared-last.ensures n (a.pool.prepared + n) c.args.block counts _ _ c.in_ok-top_up.ensures.puts.calls.run c.requires.some
    (λ none. c.requires.linked (block ∙ none)) block within below long (ones_part n c.deref.result.now (subst (AreOnes n) (sym written) c.write_ones.ensures.ones)) call _ refl refl c.prepare.ensures.prepared).0)

pub returns-clause-words : goal.returns-clause-words
returns-clause-words g c =
    let a = allocator_view c.self.inside in
    let n = c.args.count in
    let last = c.prepared-last.result in
    let bits = c.cluster_bits-bits.result in
    let below = subst (λ (x : Allocator). x.pool.prepared + n ≤ reach x.pool) (sym c.self.view_is) c.requires.below in
    let within = subst (λ (x : Allocator). x.pool.prepared % each x.pool + n ≤ each x.pool) (sym c.self.view_is) c.requires.within in
    let block : c.args.block ≡ block_of a.pool a.pool.prepared = subst
    (λ (x : Allocator). c.args.block ≡ block_of x.pool x.pool.prepared) (sym c.self.view_is) c.requires.block in
    let counts = take (2 * n) c.deref.result.now in
    let written = c.deref.ensures.value ∙ with_items_is c.self.inside.counts c.write_ones.new.counts (omega (
      arith,
      c.write_ones.ensures.same_length,
      ap
          (λ (x : List ℕ). length x) c.deref_mut.ensures.value,
      c.self.inside.counts.ok.0,
    )) in
    let call : Counts a.file a.pool.prepared n (a.pool.prepared + n) (shifted bits (last + n) - 1) (c.args.block + 2 * (last % half bits)) counts (g.D.Outside.world c.args.depot.now) (g.D.Outside.world c.top_up.new.depot) = record {
      moves = λ s disks first q i low is. c.in_ok-top_up.ensures.moves s disks first a.pool.prepared q i low n is;
      leaves = λ s disks first q i low is. c.in_ok-top_up.ensures.leaves s disks first a.pool.prepared q i low n is;
      rows = λ s disks first q i low is. c.in_ok-top_up.ensures.rows s disks first a.pool.prepared q i low n is;
      others = λ s disks first q i low is. c.in_ok-top_up.ensures.others s disks first a.pool.prepared q i low n is;
      frame = c.in_ok-top_up.ensures.frame;
    } in
    let long = length-take-le (2 * n) c.deref.result.now
    (omega (
      arith,
      ap (λ (x : List ℕ). length x) written,
      c.write_ones.ensures.same_length,
      ap (λ (x : List ℕ). length x) c.deref_mut.ensures.value,
      c.self.invariant.counts,
      within,
      c.requires.few,
    )) in
    subst (λ (x : Allocator). NamesBlocks x (record a { pool = c.prepare.new.self }) (g.D.Outside.world c.args.depot.now) (g.D.Outside.world c.top_up.new.depot)) c.self.view_is
    ((counted_at a c.self.invariant.allocator bits last c.cluster_bits-bits.ensures.bits c.prepared-last.ensures n (a.pool.prepared + n) c.args.block counts _ _ c.in_ok-top_up.ensures.puts.calls.run c.requires.some
    (λ none. c.requires.linked (block ∙ none)) block within below long (ones_part n c.deref.result.now (subst (AreOnes n) (sym written) c.write_ones.ensures.ones)) call _ refl refl c.prepare.ensures.prepared).1)
