use Rattle.std.proofs.Common.{◌≡◌, ◌+◌, ◌<◌, OnOk, sym, ◌∙◌, ap, subst, arith}
use Rattle.std.proofs.Math.Nat.{mod-lt}
use Rattle.std.proofs.lemmas.Result.{on_ok_weaker}
use Rattle.cluster_pool.specs.Pool.{reach, block_at, block_of}
use Rattle.cluster_pool.proofs.Sizes.{each_some, block_inside}
use Rattle.qc_alloc.specs.Allocator.{Allocator}
use Rattle.qc_alloc.specs.Growing.{NamesBlocks}
use Rattle.qc_alloc.specs.Inside.{allocator_view}
use Rattle.qc_alloc.proofs.Coded.{half_is, index_is, slot_is}
use Rattle.qc_alloc.proofs.clusters.Clusters.prepare.Goals as goal

pub block-block-requires : goal.block-block-requires
block-block-requires g c =
    let a = allocator_view c.self.inside in
    let below = subst (λ (x : Allocator). x.pool.prepared < reach x.pool) (sym c.self.view_is) c.requires.below in
    let index = index_is a c.self.invariant.allocator c.cluster_bits.result c.prepared-last.result c.cluster_bits.ensures.bits c.prepared-last.ensures in
    omega (arith, index, block_inside a.pool c.self.invariant.allocator.pool a.pool.prepared below)

pub add_block-requires-clause-missing : goal.add_block-requires-clause-missing
add_block-requires-clause-missing g c =
    let a = allocator_view c.self.inside in
    let index = index_is a c.self.invariant.allocator c.cluster_bits.result c.prepared-last.result c.cluster_bits.ensures.bits c.prepared-last.ensures in
    subst (λ (x : Allocator). block_of x.pool x.pool.prepared ≡ 0) c.self.view_is (ap (block_at a.pool) (sym index) ∙ sym c.block-block.ensures
    ∙ c.if-block-eq0.true)

pub count_clusters-requires-clause-block : goal.count_clusters-requires-clause-block
count_clusters-requires-clause-block g c =
    let a = allocator_view c.self.inside in
    let index = index_is a c.self.invariant.allocator c.cluster_bits.result c.prepared-last.result c.cluster_bits.ensures.bits c.prepared-last.ensures in
    c.block-block.ensures ∙ ap (block_at a.pool) index

pub count_clusters-requires-clause-within : goal.count_clusters-requires-clause-within
count_clusters-requires-clause-within g c =
    let a = allocator_view c.self.inside in
    let slot = slot_is a c.self.invariant.allocator c.cluster_bits.result c.prepared-last.result c.cluster_bits.ensures.bits c.prepared-last.ensures in
    let each = half_is a c.self.invariant.allocator c.cluster_bits.result c.prepared-last.result c.cluster_bits.ensures.bits c.prepared-last.ensures in
    let part = mod-lt a.pool.prepared (each_some a.pool.bits c.self.invariant.allocator.pool.low) in
    omega (arith, slot, each, part, c.min.ensures, c.min-2.ensures, c.min-count.ensures)

pub returns-clause-more : goal.returns-clause-more
returns-clause-more g c =
    let a = allocator_view c.self.inside in
    let below = subst (λ (x : Allocator). x.pool.prepared < reach x.pool) (sym c.self.view_is) c.requires.below in
    let slot = slot_is a c.self.invariant.allocator c.cluster_bits.result c.prepared-last.result c.cluster_bits.ensures.bits c.prepared-last.ensures in
    let each = half_is a c.self.invariant.allocator c.cluster_bits.result c.prepared-last.result c.cluster_bits.ensures.bits c.prepared-last.ensures in
    let part = mod-lt a.pool.prepared (each_some a.pool.bits c.self.invariant.allocator.pool.low) in
    let some : 0 < c.min-count.result = omega (
      arith,
      slot,
      each,
      part,
      below,
      c.requires.some,
      c.prepared-last.ensures,
      c.reach.ensures,
      c.min.ensures,
      c.min-2.ensures,
      c.min-count.ensures,
      c.len.ensures,
      c.self.invariant.counts,
    ) in
    subst (λ (x : Allocator). OnOk c.count_clusters.result (x.pool.prepared < c.count_clusters.new.self.pool.prepared)) c.self.view_is
    (on_ok_weaker c.count_clusters.result (λ (e : c.count_clusters.new.self.pool.prepared ≡ a.pool.prepared + c.min-count.result). omega (
      arith,
      e,
      some,
    )) c.count_clusters.ensures.more)

pub returns-clause-words : goal.returns-clause-words
returns-clause-words g c =
    subst (λ (x : Allocator). OnOk c.count_clusters.result (NamesBlocks x c.count_clusters.new.self (g.D.Outside.world c.args.depot.now) (g.D.Outside.world c.count_clusters.new.depot)))
    c.self.view_is c.count_clusters.ensures.words
