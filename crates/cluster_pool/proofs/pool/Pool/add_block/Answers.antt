use Rattle.std.proofs.Common.{◌≡◌, ℕ, ◌+◌, ◌*◌, ◌/◌, ◌%◌, ◌^◌, ◌<◌, List, Bool, set, min, sym, ap, subst, ◌∙◌, arith}
use Rattle.std.proofs.lemmas.List.{get_or-set_same, get_or-set_other, length-set}
use Rattle.qc_layout.specs.Disks.{place_of}
use Rattle.cluster_pool.specs.declared.pool.Pool.TheInside.{Inside}
use Rattle.cluster_pool.specs.Inside.{pool_view, IsInside}
use Rattle.cluster_pool.specs.Sets.{with_member}
use Rattle.cluster_pool.specs.Pool.{Pool, IsPool, IsPutAt, each, reach, fresh}
use Rattle.cluster_pool.proofs.Sizes.{place_shifted, place_fits, block_inside}
use Rattle.cluster_pool.proofs.Fresh.{fresh_added}
use Rattle.cluster_pool.proofs.Keeping.{pool_added}
use Rattle.cluster_pool.proofs.pool.Pool.add_block.Goals as goal

module _ (a : Inside) (p : Pool) (view : pool_view a ≡ p) (h : IsInside a) (e : ℕ) (size : e ≡ each p) (below : p.prepared < reach p) where
  put : List ℕ
  put = set a.blocks.items (a.prepared / e) (a.prepared * 2 ^ a.cluster_bits % 2 ^ 64)

  put_is : put ≡ set p.blocks (p.prepared / each p) (place_of p.bits p.prepared)
  unfolding put
  put_is =
      let high : IsPool p = subst IsPool view h.pool in
      ap (λ (q : Pool). set q.blocks (q.prepared / e) (q.prepared * 2 ^ q.bits % 2 ^ 64)) view
      ∙ (ap (λ (x : ℕ). set p.blocks (p.prepared / x) (p.prepared * 2 ^ p.bits % 2 ^ 64)) size
      ∙ ap (λ (x : ℕ). set p.blocks (p.prepared / each p) x) (place_shifted p.bits p.prepared (place_fits p.bits p.prepared high.high (omega arith))))

  puts : IsPutAt p.blocks put (p.prepared / each p) (place_of p.bits p.prepared)
  puts =
      let i : ℕ = p.prepared / each p in
      let x : ℕ = place_of p.bits p.prepared in
      subst (λ (bs : List ℕ). IsPutAt p.blocks bs i x) (sym put_is) (record {
        same_length = length-set p.blocks i x;
        there = get_or-set_same p.blocks i x 0 (block_inside p (subst IsPool view h.pool) p.prepared below);
        others = λ j other. get_or-set_other p.blocks i j x 0 other;
      })

added_is : (a : Inside) (p : Pool) (bs : List ℕ) (s : List Bool) → pool_view a ≡ p → s ≡ with_member a.spoken a.prepared
    → record (pool_view a) { blocks = bs; spoken = s; prepared = a.prepared + 1 } ≡ record p { blocks = bs; spoken = with_member p.spoken p.prepared; prepared = p.prepared + 1 }
added_is a p bs s view is =
    ap (λ (t : List Bool). record (pool_view a) { blocks = bs; spoken = t; prepared = a.prepared + 1 }) is
    ∙ ap (λ (q : Pool). record q { blocks = bs; spoken = with_member q.spoken q.prepared; prepared = q.prepared + 1 }) view

pub invariant_of-self : goal.invariant_of-self
unfolding put
invariant_of-self c =
    let a : Inside = c.self.inside in
    let p : Pool = c.args.self.now in
    let h : IsPool p = subst IsPool c.self.view_is c.self.invariant.pool in
    let is : IsPutAt p.blocks (put a p c.self.view_is c.self.invariant c.each.result c.each.ensures c.requires.below) (p.prepared / each p) (place_of p.bits p.prepared) =
    puts a p c.self.view_is c.self.invariant c.each.result c.each.ensures c.requires.below in
    let bs : List ℕ = put a p c.self.view_is c.self.invariant c.each.result c.each.ensures c.requires.below in
    let same = added_is a p bs c.insert.new.self c.self.view_is c.insert.ensures in
    let kept : fresh (record p { blocks = bs; spoken = with_member p.spoken p.prepared; prepared = p.prepared + 1 }) ≡ fresh p =
    fresh_added p h c.requires.missing c.requires.some bs c.requires.below is in
    record {
      pool = subst IsPool (sym same) (pool_added p bs h c.requires.missing c.requires.some is);
      reach = c.self.invariant.reach ∙ (ap reach c.self.view_is ∙ (ap (λ (n : ℕ). min (2 ^ 30) (n * each p)) (sym is.same_length) ∙ ap reach (sym same)));
      fresh = c.self.invariant.fresh ∙ (ap fresh c.self.view_is ∙ (sym kept ∙ ap fresh (sym same)));
      capacity = c.self.invariant.capacity;
    }

pub returns-clause-added : goal.returns-clause-added
unfolding put
returns-clause-added c = record {
  blocks = puts c.self.inside c.args.self.now c.self.view_is c.self.invariant c.each.result c.each.ensures c.requires.below;
  is = added_is c.self.inside c.args.self.now (put c.self.inside c.args.self.now c.self.view_is c.self.invariant c.each.result c.each.ensures c.requires.below) c.insert.new.self c.self.view_is c.insert.ensures;
}

pub returns-clause-fresh : goal.returns-clause-fresh
unfolding put
returns-clause-fresh c =
    let a : Inside = c.self.inside in
    let p : Pool = c.args.self.now in
    let bs : List ℕ = put a p c.self.view_is c.self.invariant c.each.result c.each.ensures c.requires.below in
    ap fresh (added_is a p bs c.insert.new.self c.self.view_is c.insert.ensures)
    ∙ fresh_added p (subst IsPool c.self.view_is c.self.invariant.pool) c.requires.missing c.requires.some bs c.requires.below
    (puts a p c.self.view_is c.self.invariant c.each.result c.each.ensures c.requires.below)
