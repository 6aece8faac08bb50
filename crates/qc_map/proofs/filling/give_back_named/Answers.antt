use Rattle.std.proofs.Common.{◌≡◌, ℕ, sym, ◌∙◌, subst, arith}
use Rattle.qc_map.specs.Filling.{AreFreed}
use Rattle.qc_map.proofs.Given.{given_none, freed_next, freed_same}
use Rattle.qc_map.proofs.filling.give_back_named.Goals.{then-offset-ne0+then-is_taken, else-offset-ne0, else-offset-ne0-via-then-offset-ne0+else-is_taken, else-offset-ne0-via-else-offset-ne0}
use Rattle.qc_map.proofs.filling.give_back_named.Goals as goal

pub loop-index-init : goal.loop-index-init
loop-index-init c = given_none c.args.clusters.now _ (λ k none. absurd (omega (arith, none.inside)))

pub loop-index-preserved : goal.loop-index-preserved
loop-index-preserved c =
    let is = c.loop-index.invariant in
    let at = c.offset_at-offset.ensures.offset in
    elim c.if-offset-ne0.branch [
      | then-offset-ne0+then-is_taken w ↦
          freed_next c.args.clusters.now c.loop-index.clusters c.if-offset-ne0.clusters c.args.cluster_bits c.loop-index.index c.offset_at-offset.result c.args.row.now is at w.if-offset-ne0.true (w.clusters-is ∙ w.give_back.ensures)
      | else-offset-ne0 w ↦
          freed_same c.args.clusters.now c.loop-index.clusters c.if-offset-ne0.clusters c.args.cluster_bits c.loop-index.index c.offset_at-offset.result c.args.row.now is at w.clusters-is
          (λ some. elim w.else-offset-ne0.branch [
            | else-offset-ne0-via-then-offset-ne0+else-is_taken v ↦ sym v.is_taken.ensures ∙ v.if-is_taken.false
            | else-offset-ne0-via-else-offset-ne0 v ↦ absurd (some v.if-offset-ne0.false)
          ])
    ]

pub returns : goal.returns
returns c =
    let all : c.loop-index.index ≡ c.args.count = omega (arith, c.loop-index-test.false, c.loop-index.auto.index-end) in
    record { freed = subst (λ (n : ℕ). AreFreed c.args.clusters.now c.loop-index.clusters c.args.cluster_bits n c.args.row.now) all c.loop-index.invariant }
