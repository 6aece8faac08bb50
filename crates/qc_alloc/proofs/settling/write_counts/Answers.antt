use Rattle.std.proofs.Common.{◌≡◌, ◌+◌, ◌*◌, ◌<◌, Bool, cond, length, sym, ◌∙◌, ap, arith, below_more}
use Rattle.std.proofs.Math.ListN.{set, length-set}
use Rattle.bitmap_model.specs.Granules.{is_in}
use Rattle.qc_alloc.specs.Settling.{count_for}
use Rattle.qc_alloc.proofs.Numbers.{count_put, count_kept}
use Rattle.qc_alloc.proofs.settling.write_counts.Goals.{then-is_spoken, else-is_spoken}
use Rattle.qc_alloc.proofs.settling.write_counts.Goals as goal

pub loop-index-preserved : goal.loop-index-preserved
loop-index-preserved c =
    let counts = c.loop-index.counts.items in
    let index = c.loop-index.index in
    let value = c.if-is_spoken.low in
    let is : value ≡ count_for (is_in c.args.pool.now.spoken) (c.args.from + index) = elim c.if-is_spoken.branch [
      | then-is_spoken w ↦ w.low-is ∙ ap (λ (b : Bool). cond b 1 0) (sym w.if-is_spoken.true ∙ c.is_spoken.ensures)
      | else-is_spoken w ↦ w.low-is ∙ ap (λ (b : Bool). cond b 1 0) (sym w.if-is_spoken.false ∙ c.is_spoken.ensures)
    ] in
    let inside : 2 * index + 1 < length counts = omega arith in (
      length-set (set counts (2 * index) 0) (2 * index + 1) value ∙ length-set counts (2 * index) 0 ∙ c.loop-index.invariant.0,
      below_more _ _ (λ t t_in. count_kept counts index value t t_in ∙ c.loop-index.invariant.1 t t_in) (count_put counts index value inside ∙ is),
    )
