use Rattle.std.proofs.Common.{◌≡◌, ◌+◌, Bool, sym, ap, ◌∙◌, arith}
use Rattle.std.specs.Prelude.{if◌then◌else◌}
use Rattle.disk_model.proofs.Laws.{run_on}
use Rattle.toy_image.proofs.Looking.{missing_step}
use Rattle.toy_image.proofs.image.count_missing.Goals.{then-branch, else-branch}
use Rattle.toy_image.proofs.image.count_missing.Goals as goal

pub loop-i-preserved : goal.loop-i-preserved
loop-i-preserved g c =
    let invariant = c.loop-i.invariant in
    let few = invariant.few in
    let step = missing_step (g.D.Outside.world c.args.depot.now) (g.D.Outside.world c.loop-i.depot) c.args.file.0 c.args.blocks.now c.loop-i.i c.loop-i.missing c.in_ok-is_missing.field-0 invariant.run invariant.missing c.in_ok-is_missing.ensures.missing in
    let run = run_on invariant.run c.is_missing.ensures.run in
    elim c.if-branch.branch [
      | then-branch w ↦ (let is = w.missing-is in record {
        few = omega arith;
        missing = λ told. is ∙ ap (λ (b : Bool). c.loop-i.missing + (if b then 1 else 0)) (sym w.if-branch.true) ∙ step told;
        run = run;
      })
      | else-branch w ↦ (let is = w.missing-is in record {
        few = omega arith;
        missing = λ told. is ∙ (let same : c.loop-i.missing ≡ c.loop-i.missing + 0 = omega arith in same) ∙ ap (λ (b : Bool). c.loop-i.missing + (if b then 1 else 0)) (sym w.if-branch.false) ∙ step told;
        run = run;
      })
    ]
