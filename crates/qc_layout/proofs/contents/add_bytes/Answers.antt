use Rattle.std.proofs.Common.{◌++◌, ◌∷◌, [], ℕ, ap, ◌∙◌}
use Rattle.qc_layout.proofs.Kept.{added_none, added_more}
use Rattle.qc_layout.proofs.contents.add_bytes.Goals as goal

pub loop-i-init : goal.loop-i-init
loop-i-init c = added_none c.args.bytes.now c.args.out.now.items c.args.from

pub loop-i-preserved : goal.loop-i-preserved
loop-i-preserved c =
    c.in_ok-push.ensures.items
    ∙ ap (λ (b : ℕ). c.loop-i.out.items ++ b ∷ []) c.byte_at.ensures
    ∙ added_more c.args.bytes.now c.args.out.now.items c.loop-i.out.items c.args.from c.loop-i.i c.loop-i.invariant
