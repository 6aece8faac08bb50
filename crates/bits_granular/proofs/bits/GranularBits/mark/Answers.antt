use Rattle.std.proofs.Common.{refl, ap, ◌∙◌, arith}
use Rattle.bitmap_model.specs.Granules.{GranuleSet, marked}
use Rattle.bitmap_model.proofs.Places.{granularity-least}
use Rattle.bits_granular.proofs.Marking.{marked_nothing, marked_by}
use Rattle.bits_granular.proofs.bits.GranularBits.mark.Goals as goal

pub returns-then-length-eq0 : goal.returns-then-length-eq0
returns-then-length-eq0 c = marked_nothing c.args.self.now c.args.at c.args.length c.if-length-eq0.true

pub returns : goal.returns
returns c =
    marked_by (record { size = c.self.inside.size; granularity = c.self.inside.granularity; set = c.self.inside.dirty }) c.args.at c.args.length
    c.div_ceil-past.result c.self.inside.dirty c.fill.new.self (omega (arith, granularity-least c.self.inside.granularity c.self.invariant.lawful)) (omega arith)
    refl c.div_ceil-past.ensures c.fill.ensures
    ∙ ap (λ (s : GranuleSet). marked s (record { at = c.args.at; size = c.args.length })) c.self.view_is
