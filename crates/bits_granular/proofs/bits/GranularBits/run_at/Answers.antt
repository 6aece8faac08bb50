use Rattle.std.proofs.Common.{◌*◌, ◌<◌, true, false, ap, sym, subst, ◌∙◌, arith}
use Rattle.bitmap_model.specs.Granules.{GranuleSet, IsShaped}
use Rattle.bitmap_model.proofs.Places.{granularity-least, begins_after}
use Rattle.bitmap_model.proofs.Cuts.{dirty_first}
use Rattle.bits_granular.proofs.bits.GranularBits.run_at.Goals as goal

pub overflow_sub-result : goal.overflow_sub-result
overflow_sub-result c =
    let positive : 0 < c.self.inside.granularity = omega (arith, granularity-least c.self.inside.granularity c.self.invariant.lawful) in
    let begins : c.args.from < c.change_after.result * c.self.inside.granularity = begins_after c.args.from c.self.inside.granularity c.change_after.result positive c.change_after.ensures.after in
    omega (arith, c.min-past.ensures)

pub returns-then-is_dirty-clause-first : goal.returns-then-is_dirty-clause-first
returns-then-is_dirty-clause-first c =
    dirty_first c.args.self.now c.self.inside.granularity c.args.from c.args.end c.change_after.result c.min-past.result true (subst IsShaped c.self.view_is c.self.invariant)
    (ap (λ (s : GranuleSet). s.granularity) c.self.view_is) c.requires.some c.requires.inside c.change_after.ensures.after c.change_after.ensures.within
    c.change_after.ensures.same c.change_after.ensures.other (sym c.is_dirty.ensures ∙ c.if-is_dirty.true) c.min-past.ensures

pub returns-else-is_dirty-clause-first : goal.returns-else-is_dirty-clause-first
returns-else-is_dirty-clause-first c =
    dirty_first c.args.self.now c.self.inside.granularity c.args.from c.args.end c.change_after.result c.min-past.result false (subst IsShaped c.self.view_is c.self.invariant)
    (ap (λ (s : GranuleSet). s.granularity) c.self.view_is) c.requires.some c.requires.inside c.change_after.ensures.after c.change_after.ensures.within
    c.change_after.ensures.same c.change_after.ensures.other (sym c.is_dirty.ensures ∙ c.if-is_dirty.false) c.min-past.ensures
