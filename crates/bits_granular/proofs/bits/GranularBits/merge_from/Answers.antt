use Rattle.std.proofs.Common.{◌≡◌, ℕ, ap, ◌∙◌, refl, arith}
use Rattle.bitmap_model.specs.Granules.{GranuleSet, marked, merged}
use Rattle.bitmap_model.proofs.Places.{granularity-least}
use Rattle.bits_granular.specs.Words.{granules_from}
use Rattle.bits_granular.proofs.Merging.{merged_none, merged_on, merged_end, merged_same}
use Rattle.bits_granular.proofs.bits.GranularBits.merge_from.Goals as goal

pub returns-then-self-other : goal.returns-then-self-other
returns-then-self-other c =
    let own : GranuleSet = record { size = c.self.inside.size; granularity = c.self.inside.granularity; set = c.self.inside.dirty } in
    let theirs : GranuleSet = record { size = c.other.inside.size; granularity = c.other.inside.granularity; set = c.other.inside.dirty } in
    merged_same own theirs c.join.new.self (omega (arith, granularity-least c.self.inside.granularity c.self.invariant.lawful)) c.if-self-other.true c.join.ensures
    ∙ (ap (λ (s : GranuleSet). merged s theirs) c.self.view_is ∙ ap (λ (o : GranuleSet). merged c.args.self.now o) c.other.view_is)

pub loop-first-init : goal.loop-first-init
loop-first-init c = record { merged = merged_none c.args.self.now c.args.other.now.granularity c.args.other.now.set; within = omega arith }

pub loop-first-preserved : goal.loop-first-preserved
loop-first-preserved c =
    let size : c.self.inside.granularity ≡ c.args.self.now.granularity = ap (λ (s : GranuleSet). s.granularity) c.self.view_is in
    record {
      merged = merged_on c.args.self.now c.loop-first.self c.mark_granules.new.self c.args.other.now.granularity c.args.other.now.set c.loop-first.from c.in-Some.first c.change_after-from.result
          (omega (arith, size, granularity-least c.self.inside.granularity c.self.invariant.lawful)) (omega (arith, granularity-least c.args.other.now.granularity c.granularity.ensures.shaped.lawful))
          c.in-Some.ensures.found c.change_after-from.ensures.after c.change_after-from.ensures.same c.loop-first.invariant.merged
          (c.mark_granules.ensures ∙ ap (λ (h : ℕ). marked c.loop-first.self (granules_from h c.in-Some.first c.change_after-from.result)) c.granularity.ensures.granularity);
      within = c.change_after-from.ensures.within;
    }

pub returns : goal.returns
returns c = merged_end c.args.self.now c.loop-first.self c.args.other.now c.loop-first.from (c.in_default.ensures.none.0 refl) c.loop-first.invariant.within c.loop-first.invariant.merged
