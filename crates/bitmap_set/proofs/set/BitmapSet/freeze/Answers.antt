use Rattle.std.proofs.Common.{sym, ap, ◌∙◌}
use Rattle.std.specs.Prelude.{Some, option_map}
use Rattle.span_algebra.specs.declared.spans.Base.{Base}
use Rattle.bitmap_model.specs.Bitmap.{BitmapState, base_at, when_frozen}
use Rattle.bitmap_model.specs.Bitmaps.{named}
use Rattle.bitmap_set.specs.Sets.{SetState}
use Rattle.bitmap_set.specs.contracts.set.BitmapSet.{the_view}
use Rattle.bitmap_set.proofs.Changes.{freezing_keeps, change_usable, usable_there, stands_at}
use Rattle.bitmap_set.proofs.set.BitmapSet.freeze.Goals as goal

pub invariant_of-self-2 : goal.invariant_of-self-2
invariant_of-self-2 c =
    let s : SetState = the_view c.self.inside in
    let found = c.in_ok-place.ensures in (
      (change_usable s c.args.self.now c.as_slice.result.now c.args.name.now c.in_ok-place.place c.index_mut-bitmap.result.now c.freeze.new.self when_frozen
          (freezing_keeps s.size)
          c.self.invariant.0 c.self.view_is c.as_slice.ensures.value found.ok found.usable c.index_mut-bitmap.ensures.value c.freeze.ensures).sound,
      c.self.invariant.1,
    )

pub returns-clause-step : goal.returns-clause-step
returns-clause-step c =
    let s : SetState = the_view c.self.inside in
    let found = c.in_ok-place.ensures in
    (change_usable s c.args.self.now c.as_slice.result.now c.args.name.now c.in_ok-place.place c.index_mut-bitmap.result.now c.freeze.new.self when_frozen
    (freezing_keeps s.size)
    c.self.invariant.0 c.self.view_is c.as_slice.ensures.value found.ok found.usable c.index_mut-bitmap.ensures.value c.freeze.ensures).step

pub returns-clause-base : goal.returns-clause-base
returns-clause-base c =
    let s : SetState = the_view c.self.inside in
    let found = c.in_ok-place.ensures in
    let old = c.index_mut-bitmap in
    let stands = stands_at s c.as_slice.result.now c.args.name.now c.in_ok-place.place old.result.now c.as_slice.ensures.value found.ok old.ensures.value in
    let there = usable_there s c.as_slice.result.now c.args.name.now c.in_ok-place.place old.result.now c.as_slice.ensures.value found.ok found.usable stands in
    let span = ap (λ (b : BitmapState). base_at c.args.p b) c.bitmap.view_is in
    ap (λ (t : SetState). option_map (base_at c.args.p) (named c.args.name.now t.bitmaps)) (sym c.self.view_is)
    ∙ ap (option_map (base_at c.args.p)) there.found ∙ ap (λ (b : Base). Some b) (sym (c.base_of-base.ensures ∙ span))
