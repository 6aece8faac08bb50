use Rattle.bitmap_model.specs.Bitmap.{when_cleared}
use Rattle.bitmap_set.specs.Sets.{SetState}
use Rattle.bitmap_set.specs.contracts.set.BitmapSet.{the_view}
use Rattle.bitmap_set.proofs.Changes.{clearing_keeps, change_usable}
use Rattle.bitmap_set.proofs.set.BitmapSet.clear.Goals as goal

pub invariant_of-self : goal.invariant_of-self
invariant_of-self c =
    let s : SetState = the_view c.self.inside in
    let found = c.in_ok-place.ensures in (
      (change_usable s c.args.self.now c.as_slice.result.now c.args.name.now c.in_ok-place.place c.index_mut-bitmap.result.now c.clear.new.self (when_cleared
          c.args.p) (clearing_keeps s.size c.args.p)
          c.self.invariant.0 c.self.view_is c.as_slice.ensures.value found.ok found.usable c.index_mut-bitmap.ensures.value c.clear.ensures).sound,
      c.self.invariant.1,
    )

pub returns-clause-step : goal.returns-clause-step
returns-clause-step c =
    let s : SetState = the_view c.self.inside in
    let found = c.in_ok-place.ensures in
    (change_usable s c.args.self.now c.as_slice.result.now c.args.name.now c.in_ok-place.place c.index_mut-bitmap.result.now c.clear.new.self (when_cleared
    c.args.p) (clearing_keeps s.size c.args.p)
    c.self.invariant.0 c.self.view_is c.as_slice.ensures.value found.ok found.usable c.index_mut-bitmap.ensures.value c.clear.ensures).step
