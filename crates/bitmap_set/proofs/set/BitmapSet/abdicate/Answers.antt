use Rattle.std.proofs.Common.{rules}
use Rattle.bitmap_model.specs.Bitmap.{when_abdicated}
use Rattle.bitmap_set.specs.Sets.{SetState}
use Rattle.bitmap_set.specs.contracts.set.BitmapSet.{the_view}
use Rattle.bitmap_set.specs.Places.{IsPlace}
use Rattle.bitmap_set.proofs.Changes.{abdicating_keeps, change_busy}
use Rattle.bitmap_set.proofs.set.BitmapSet.abdicate.Goals as goal

pub invariant_of-self : goal.invariant_of-self
invariant_of-self c =
    let s : SetState = the_view c.self.inside in
    let old = c.index_mut-bitmap in
    let place : IsPlace c.args.name.now c.as_slice.result.now c.unwrap-place.result = search rules in
    let change = change_busy s c.args.self.now c.as_slice.result.now c.args.name.now c.unwrap-place.result old.result.now c.abdicate.new.self (when_abdicated
    c.args.p) (abdicating_keeps s.size c.args.p)
    c.self.invariant.0 c.self.view_is c.as_slice.ensures.value place c.requires old.ensures.value c.abdicate.ensures in
    (change.0, c.self.invariant.1)

pub returns : goal.returns
returns c =
    let s : SetState = the_view c.self.inside in
    let old = c.index_mut-bitmap in
    let place : IsPlace c.args.name.now c.as_slice.result.now c.unwrap-place.result = search rules in
    let change = change_busy s c.args.self.now c.as_slice.result.now c.args.name.now c.unwrap-place.result old.result.now c.abdicate.new.self (when_abdicated
    c.args.p) (abdicating_keeps s.size c.args.p)
    c.self.invariant.0 c.self.view_is c.as_slice.ensures.value place c.requires old.ensures.value c.abdicate.ensures in
    change.1
