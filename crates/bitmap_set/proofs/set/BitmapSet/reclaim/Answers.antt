use Rattle.std.proofs.Common.{rules}
use Rattle.bitmap_model.specs.Bitmap.{when_reclaimed}
use Rattle.bitmap_set.specs.Sets.{SetState}
use Rattle.bitmap_set.specs.contracts.set.BitmapSet.{the_view}
use Rattle.bitmap_set.specs.Places.{IsPlace}
use Rattle.bitmap_set.proofs.Changes.{reclaiming_keeps, change_busy}
use Rattle.bitmap_set.proofs.set.BitmapSet.reclaim.Goals as goal

pub invariant_of-self : goal.invariant_of-self
invariant_of-self c =
    let s : SetState = the_view c.self.inside in
    let old = c.index_mut-bitmap in
    let place : IsPlace c.args.name.now c.as_slice.result.now c.unwrap-place.result = search rules in
    let change = change_busy s c.args.self.now c.as_slice.result.now c.args.name.now c.unwrap-place.result old.result.now c.reclaim.new.self when_reclaimed
    (reclaiming_keeps s.size)
    c.self.invariant.0 c.self.view_is c.as_slice.ensures.value place c.requires old.ensures.value c.reclaim.ensures in
    (change.0, c.self.invariant.1)

pub returns : goal.returns
returns c =
    let s : SetState = the_view c.self.inside in
    let old = c.index_mut-bitmap in
    let place : IsPlace c.args.name.now c.as_slice.result.now c.unwrap-place.result = search rules in
    let change = change_busy s c.args.self.now c.as_slice.result.now c.args.name.now c.unwrap-place.result old.result.now c.reclaim.new.self when_reclaimed
    (reclaiming_keeps s.size)
    c.self.invariant.0 c.self.view_is c.as_slice.ensures.value place c.requires old.ensures.value c.reclaim.ensures in
    change.1
