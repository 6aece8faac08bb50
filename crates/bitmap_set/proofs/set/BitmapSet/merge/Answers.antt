use Rattle.std.proofs.Common.{◌≡◌, List, length, subst, rules}
use Rattle.bitmap_model.specs.Bitmap.{BitmapState}
use Rattle.bitmap_set.specs.Sets.{SetState}
use Rattle.bitmap_set.specs.contracts.set.BitmapSet.{the_view}
use Rattle.bitmap_set.proofs.Places.{lent_back}
use Rattle.bitmap_set.proofs.Marking.{shaped_for}
use Rattle.bitmap_set.proofs.Merging.{IsUsable, Joins, merge_usable}
use Rattle.bitmap_set.proofs.set.BitmapSet.merge.Goals as goal

pub merge_at-requires-clause-shapes : goal.merge_at-requires-clause-shapes
merge_at-requires-clause-shapes c =
    let s : SetState = the_view c.self.inside in
    shaped_for s c.as_mut_slice.result.now (record { at = 0; size = 0 }) c.as_mut_slice.ensures.value c.self.invariant.0 (search rules)

pub invariant_of-self : goal.invariant_of-self
invariant_of-self c =
    let s : SetState = the_view c.self.inside in
    let u : IsUsable s c.as_slice.result.now c.args.target.now c.in_ok-to.to =
    record { same = c.as_slice.ensures.value; place = c.in_ok-to.ensures.ok; usable = c.in_ok-to.ensures.usable } in
    let v : IsUsable s c.as_slice-2.result.now c.args.source.now c.in_ok-from.from =
    record { same = c.as_slice-2.ensures.value; place = c.in_ok-from.ensures.ok; usable = c.in_ok-from.ensures.usable } in
    let new = c.merge_at.new.bitmaps in
    let long : length new ≡ c.self.inside.bitmaps.len = search rules in
    let joins : Joins s.bitmaps c.in_ok-to.to c.in_ok-from.from c.args.p new =
    subst (λ (l : List BitmapState). Joins l c.in_ok-to.to c.in_ok-from.from c.args.p new) c.as_mut_slice.ensures.value c.merge_at.ensures in (
      rw (lent_back c.self.inside.bitmaps.len new _ long)
          (merge_usable s c.args.self.now _ _ c.args.target.now c.args.source.now _ _ c.args.p new c.self.invariant.0 c.self.view_is u v joins).sound,
      c.self.invariant.1,
    )

pub returns-clause-step : goal.returns-clause-step
returns-clause-step c =
    let s : SetState = the_view c.self.inside in
    let u : IsUsable s c.as_slice.result.now c.args.target.now c.in_ok-to.to =
    record { same = c.as_slice.ensures.value; place = c.in_ok-to.ensures.ok; usable = c.in_ok-to.ensures.usable } in
    let v : IsUsable s c.as_slice-2.result.now c.args.source.now c.in_ok-from.from =
    record { same = c.as_slice-2.ensures.value; place = c.in_ok-from.ensures.ok; usable = c.in_ok-from.ensures.usable } in
    let new = c.merge_at.new.bitmaps in
    let long : length new ≡ c.self.inside.bitmaps.len = search rules in
    let joins : Joins s.bitmaps c.in_ok-to.to c.in_ok-from.from c.args.p new =
    subst (λ (l : List BitmapState). Joins l c.in_ok-to.to c.in_ok-from.from c.args.p new) c.as_mut_slice.ensures.value c.merge_at.ensures in
    rw (lent_back c.self.inside.bitmaps.len new _ long)
    (merge_usable s c.args.self.now _ _ c.args.target.now c.args.source.now _ _ c.args.p new c.self.invariant.0 c.self.view_is u v joins).step
