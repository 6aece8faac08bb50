use Rattle.std.proofs.Common.{◌≡◌, ◌+◌, ◌≤◌, length, sym, ap, subst, ◌∙◌, rules}
use Rattle.span_algebra.specs.Timelines.{Extent}
use Rattle.bitmap_model.specs.Bitmaps.{after_write}
use Rattle.bitmap_set.specs.Sets.{SetState}
use Rattle.bitmap_set.specs.contracts.set.BitmapSet.{the_view}
use Rattle.bitmap_set.proofs.Places.{lent_back}
use Rattle.bitmap_set.proofs.Marking.{shaped_for, write_is_sound}
use Rattle.bitmap_set.proofs.set.BitmapSet.mark.Goals as goal

pub write_all-requires : goal.write_all-requires
write_all-requires c =
    let s : SetState = the_view c.self.inside in
    let e : Extent = record { at = c.args.at; size = c.args.length } in
    shaped_for s c.as_mut_slice.result.now e c.as_mut_slice.ensures.value c.self.invariant.0 (subst (λ (t : SetState). c.args.at + c.args.length ≤ t.size)
    (sym c.self.view_is) c.requires)

pub invariant_of-self : goal.invariant_of-self
invariant_of-self c =
    let s : SetState = the_view c.self.inside in
    let e : Extent = record { at = c.args.at; size = c.args.length } in
    let new = c.write_all.new.bitmaps in
    let long : length new ≡ c.self.inside.bitmaps.len = search rules in
    let is : new ≡ after_write e s.bitmaps = c.write_all.ensures ∙ ap (after_write e) c.as_mut_slice.ensures.value in
    (rw (lent_back c.self.inside.bitmaps.len new _ long, is) (write_is_sound s e c.self.invariant.0), c.self.invariant.1)
