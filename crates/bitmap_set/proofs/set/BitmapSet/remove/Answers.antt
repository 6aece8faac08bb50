use Rattle.std.proofs.Common.{rules}
use Rattle.bitmap_set.specs.Sets.{SetState}
use Rattle.bitmap_set.specs.contracts.set.BitmapSet.{the_view}
use Rattle.bitmap_set.proofs.Removing.{remove_free}
use Rattle.bitmap_set.proofs.set.BitmapSet.remove.Goals as goal

pub invariant_of-self : goal.invariant_of-self
invariant_of-self c =
    let s : SetState = the_view c.self.inside in (
      (remove_free s c.args.self.now c.as_slice.result.now c.args.name.now c.in_ok-place.place c.remove-removed.new.self.items c.self.invariant.0 c.self.view_is
          c.as_slice.ensures.value c.in_ok-place.ensures.ok c.in_ok-place.ensures.free c.remove-removed.ensures.items).sound,
      search rules,
    )

pub returns-clause-step : goal.returns-clause-step
returns-clause-step c =
    let s : SetState = the_view c.self.inside in
    (remove_free s c.args.self.now c.as_slice.result.now c.args.name.now c.in_ok-place.place c.remove-removed.new.self.items c.self.invariant.0 c.self.view_is
    c.as_slice.ensures.value c.in_ok-place.ensures.ok c.in_ok-place.ensures.free c.remove-removed.ensures.items).step
