use Rattle.std.proofs.Common.{◌≡◌, List, ◌∷◌, [], ◌++◌, sym, ap, subst, ◌∙◌, rules}
use Rattle.std.specs.Prelude.{None, Ok}
use Rattle.bitmap_model.specs.Bitmap.{BitmapState, StoredBitmap, restored}
use Rattle.bitmap_model.specs.Bitmaps.{after_restore}
use Rattle.bitmap_set.specs.Sets.{SetState}
use Rattle.bitmap_set.specs.contracts.set.BitmapSet.{the_view}
use Rattle.bitmap_set.specs.Answers.{Says}
use Rattle.bitmap_set.specs.Places.{IsRefusal, name_fault}
use Rattle.bitmap_set.proofs.Adding.{name_refused, none_refused, shaped_are_lawful, restore_is_sound}
use Rattle.bitmap_set.proofs.set.BitmapSet.restore_entry.Goals as goal

pub returns-in_err-admit-clause-step : goal.returns-in_err-admit-clause-step
returns-in_err-admit-clause-step c =
    let old = c.args.self.now in
    let e = c.args.entry in
    let said = c.in_err-admit.field-0.0 in
    let same : c.as_slice.result.now ≡ old.bitmaps = c.as_slice.ensures.value ∙ ap (λ (t : SetState). t.bitmaps) c.self.view_is in
    let refused = subst (λ (x : StoredBitmap). IsRefusal (name_fault x.name c.as_slice.result.now) said) c.entry.view_is c.in_err-admit.ensures.err in
    let says : Says said (after_restore e old.bitmaps) = name_refused e.bits.size e.name e.bits.granularity old.bitmaps c.as_slice.result.now _ said same
    refused in
    search rules

pub invariant_of-self : goal.invariant_of-self
invariant_of-self c =
    let s : SetState = the_view c.self.inside in
    let e = c.args.entry in
    let free = subst (λ (x : StoredBitmap). name_fault x.name c.as_slice.result.now ≡ None) c.entry.view_is c.in_ok-admit.ensures.ok in
    let sized : e.bits.size ≡ s.size = c.requires ∙ sym (ap (λ (t : SetState). t.size) c.self.view_is) in
    let is : c.push_reserved.new.self.items ≡ s.bitmaps ++ restored e ∷ [] = c.push_reserved.ensures.items
    ∙ ap (λ (b : BitmapState). s.bitmaps ++ b ∷ []) c.restore.ensures.restored in (
      restore_is_sound s c.as_slice.result.now c.push_reserved.new.self.items e c.self.invariant.0 c.as_slice.ensures.value free c.restore.ensures.shape sized
          is,
      search rules,
    )

pub returns-clause-step : goal.returns-clause-step
returns-clause-step c =
    let old = c.args.self.now in
    let e = c.args.entry in
    let new = c.push_reserved.new.self.items in
    let same : c.as_slice.result.now ≡ old.bitmaps = c.as_slice.ensures.value ∙ ap (λ (t : SetState). t.bitmaps) c.self.view_is in
    let free = subst (λ (x : StoredBitmap). name_fault x.name c.as_slice.result.now ≡ None) c.entry.view_is c.in_ok-admit.ensures.ok in
    let is : new ≡ old.bitmaps ++ restored e ∷ [] = c.push_reserved.ensures.items
    ∙ ap (λ (b : BitmapState). c.self.inside.bitmaps.items ++ b ∷ []) c.restore.ensures.restored
    ∙ ap (λ (t : SetState). t.bitmaps ++ restored e ∷ []) c.self.view_is in (
      none_refused e.bits.size e.name e.bits.granularity old.bitmaps c.as_slice.result.now _ same free (shaped_are_lawful e.bits c.restore.ensures.shape)
          ∙ ap (λ (l : List BitmapState). Ok l) (sym is),
      ap (λ (t : SetState). record t { bitmaps = new }) c.self.view_is,
    )
