use Rattle.std.proofs.Common.{◌≡◌, ℕ, List, [], ◌∷◌, ◌++◌, sym, ap, subst, ◌∙◌, rules}
use Rattle.std.specs.Prelude.{unwrap_or, None, Some, Ok, IfSome}
use Rattle.bitmap_model.specs.Bitmap.{BitmapState, new_bitmap}
use Rattle.bitmap_model.specs.Bitmaps.{after_add}
use Rattle.bitmap_set.specs.Sets.{SetState}
use Rattle.bitmap_set.specs.contracts.set.BitmapSet.{the_view}
use Rattle.bitmap_set.specs.Answers.{Says, fault_said}
use Rattle.bitmap_set.specs.Places.{bits_fault}
use Rattle.bitmap_set.proofs.Adding.{name_refused, bits_refused, none_refused, add_is_sound}
use Rattle.bitmap_set.proofs.set.BitmapSet.add.Goals as goal

pub returns-in_err-admit : goal.returns-in_err-admit
returns-in_err-admit c =
    let old = c.args.self.now in
    let same : c.as_slice.result.now ≡ old.bitmaps = c.as_slice.ensures.value ∙ ap (λ (t : SetState). t.bitmaps) c.self.view_is in
    let says : Says c.in_err-admit.field-0.0 (after_add old.size c.args.name.now (unwrap_or c.args.granularity old.granularity) c.args.recording
    c.args.persistent c.args.p old.bitmaps) =
    name_refused old.size c.args.name.now (unwrap_or c.args.granularity old.granularity) old.bitmaps c.as_slice.result.now _ c.in_err-admit.field-0.0 same
    c.in_err-admit.ensures.err in
    search rules

pub returns-in_err-bitmap : goal.returns-in_err-bitmap
returns-in_err-bitmap c =
    let old = c.args.self.now in
    let g : ℕ = unwrap_or c.args.granularity old.granularity in
    let said = c.in_err-bitmap.field-0.0 in
    let same : c.as_slice.result.now ≡ old.bitmaps = c.as_slice.ensures.value ∙ ap (λ (t : SetState). t.bitmaps) c.self.view_is in
    let grain : c.unwrap_or-granularity.result ≡ g = c.unwrap_or-granularity.ensures
    ∙ ap (λ (t : SetState). unwrap_or c.args.granularity t.granularity) c.self.view_is in
    let size : c.self.inside.size ≡ old.size = ap (λ (t : SetState). t.size) c.self.view_is in
    let refused = subst (λ (n : ℕ). IfSome (fault_said said) (λ fault. bits_fault n g ≡ Some fault)) size
    (subst (λ (n : ℕ). IfSome (fault_said said) (λ fault. bits_fault c.self.inside.size n ≡ Some fault)) grain c.in_err-bitmap.ensures.err) in
    let says : Says said (after_add old.size c.args.name.now g c.args.recording c.args.persistent c.args.p old.bitmaps) =
    bits_refused old.size c.args.name.now g old.bitmaps c.as_slice.result.now _ said same c.in_ok-admit.ensures.ok refused in
    search rules

pub invariant_of-self : goal.invariant_of-self
invariant_of-self c =
    let s : SetState = the_view c.self.inside in
    let made = c.in_ok-bitmap.ensures in
    let is : c.push_reserved.new.self.items ≡ s.bitmaps ++ new_bitmap s.size c.args.name.now c.unwrap_or-granularity.result c.args.recording c.args.persistent
    c.args.p ∷ [] =
    c.push_reserved.ensures.items ∙ ap (λ (b : BitmapState). s.bitmaps ++ b ∷ []) made.ok in (
      add_is_sound s c.as_slice.result.now c.push_reserved.new.self.items c.args.name.now c.unwrap_or-granularity.result c.args.recording c.args.persistent
          c.args.p
          c.self.invariant.0 c.as_slice.ensures.value c.in_ok-admit.ensures.ok made.lawful is,
      search rules,
    )

pub returns : goal.returns
returns c =
    let old = c.args.self.now in
    let g : ℕ = unwrap_or c.args.granularity old.granularity in
    let new = c.push_reserved.new.self.items in
    let made = c.in_ok-bitmap.ensures in
    let same : c.as_slice.result.now ≡ old.bitmaps = c.as_slice.ensures.value ∙ ap (λ (t : SetState). t.bitmaps) c.self.view_is in
    let grain : c.unwrap_or-granularity.result ≡ g = c.unwrap_or-granularity.ensures
    ∙ ap (λ (t : SetState). unwrap_or c.args.granularity t.granularity) c.self.view_is in
    let size : c.self.inside.size ≡ old.size = ap (λ (t : SetState). t.size) c.self.view_is in
    let lawful : bits_fault old.size g ≡ None = ap (λ (n : ℕ). bits_fault n g) (sym size) ∙ ap (bits_fault c.self.inside.size) (sym grain) ∙ made.lawful in
    let is : new ≡ old.bitmaps ++ new_bitmap old.size c.args.name.now g c.args.recording c.args.persistent c.args.p ∷ [] =
    c.push_reserved.ensures.items
    ∙ ap (λ (b : BitmapState). c.self.inside.bitmaps.items ++ b ∷ [])
    (made.ok ∙ ap (λ (n : ℕ). new_bitmap c.self.inside.size c.args.name.now n c.args.recording c.args.persistent c.args.p) grain)
    ∙ ap (λ (t : SetState). t.bitmaps ++ new_bitmap t.size c.args.name.now g c.args.recording c.args.persistent c.args.p ∷ []) c.self.view_is in (
      none_refused old.size c.args.name.now g old.bitmaps c.as_slice.result.now _ same c.in_ok-admit.ensures.ok lawful
          ∙ ap (λ (l : List BitmapState). Ok l) (sym is),
      ap (λ (t : SetState). record t { bitmaps = new }) c.self.view_is,
    )
