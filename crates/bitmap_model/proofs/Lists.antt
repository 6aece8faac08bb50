-- Lists of bitmaps: which bitmap has a name, and what each change keeps.
use Rattle.std.proofs.lemmas.Grind.{common_steps}
use Rattle.std.proofs.Common.{rules, arith, ◌≡◌, ℕ, List, [], ◌∷◌, ◌++◌, length, map, Bool, true, false, not, inl, inr, refl, sym, ap, subst, ◌∙◌}
use Rattle.std.specs.Prelude.{All, Some, None, bytes_eq, filter, if◌then◌else◌}
use Rattle.std.specs.List.{list_any}
use Rattle.std.specs.Option.{option_map}
use Rattle.std.proofs.lemmas.List.Elements.{All-cons, All-head, All-tail, All-filter, All-weaker}
use Rattle.std.proofs.lemmas.List.Folds.{list_any-append}
use Rattle.std.proofs.lemmas.Option.{same_Some}
use Rattle.std.proofs.lemmas.Bool.{cases_Bool, or_parts, or_from, not-false}
use Rattle.span_algebra.specs.declared.points.Point.{Point}
use Rattle.span_algebra.specs.Timelines.{Extent}
use Rattle.bitmap_model.specs.Bitmap.{BitmapState, when_written, when_enabled, when_disabled}
use Rattle.bitmap_model.specs.Bitmaps.{is_named, named, AreApart, changed, after_write}
use Rattle.bitmap_model.proofs.Writes.{written_name}

-- ---- names

pub same_bytes : (a b : List ℕ) → bytes_eq a b ≡ true → a ≡ b
same_bytes a b h = search rules

pub same_bytes-itself : (a : List ℕ) → bytes_eq a a ≡ true
same_bytes-itself a = search rules

pub other_bytes : (a b : List ℕ) → (a ≡ b → ⊥) → bytes_eq a b ≡ false
other_bytes a b other = search rules

pub same_bytes-back : (a b : List ℕ) → bytes_eq a b ≡ false → bytes_eq b a ≡ false
same_bytes-back a b h = search rules

-- ---- which bitmap has a name

-- one more in front
pub named_here : (name : List ℕ) (b : BitmapState) (bs : List BitmapState) → is_named name b ≡ true → named name (b ∷ bs) ≡ Some b
named_here name b bs h = search rules

pub named_later : (name : List ℕ) (b : BitmapState) (bs : List BitmapState) → is_named name b ≡ false → named name (b ∷ bs) ≡ named name bs
named_later name b bs h = search rules

-- what is so of each bitmap of that name is so of the one that is found
found_holds : (name : List ℕ) (bs : List BitmapState) (b : BitmapState) (P : BitmapState → Type 0)
    → All (λ c. is_named name c ≡ true → P c) bs → named name bs ≡ Some b → P b
found_holds name [] b P all h = search rules
found_holds name (c ∷ bs) b P all h =
    elim (cases_Bool (is_named name c)) [
      | inl here ↦ subst P (same_Some c b (sym (named_here name c bs here) ∙ h)) (All-head (λ d. is_named name d ≡ true → P d) c bs all here)
      | inr other ↦ found_holds name bs b P (All-tail (λ d. is_named name d ≡ true → P d) c bs all) (sym (named_later name c bs other) ∙ h)
    ]

pub named_is : (name : List ℕ) (bs : List BitmapState) (b : BitmapState) → named name bs ≡ Some b → is_named name b ≡ true
named_is name bs b h = found_holds name bs b (λ c. is_named name c ≡ true) (λ k d below here. here) h

pub named_name : (name : List ℕ) (bs : List BitmapState) (b : BitmapState) → named name bs ≡ Some b → b.name ≡ name
named_name name bs b h = sym (same_bytes name b.name (named_is name bs b h))

pub named_all : (P : BitmapState → Type 0) (name : List ℕ) (bs : List BitmapState) (b : BitmapState) → All P bs → named name bs ≡ Some b → P b
named_all P name bs b all h = found_holds name bs b P (All-weaker P (λ c. is_named name c ≡ true → P c) (λ c here same. here) bs all) h

pub untaken_named : (name : List ℕ) (bs : List BitmapState) → list_any (is_named name) bs ≡ false → named name bs ≡ None
untaken_named name [] h = refl
untaken_named name (c ∷ bs) h = grind (arith, common_steps, or_parts, named_later, untaken_named name bs)

-- ---- lists with the same names

names_any : (name : List ℕ) (bs : List BitmapState) → list_any (is_named name) bs ≡ list_any (bytes_eq name) (map (λ (b : BitmapState). b.name) bs)
names_any name [] = refl
names_any name (b ∷ bs) = grind (arith, common_steps, names_any name bs)

pub same_names_apart : (cs bs : List BitmapState) → map (λ (b : BitmapState). b.name) cs ≡ map (λ (b : BitmapState). b.name) bs → AreApart cs → AreApart bs
same_names_apart cs [] e apart = tt
same_names_apart [] (b ∷ bs) e apart = absurd (cc)
same_names_apart (a ∷ cs) (b ∷ bs) e apart = grind (arith, common_steps, same_names_apart cs bs, names_any)

-- ---- a change of each bitmap

pub mapped_names : (f : BitmapState → BitmapState) (bs : List BitmapState) → ((b : BitmapState) → (f b).name ≡ b.name)
    → map (λ (b : BitmapState). b.name) (map f bs) ≡ map (λ (b : BitmapState). b.name) bs
mapped_names f [] keeps = refl
mapped_names f (b ∷ bs) keeps = grind (arith, common_steps, mapped_names f bs keeps)

pub mapped_apart : (f : BitmapState → BitmapState) (bs : List BitmapState) → ((b : BitmapState) → (f b).name ≡ b.name) → AreApart bs → AreApart (map f bs)
mapped_apart f bs keeps apart = same_names_apart bs (map f bs) (sym (mapped_names f bs keeps)) apart

pub mapped_named : (f : BitmapState → BitmapState) (name : List ℕ) (bs : List BitmapState) → ((b : BitmapState) → (f b).name ≡ b.name)
    → named name (map f bs) ≡ option_map f (named name bs)
mapped_named f name [] keeps = refl
mapped_named f name (b ∷ bs) keeps = grind (arith, common_steps, cases_Bool, named_here, named_later, mapped_named f name bs keeps)

-- ---- a write

pub after_write_length : (e : Extent) (bs : List BitmapState) → length (after_write e bs) ≡ length bs
after_write_length e bs = grind (arith, common_steps)

pub after_write_apart : (e : Extent) (bs : List BitmapState) → AreApart bs → AreApart (after_write e bs)
after_write_apart e bs apart = mapped_apart (when_written e) bs (written_name e) apart

pub after_write_named : (e : Extent) (name : List ℕ) (bs : List BitmapState) → named name (after_write e bs) ≡ option_map (when_written e) (named name bs)
after_write_named e name bs = mapped_named (when_written e) name bs (written_name e)

-- ---- a change of the bitmap of one name

-- the change, where the bitmap has the name
abbrev pub change_if : (BitmapState → BitmapState) → List ℕ → BitmapState → BitmapState
change_if change name b = if is_named name b then change b else b

change_if-named : (change : BitmapState → BitmapState) (name : List ℕ) (b : BitmapState) → is_named name b ≡ true → change_if change name b ≡ change b
change_if-named change name b h = search rules

change_if-other : (change : BitmapState → BitmapState) (name : List ℕ) (b : BitmapState) → is_named name b ≡ false → change_if change name b ≡ b
change_if-other change name b h = search rules

pub changed_length : (change : BitmapState → BitmapState) (name : List ℕ) (bs : List BitmapState) → length (changed change name bs) ≡ length bs
changed_length change name bs = grind (arith, common_steps)

pub changed_apart : (change : BitmapState → BitmapState) (name : List ℕ) (bs : List BitmapState) → ((b : BitmapState) → (change b).name ≡ b.name)
    → AreApart bs → AreApart (changed change name bs)
changed_apart change name bs keeps apart = grind (arith, common_steps, mapped_apart)

pub changed_untaken : (change : BitmapState → BitmapState) (name : List ℕ) (bs : List BitmapState) → list_any (is_named name) bs ≡ false
    → changed change name bs ≡ bs
changed_untaken change name [] h = refl
changed_untaken change name (b ∷ bs) h = grind (arith, common_steps, or_parts, change_if-other, changed_untaken change name bs)

-- where names differ pairwise, all stays so if it is so of the changed bitmap
pub changed_all_at : (P : BitmapState → Type 0) (change : BitmapState → BitmapState) (name : List ℕ) (bs : List BitmapState) (b : BitmapState)
    → AreApart bs → named name bs ≡ Some b → P (change b) → All P bs → All P (changed change name bs)
changed_all_at P change name [] b apart h here all = search rules
changed_all_at P change name (c ∷ bs) b apart h here all =
    elim (cases_Bool (is_named name c)) [
      | inl is ↦
          let same : c ≡ b = same_Some c b (sym (named_here name c bs is) ∙ h) in
          let free : list_any (is_named name) bs ≡ false = ap (λ (n : List ℕ). list_any (is_named n) bs) (same_bytes name c.name is) ∙ apart.0 in
          All-cons P (change_if change name c) (changed change name bs)
          (subst P (sym (change_if-named change name c is ∙ ap change same)) here)
          (subst (All P) (sym (changed_untaken change name bs free)) (All-tail P c bs all))
      | inr other ↦
          All-cons P (change_if change name c) (changed change name bs)
          (subst P (sym (change_if-other change name c other)) (All-head P c bs all))
          (changed_all_at P change name bs b apart.1 (sym (named_later name c bs other) ∙ h) here (All-tail P c bs all))
    ]

-- the name finds the changed bitmap
pub changed_named : (change : BitmapState → BitmapState) (name : List ℕ) (bs : List BitmapState) (b : BitmapState) → (change b).name ≡ b.name
    → named name bs ≡ Some b → named name (changed change name bs) ≡ Some (change b)
changed_named change name [] b keeps h = search rules
changed_named change name (c ∷ bs) b keeps h = grind (arith, common_steps, cases_Bool, change_if-named, same_Some, named_here, named_is, named_later, change_if-other, changed_named change name bs b)

-- another name finds what it found
pub changed_other : (change : BitmapState → BitmapState) (name other : List ℕ) (bs : List BitmapState) → (other ≡ name → ⊥)
    → ((b : BitmapState) → (change b).name ≡ b.name) → named other (changed change name bs) ≡ named other bs
changed_other change name other [] apart keeps = refl
changed_other change name other (c ∷ bs) apart keeps = grind (arith, common_steps, cases_Bool, other_bytes, same_bytes, named_later, change_if-other, changed_other change name other bs)

-- ---- a bitmap that is removed

pub filter_untaken : (test p : BitmapState → Bool) (bs : List BitmapState) → list_any test bs ≡ false → list_any test (filter p bs) ≡ false
filter_untaken test p [] h = refl
filter_untaken test p (b ∷ bs) h = grind (arith, common_steps, or_parts, or_from, filter_untaken test p bs)

pub filter_apart : (p : BitmapState → Bool) (bs : List BitmapState) → AreApart bs → AreApart (filter p bs)
filter_apart p [] apart = tt
filter_apart p (b ∷ bs) apart = grind (arith, common_steps, filter_untaken, filter_apart p bs)

pub removed_all : (P : BitmapState → Type 0) (name : List ℕ) (bs : List BitmapState) → All P bs → All P (filter (λ b. not (is_named name b)) bs)
removed_all P name bs all = All-filter (λ b. not (is_named name b)) P bs all

pub removed_apart : (name : List ℕ) (bs : List BitmapState) → AreApart bs → AreApart (filter (λ b. not (is_named name b)) bs)
removed_apart name bs apart = grind (arith, common_steps, filter_apart)

-- and another name what it found
pub removed_other : (name other : List ℕ) (bs : List BitmapState) → (other ≡ name → ⊥) → named other (filter (λ b. not (is_named name b)) bs) ≡ named other bs
removed_other name other [] apart = refl
removed_other name other (b ∷ bs) apart = grind (arith, common_steps, other_bytes, same_bytes, not-false, named_later, removed_other name other bs)

-- ---- a bitmap that is added

pub added_apart : (bs : List BitmapState) (b : BitmapState) → list_any (is_named b.name) bs ≡ false → AreApart bs → AreApart (bs ++ b ∷ [])
added_apart [] b free apart = (refl, tt)
added_apart (c ∷ bs) b free apart = grind (arith, common_steps, or_parts, list_any-append, or_from, same_bytes-back, added_apart bs b)

-- and another name what it found
pub added_other : (name : List ℕ) (bs : List BitmapState) (b : BitmapState) → (name ≡ b.name → ⊥) → named name (bs ++ b ∷ []) ≡ named name bs
added_other name [] b apart = search rules
added_other name (c ∷ bs) b apart = grind (arith, common_steps, added_other name bs b)

-- ---- names of changed bitmaps

pub enabled_name : (p : Point) (b : BitmapState) → (when_enabled p b).name ≡ b.name
enabled_name p b = search rules

pub disabled_name : (p : Point) (b : BitmapState) → (when_disabled p b).name ≡ b.name
disabled_name p b = search rules
