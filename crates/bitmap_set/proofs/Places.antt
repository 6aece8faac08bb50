-- Bitmaps at places of a list.
use Rattle.std.proofs.lemmas.Grind.{common_steps}
use Rattle.std.proofs.Common.{rules, arith, ◌≡◌, ℕ, zero, suc, ◌+◌, ◌-◌, ◌<◌, ◌≤◌, List, [], ◌∷◌, ◌++◌, length, take, drop, get_or, true, false, inl, inr, sym, ap, ◌∙◌, refl, length-take}
use Rattle.std.proofs.lemmas.List.{set-append_left, set-append_right, take-append-drop}
use Rattle.std.proofs.lemmas.Option.{get_or_from_slice_get}
use Rattle.std.proofs.lemmas.Map.Keys.{any_passes_from_place}
use Rattle.std.proofs.lemmas.Bool.{cases_Bool, or_parts}
use Rattle.std.specs.Prelude.{Some, slice_set, map, filter, not, remove}
use Rattle.std.specs.List.{slice_get, list_any}
use Rattle.span_algebra.specs.declared.points.Point.{Point}
use Rattle.bitmap_model.specs.Bitmap.{BitmapState, when_merged}
use Rattle.bitmap_model.specs.Bitmaps.{is_named, named, changed, AreApart}
use Rattle.bitmap_model.proofs.Lists.{named_here, named_later, changed_untaken, same_bytes}

-- the rest of a list begins with what stands at its place
pub named_at : (name : List ℕ) (bs : List BitmapState) (i : ℕ) (b : BitmapState) → i < length bs → b ≡ get_or bs i b → is_named name b ≡ true
    → named name (drop i bs) ≡ slice_get bs i
named_at name [] i b below is here = search rules
named_at name (c ∷ bs) zero b below is here = grind (arith, common_steps, named_here)
named_at name (c ∷ bs) (suc i) b below is here = grind (arith, common_steps, named_at name bs i b)

pub named_past : (name : List ℕ) (bs : List BitmapState) (i : ℕ) (b : BitmapState) → i < length bs → b ≡ get_or bs i b → is_named name b ≡ false
    → named name (drop i bs) ≡ named name (drop (i + 1) bs)
named_past name [] i b below is here = search rules
named_past name (c ∷ bs) zero b below is here = grind (arith, common_steps, named_later)
named_past name (c ∷ bs) (suc i) b below is here = grind (arith, common_steps, named_past name bs i b)

-- a change in the first part, and one at the start of the rest
pub set_in_front : (bs : List BitmapState) (m i : ℕ) (b : BitmapState) → i < m → m ≤ length bs → slice_set (take m bs) i b ++ drop m bs ≡ slice_set bs i b
set_in_front bs m i b below most =
    sym (set-append_left (take m bs) (drop m bs) i b (omega (arith, length-take m bs))) ∙ ap (λ (l : List BitmapState). slice_set l i b) (take-append-drop m bs)

pub set_behind : (bs : List BitmapState) (m : ℕ) (b : BitmapState) → m < length bs → take m bs ++ slice_set (drop m bs) 0 b ≡ slice_set bs m b
set_behind bs m b below =
    let at : m - m ≡ 0 = omega arith in
    ap (λ (k : ℕ). take m bs ++ slice_set (drop m bs) k b) (sym at)
    ∙ sym (set-append_right (take m bs) (drop m bs) m m b (omega (arith, length-take m bs)) (omega arith))
    ∙ ap (λ (l : List BitmapState). slice_set l m b) (take-append-drop m bs)

-- one more bitmap of a list is changed
pub mapped_more : (f : BitmapState → BitmapState) (bs : List BitmapState) (i : ℕ) (b : BitmapState) → i < length bs → b ≡ get_or bs i b
    → slice_set (map f (take i bs) ++ drop i bs) i (f b) ≡ map f (take (i + 1) bs) ++ drop (i + 1) bs
mapped_more f [] i b below is = search rules
mapped_more f (c ∷ bs) zero b below is = grind (arith, common_steps)
mapped_more f (c ∷ bs) (suc i) b below is = grind (arith, common_steps, mapped_more f bs i b)

-- and that bitmap is still as it was
pub mapped_here : (f : BitmapState → BitmapState) (bs : List BitmapState) (i : ℕ) (d : BitmapState) → i < length bs
    → get_or (map f (take i bs) ++ drop i bs) i d ≡ get_or bs i d
mapped_here f bs i d below = grind (arith, common_steps)

-- ---- where names differ pairwise

-- no later bitmap has the name of the first one
first_alone : (name : List ℕ) (c : BitmapState) (bs : List BitmapState) → AreApart (c ∷ bs) → is_named name c ≡ true → list_any (is_named name) bs ≡ false
first_alone name c bs apart here = ap (λ (n : List ℕ). list_any (is_named n) bs) (same_bytes name c.name here) ∙ apart.0

not_first : (name : List ℕ) (c : BitmapState) (bs : List BitmapState) (i : ℕ) (b : BitmapState) → AreApart (c ∷ bs) → slice_get bs i ≡ Some b
    → is_named name b ≡ true
    → is_named name c ≡ false
not_first name c bs i b apart at here =
    elim (cases_Bool (is_named name c)) [
      | inl is ↦ let some = any_passes_from_place (is_named name) bs i b at here in let none = first_alone name c bs apart is in cc
      | inr other ↦ other
    ]

-- the bitmap at the place of its name is the one that changes
pub changed_at : (f : BitmapState → BitmapState) (name : List ℕ) (bs : List BitmapState) (i : ℕ) (b : BitmapState) → AreApart bs → slice_get bs i ≡ Some b
    → is_named name b ≡ true → slice_set bs i (f b) ≡ changed f name bs
changed_at f name [] i b apart at here = search rules
changed_at f name (c ∷ bs) zero b apart at here = grind (arith, common_steps, first_alone, changed_untaken)
changed_at f name (c ∷ bs) (suc i) b apart at here = grind (arith, common_steps, not_first, changed_at f name bs i b)

-- or that goes
none_removed : (name : List ℕ) (bs : List BitmapState) → list_any (is_named name) bs ≡ false → filter (λ b. not (is_named name b)) bs ≡ bs
none_removed name [] none = refl
none_removed name (c ∷ bs) none = grind (arith, common_steps, or_parts, none_removed name bs)

pub removed_at : (name : List ℕ) (bs : List BitmapState) (i : ℕ) (b : BitmapState) → AreApart bs → slice_get bs i ≡ Some b → is_named name b ≡ true
    → remove bs i ≡ filter (λ b. not (is_named name b)) bs
removed_at name [] i b apart at here = search rules
removed_at name (c ∷ bs) zero b apart at here = grind (arith, common_steps, first_alone, none_removed)
removed_at name (c ∷ bs) (suc i) b apart at here = grind (arith, common_steps, not_first, removed_at name bs i b)

-- ---- the parts of a list that was split

-- what stands in the first part, and at the start of the rest
front_is : (bs : List BitmapState) (m i : ℕ) (b d : BitmapState) → i < m → slice_get bs i ≡ Some b → get_or (take m bs) i d ≡ b
front_is bs m i b d below at = grind (arith, common_steps, get_or_from_slice_get)

behind_is : (bs : List BitmapState) (m : ℕ) (b d : BitmapState) → slice_get bs m ≡ Some b → get_or (drop m bs) 0 d ≡ b
behind_is bs m b d at = grind (arith, common_steps, get_or_from_slice_get)

-- a bitmap of the one part joins one of the other
pub merged_in_front : (bs before after : List BitmapState) (to from : ℕ) (p : Point) (target source t s new : BitmapState) → to < from → from < length bs
    → before ≡ take from bs → after ≡ drop from bs → slice_get bs to ≡ Some target → slice_get bs from ≡ Some source
    → new ≡ when_merged (get_or after 0 s) p (get_or before to t) → slice_set before to new ++ after ≡ slice_set bs to (when_merged source p target)
merged_in_front bs before after to from p target source t s new order inside is_before is_after at_to at_from is =
    rw (is, is_before, is_after, front_is bs from to target t order at_to, behind_is bs from source s at_from)
    (set_in_front bs from to (when_merged source p target) order (omega arith))

pub merged_behind : (bs before after : List BitmapState) (to from : ℕ) (p : Point) (target source t s new : BitmapState) → from < to → to < length bs
    → before ≡ take to bs → after ≡ drop to bs → slice_get bs to ≡ Some target → slice_get bs from ≡ Some source
    → new ≡ when_merged (get_or before from s) p (get_or after 0 t) → before ++ slice_set after 0 new ≡ slice_set bs to (when_merged source p target)
merged_behind bs before after to from p target source t s new order inside is_before is_after at_to at_from is =
    rw (is, is_before, is_after, front_is bs to from source s order at_from, behind_is bs to target t at_to)
    (set_behind bs to (when_merged source p target) inside)

-- a slice that was lent out comes back whole
pub lent_back : (n : ℕ) (xs ys : List BitmapState) → length xs ≡ n → take n (xs ++ ys) ≡ xs
lent_back n xs ys long = grind (arith, common_steps)
