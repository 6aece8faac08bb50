-- Granules that are put into a set one after another, and those that meet a range.
use Rattle.std.proofs.Common.{◌≡◌, ℕ, ◌+◌, ◌-◌, ◌*◌, ◌/◌, ◌<◌, ◌≤◌, min, max, Bool, true, false, ◌||◌, List, length, inl, inr, refl, sym, ◌∙◌, arith, rules}
use Rattle.std.proofs.lemmas.Bool.{cases_lt, lt-ltb, le-ltb, or_right}
use Rattle.std.specs.Prelude.{nat_lt}
use Rattle.span_algebra.specs.Timelines.{Extent}
use Rattle.span_algebra.specs.Spans.{granule}
use Rattle.bitmap_model.specs.Granules.{granules_in, is_in, meets, widened, IsFilled, GranuleSet, marked}
use Rattle.bitmap_model.proofs.Sets.{set_of-from, set_of-same}
use Rattle.bitmap_model.proofs.Places.{place_below, ends_before, ends_after, past_end}
use Rattle.std.proofs.lemmas.Grind.{common_steps}

pub or_none : (x y : Bool) → y ≡ false → x ≡ (x || y)
or_none true y none = refl
or_none false y none = sym none

-- they are those that meet the range
pub marked_all : (g at n : ℕ) (old new : List Bool) → 0 < g → 0 < n → IsFilled old new (at / g) (granules_in (at + n) g)
    → new ≡ widened g (record { at = at; size = n }) old
unfolding widened
marked_all g at n old new some full m =
    let e : Extent = record { at = at; size = n } in
    set_of-from (length old) (λ k. is_in old k || meets e (granule g k)) new m.count
    (λ k _. elim (cases_lt k (at / g)) [
      | inl before ↦ m.before k before ∙ or_none (is_in old k) (meets e (granule g k))
          (le-ltb (max at (k * g)) (min (at + n) (k * g + g)) (let p : k * g + g ≤ at = ends_before at g k before in omega arith))
      | inr from ↦
          elim (cases_lt k (granules_in (at + n) g)) [
            | inl inside ↦ m.inside k from inside ∙ sym (or_right (is_in old k) (meets e (granule g k))
                (lt-ltb (max at (k * g)) (min (at + n) (k * g + g))
                (let p : at < k * g + g = ends_after at g k some from in let q : k * g < at + n = place_below (at + n) g k some inside in omega arith)))
            | inr after ↦ m.after k after ∙ or_none (is_in old k) (meets e (granule g k))
                (le-ltb (max at (k * g)) (min (at + n) (k * g + g)) (let p : at + n ≤ k * g = past_end (at + n) g k some after in omega arith))
          ]
    ])

-- no granule meets an empty range
pub marked_nothing : (s : GranuleSet) (at n : ℕ) → n ≡ 0 → s ≡ marked s (record { at = at; size = n })
unfolding widened
marked_nothing s at n none = grind (arith, common_steps, set_of-from, or_none, le-ltb)

-- a granule meets another where it does before the disk's end
cut_meets : (at n size p g : ℕ) → at < size → p < size
    → nat_lt (max at p) (min (at + min n (size - at)) (p + g)) ≡ nat_lt (max at p) (min (at + n) (p + g))
cut_meets at n size p g inside below = search rules

pub marked-cut : (s : GranuleSet) (at n : ℕ) → 0 < s.granularity → length s.set ≡ granules_in s.size s.granularity → at < s.size
    → marked s (record { at = at; size = min n (s.size - at) }) ≡ marked s (record { at = at; size = n })
unfolding widened
marked-cut s at n some whole inside = grind (arith, common_steps, set_of-same, cut_meets, place_below)

pub marked_by : (s : GranuleSet) (at n past : ℕ) (old new : List Bool) → 0 < s.granularity → 0 < n → old ≡ s.set → past ≡ granules_in (at + n) s.granularity
    → IsFilled old new (at / s.granularity) past → record s { set = new } ≡ marked s (record { at = at; size = n })
marked_by s at n past old new some full same end filled = grind (arith, common_steps, marked_all)
