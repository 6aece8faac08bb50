-- What marked and merged sets have, and which bytes they cover.
use Rattle.std.proofs.lemmas.Grind.{common_steps}
use Rattle.std.proofs.Common.{rules, ◌≡◌, ℕ, zero, suc, ◌+◌, ◌/◌, ◌<◌, ◌≤◌, Bool, true, ◌&&◌, ◌||◌, List, length, arith}
use Rattle.std.specs.List.{list_any, range_with_len}
use Rattle.std.proofs.lemmas.Bool.{cases_Bool, cases_eq, or_cases, or_left, or_right, and_parts, and_from}
use Rattle.span_algebra.specs.Timelines.{Extent}
use Rattle.span_algebra.specs.Spans.{granule, Overlap}
use Rattle.bitmap_model.specs.Granules.{is_in, meets, meets_some, widened, united, GranuleSet, IsShaped}
use Rattle.bitmap_model.proofs.Places.{granularity-least, granule_from, granule_to}
use Rattle.bitmap_model.proofs.Sets.{is_in-set_of, length-set_of, in_length}

pub is_in-widened : (g : ℕ) (e : Extent) (set : List Bool) (k : ℕ) → k < length set → is_in (widened g e set) k ≡ (is_in set k || meets e (granule g k))
unfolding widened
is_in-widened g e set k below = grind (arith, common_steps, is_in-set_of)

pub length-widened : (g : ℕ) (e : Extent) (set : List Bool) → length (widened g e set) ≡ length set
unfolding widened
length-widened g e set = grind (arith, common_steps, length-set_of)

pub is_in-united : (g h : ℕ) (set other : List Bool) (k : ℕ) → k < length set → is_in (united g set h other) k ≡ (is_in set k || meets_some (granule g k) h other)
unfolding united
is_in-united g h set other k below = grind (arith, common_steps, is_in-set_of)

pub length-united : (g h : ℕ) (set other : List Bool) → length (united g set h other) ≡ length set
unfolding united
length-united g h set other = grind (arith, common_steps, length-set_of)

pub meets-from : (e f : Extent) → Overlap e f → meets e f ≡ true
meets-from e f h = search rules

-- the granule of a byte of the disk
pub granule_there : (s : GranuleSet) (x : ℕ) → IsShaped s → x < s.size → x / s.granularity < length s.set
granule_there s x shaped inside = grind (arith, common_steps)

-- one of so many numbers passes a test
pub any_from : (p : ℕ → Bool) (a n j : ℕ) → a ≤ j → j < a + n → p j ≡ true → list_any p (range_with_len a n) ≡ true
any_from p a zero j low high here = search rules
any_from p a (suc n) j low high here = grind (arith, common_steps, cases_eq, or_left, or_right, any_from p (a + 1) n j)

pub any_found : (p : ℕ → Bool) (a n : ℕ) → list_any p (range_with_len a n) ≡ true → (j : ℕ) × (p j ≡ true)
any_found p a zero h = search rules
any_found p a (suc n) h = grind (arith, common_steps, or_cases, any_found p (a + 1) n)

-- a range meets a granule of a set
pub some_from : (e : Extent) (h : ℕ) (set : List Bool) (j : ℕ) → is_in set j ≡ true → Overlap (granule h j) e → meets_some e h set ≡ true
some_from e h set j here over =
    any_from (λ i. is_in set i && meets (granule h i) e) 0 (length set) j (omega arith) (omega (arith, in_length set j here))
    (and_from (is_in set j) (meets (granule h j) e) here (meets-from (granule h j) e over))

-- granules of one size that have a byte in common are one
pub same_granule : (g j k : ℕ) → Overlap (granule g j) (granule g k) → j ≡ k
same_granule g j k over = search rules

-- what a marked and a merged set has
pub ruleset sets_tell = (is_in-widened, length-widened, is_in-united, length-united)

-- and covers
pub ruleset sets_cover = (common_steps, sets_tell, granularity-least, granule_there, granule_from, granule_to, meets-from, some_from, any_found, and_parts, same_granule, or_cases, or_left, or_right, cases_Bool)
