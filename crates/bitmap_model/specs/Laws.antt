-- The laws, as statements.
use Rattle.std.specs.Prelude.{◌≡◌, ◌≢◌, ◌↔◌, ◌⊎◌, ℕ, ◌+◌, ◌-◌, ◌*◌, ◌/◌, ◌<◌, ◌≤◌, List, [], ◌∷◌, length, get_or, ◌||◌, nat_lt, if◌then◌else◌, All, IsTrue}
use Rattle.std.specs.List.{sum_by}
use Rattle.span_algebra.specs.declared.lists.Run.{Run}
use Rattle.span_algebra.specs.Timelines.{Extent}
use Rattle.span_algebra.specs.Spans.{that_pass, granule, Overlap, in_granules, AllBytes}
use Rattle.bitmap_model.specs.Granules.{is_in, meets, GranuleSet, IsShaped, marked, merged}
use Rattle.bitmap_model.specs.Runs.{runs_of}

-- the test of two ranges says whether they have a byte in common
abbrev pub MeetingIsOverlap : Type 0
MeetingIsOverlap = (e f : Extent) → IsTrue (meets e f) ↔ Overlap e f

-- a marked set has what the set had, and else each granule that meets the range
abbrev pub MarkedTells : Type 0
MarkedTells = (s : GranuleSet) (e : Extent) (k : ℕ) → k < length s.set → is_in (marked s e).set k ≡ (is_in s.set k || meets e (granule s.granularity k))

-- it has as many granules, so marking keeps a set in shape
abbrev pub MarkingKeepsShape : Type 0
MarkingKeepsShape = (s : GranuleSet) (e : Extent) → IsShaped s → IsShaped (marked s e)

-- it covers each byte of a range on the disk
abbrev pub MarkingCovers : Type 0
MarkingCovers = (s : GranuleSet) (e : Extent) → IsShaped s → e.at + e.size ≤ s.size → AllBytes (in_granules s.granularity (that_pass (is_in (marked s e).set))) e

-- a granule is in a merged set exactly where it was in the set or meets a granule of the other
abbrev pub MergedTells : Type 0
MergedTells = (s other : GranuleSet) (k : ℕ) → k < length s.set → IsTrue (is_in (merged s other).set k)
    ↔ (IsTrue (is_in s.set k) ⊎ ((j : ℕ) × IsTrue (is_in other.set j) × Overlap (granule other.granularity j) (granule s.granularity k)))

-- merging keeps a set in shape
abbrev pub MergingKeepsShape : Type 0
MergingKeepsShape = (s other : GranuleSet) → IsShaped s → IsShaped (merged s other)

-- a merged set covers each byte of the disk that the set or the other covers
abbrev pub MergingCovers : Type 0
MergingCovers = (s other : GranuleSet) (x : ℕ) → IsShaped s → IsShaped other → x < s.size
    → (IsTrue (is_in s.set (x / s.granularity)) ⊎ IsTrue (is_in other.set (x / other.granularity))) → IsTrue (is_in (merged s other).set (x / s.granularity))

-- where the two have one granularity, a merged set is their union
abbrev pub MergingLikeUnites : Type 0
MergingLikeUnites = (s other : GranuleSet) (k : ℕ) → IsShaped s → other.granularity ≡ s.granularity → k < length s.set
    → is_in (merged s other).set k ≡ (is_in s.set k || is_in other.set k)

-- how many bytes runs have
abbrev pub total_of : List Run → ℕ
total_of runs = sum_by (λ r. r.length) runs

-- the runs of a range have its length
abbrev pub RunsAddUp : Type 0
RunsAddUp = (g : ℕ) (flags : List ℕ) (e : Extent) → 0 < g → e.at + e.size ≤ length flags * g → total_of (runs_of g flags e) ≡ e.size

-- runs that follow each other have different flags
abbrev pub AreApart : List Run → Type 0
AreApart [] = Unit {0}
AreApart (r ∷ []) = Unit {0}
AreApart (r ∷ s ∷ runs) = (r.flags ≢ s.flags) × AreApart (s ∷ runs)

-- no run is empty, and none could be longer
abbrev pub RunsAreGreatest : Type 0
RunsAreGreatest = (g : ℕ) (flags : List ℕ) (e : Extent) → All (λ r. 0 < r.length) (runs_of g flags e) × AreApart (runs_of g flags e)

-- the flags of the run in which byte n of all stands
abbrev pub flags_at : List Run → ℕ → ℕ
flags_at [] n = 0
flags_at (r ∷ runs) n = if nat_lt n r.length then r.flags else flags_at runs (n - r.length)

-- each byte of a range stands in a run with the flags of its granule
abbrev pub RunsTell : Type 0
RunsTell = (g : ℕ) (flags : List ℕ) (e : Extent) (n : ℕ) → 0 < g → e.at + e.size ≤ length flags * g → n < e.size
    → flags_at (runs_of g flags e) n ≡ get_or flags ((e.at + n) / g) 0
