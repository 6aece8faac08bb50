-- The greatest runs of equal flags in a range, first to last.
use Rattle.std.specs.Prelude.{ℕ, ◌+◌, ◌-◌, min, max, List, [], ◌∷◌, length, take, map, Bool, ◌==◌, nat_lt, if◌then◌else◌}
use Rattle.span_algebra.specs.declared.lists.Run.{Run}
use Rattle.span_algebra.specs.Timelines.{Extent}
use Rattle.span_algebra.specs.Spans.{granule}
use Rattle.bitmap_model.specs.Granules.{GranuleSet}

-- the bytes from the one to before the other
abbrev pub between : ℕ → ℕ → Extent
between from end = record { at = from; size = end - from }

-- how many bytes two ranges have in common
abbrev pub shared : Extent → Extent → ℕ
shared e f = min (e.at + e.size) (f.at + f.size) - max e.at f.at

-- what each granule from number k on, of size g and with these flags, has of the range, if anything
abbrev pub parts_of : ℕ → Extent → ℕ → List ℕ → List Run
parts_of g e k [] = []
parts_of g e k (flag ∷ flags) =
    if nat_lt 0 (shared e (granule g k)) then record { length = shared e (granule g k); flags = flag } ∷ parts_of g e (k + 1) flags
    else parts_of g e (k + 1) flags

-- one more run in front, joined to the first where the flags are equal
abbrev pub put_in_front : Run → List Run → List Run
put_in_front r [] = r ∷ []
put_in_front r (s ∷ runs) =
    if r.flags == s.flags then record { length = r.length + s.length; flags = r.flags } ∷ runs else r ∷ s ∷ runs

-- runs of equal flags that follow each other made one
abbrev pub joined : List Run → List Run
joined [] = []
joined (r ∷ runs) = put_in_front r (joined runs)

-- the greatest runs of equal flags in the range, cut at its ends, where each granule, of size g, has one of these flags
unfoldable pub runs_of : ℕ → List ℕ → Extent → List Run
runs_of g flags e = joined (parts_of g e 0 flags)

-- the first 1,024 runs
abbrev pub first_runs : List Run → List Run
first_runs runs = take 1024 runs

-- the runs that a reply has: the first 1,024, or the first alone where one was asked
abbrev pub reply_runs : Bool → List Run → List Run
reply_runs one runs = if one then take 1 runs else first_runs runs

-- dirty is 1, clean is 0
abbrev pub dirty_flags : List Bool → List ℕ
dirty_flags set = map (λ d. if d then 1 else 0) set

-- the runs of dirty and of clean bytes in a range of the disk
unfoldable pub dirty_runs : GranuleSet → Extent → List Run
dirty_runs s e = runs_of s.granularity (dirty_flags s.set) e

-- how many these are
abbrev pub count_runs : GranuleSet → Extent → ℕ
count_runs s e = length (dirty_runs s e)
