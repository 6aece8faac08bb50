-- Runs of equal flags, put together cluster by cluster.
use Rattle.std.specs.Prelude.{◌≡◌, ◌⊎◌, ℕ, ◌+◌, ◌*◌, ◌<◌, ◌≤◌, List, [], ◌∷◌, ◌++◌, length, get_or, map, Option, Some, None, ◌==◌, if◌then◌else◌}
use Rattle.span_algebra.specs.declared.lists.Run.{Run}
use Rattle.span_algebra.specs.Timelines.{Extent}
use Rattle.bitmap_model.specs.Runs.{parts_of, joined, runs_of, first_runs}
use Rattle.disk_model.specs.Files.{u64_at}
use Rattle.image_model.specs.Space.{Store, allocation_flags}
use Rattle.map_rows.specs.declared.parts.Part.{Part}
use Rattle.map_rows.specs.Stores.{kind_of}

abbrev pub range : ℕ → ℕ → Extent
range at n = record { at = at; size = n }

-- what NBD tells of each cluster of the disk
abbrev pub flags_of : Store → List ℕ
flags_of store = map allocation_flags store.kinds

-- the run that isn't told yet, if there is one
abbrev pub held : Run → List Run
held last = if last.length == 0 then [] else last ∷ []

-- Runs of the first d bytes of a request are told, but for the last.
pub record Tells (g : ℕ) (flags : List ℕ) (at d : ℕ) (old items : List Run) (last : Run) : Type 0 where
  pub told : List Run
  pub items_are : items ≡ old ++ told
  pub runs_are : joined (parts_of g (range at d) 0 flags) ≡ told ++ held last
  -- none is told before one is held
  pub start : last.length ≡ 0 → told ≡ []

-- The first 1,024 runs are told, whatever is behind the first d bytes.
pub record TellsAll (g : ℕ) (flags : List ℕ) (at d : ℕ) (old items : List Run) : Type 0 where
  pub all : (n : ℕ) → d ≤ n → items ≡ old ++ first_runs (runs_of g flags (range at n))

-- so after a piece, or a row of them: another run is held, or all are told
abbrev pub GoesOn : ℕ → List ℕ → ℕ → ℕ → List Run → List Run → Option Run → Type 0
GoesOn g flags at d old items (Some last) = Tells g flags at d old items last
GoesOn g flags at d old items None = TellsAll g flags at d old items

-- so many bytes of cluster k, with its flags, come next
pub record IsPiece (g : ℕ) (flags : List ℕ) (at d k : ℕ) (next : Run) : Type 0 where
  pub some : 0 < next.length
  pub inside : k < length flags
  pub low : k * g ≤ at + d
  pub high : at + d + next.length ≤ k * g + g
  pub begins : (d ≡ 0) ⊎ (at + d ≡ k * g)
  pub flag : get_or flags k 0 ≡ next.flags

-- the part's clusters are those from `first` on
pub record IsRowAt (g : ℕ) (flags : List ℕ) (at d first : ℕ) (part : Part) (row : List ℕ) : Type 0 where
  pub begins : at + d ≡ first * g + part.from
  pub next : (d ≡ 0) ⊎ (part.from ≡ 0)
  pub inside : first + part.count ≤ length flags
  pub each : (m : ℕ) → m < part.count → get_or flags (first + m) 0 ≡ allocation_flags (kind_of (u64_at row (8 * m)))
