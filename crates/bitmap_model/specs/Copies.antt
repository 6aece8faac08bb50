-- Copies of a disk by units: sets of units, and what a copy and the disk have while it is made.
use Rattle.std.specs.Prelude.{◌≡◌, ℕ, ◌/◌, ◌<◌, List, length, Bool, false, Option, if◌then◌else◌, slice_index, IsTrue, position}
use Rattle.std.specs.List.{range_with_len, sum_by}
use Rattle.span_algebra.specs.Spans.{granule}
use Rattle.bitmap_model.specs.Granules.{set_of, is_in}
use Rattle.bitmap_model.specs.Runs.{shared}

-- the unit is in the one set and not in the other
abbrev pub is_missing : List Bool → List Bool → ℕ → Bool
is_missing scope copied k = if is_in copied k then false else is_in scope k

-- what is in the one set and not in the other
unfoldable pub without : List Bool → List Bool → List Bool
without scope copied = set_of (length scope) (is_missing scope copied)

-- the least number in the set
abbrev pub least : List Bool → Option ℕ
least set = position (λ d. d) set

-- how many bytes of a disk lie in the units of the set; the last unit is cut at the disk's end
abbrev pub bytes_in : ℕ → ℕ → List Bool → ℕ
bytes_in size unit set = sum_by (λ k. if is_in set k then shared (record { at = 0; size = size }) (granule unit k) else 0) (range_with_len 0 (length set))

-- each number of the one set is in the other
abbrev pub IsPart : List Bool → List Bool → Type 0
IsPart part whole = (k : ℕ) → IsTrue (is_in part k) → IsTrue (is_in whole k)

-- Of a copy of the disk at a point, in units of this size: a unit that was copied has the bytes of the point in the copy; a unit of
-- the scope that wasn't has them still on the disk; the copy has exactly the units that were copied, and they are of the scope.
pub record CopyTruth (unit : ℕ) (scope copied : List Bool) (at_point now : List ℕ) (present : List Bool) (copy : List ℕ) : Type 0 where
  pub done : (x : ℕ) → x < length at_point → IsTrue (is_in copied (x / unit)) → slice_index copy x ≡ slice_index at_point x
  pub left : (x : ℕ) → x < length at_point → IsTrue (is_missing scope copied (x / unit)) → slice_index now x ≡ slice_index at_point x
  pub exactly : present ≡ copied
  pub in_scope : IsPart copied scope
