-- How many clusters a write of a part needs.
use Rattle.std.specs.Prelude.{ℕ, ◌+◌, List, count_by, Bool, not, if◌then◌else◌}
use Rattle.std.specs.List.{range_with_len}
use Rattle.image_model.specs.Clusters.{Shape, word_of}
use Rattle.image_model.specs.Space.{is_data}
use Rattle.map_rows.specs.Stores.{kind_of, has_table}

-- guest cluster (i, j) has no bytes stored
abbrev pub is_open : Shape → List ℕ → ℕ → ℕ → Bool
is_open s file i j = not (is_data (kind_of (word_of s file i j)))

-- one for each of clusters (i, j) to (i, j + n) that has no bytes stored, and one for their table where it isn't there
abbrev pub part_need : Shape → List ℕ → ℕ → ℕ → ℕ → ℕ
part_need s file i j n = count_by (λ m. is_open s file i (j + m)) (range_with_len 0 n) + (if has_table s file i then 0 else 1)
