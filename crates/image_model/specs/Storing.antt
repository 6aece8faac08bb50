-- How many clusters bitmaps take where a directory stores them (qcow2 specification, "Bitmaps"), and which of these are taken as neighbours.
use Rattle.std.specs.Prelude.{◌≡◌, ◌⊎◌, ℕ, ◌+◌, ◌*◌, ◌<◌, List, [], ◌∷◌, length, take, drop, Bool, if◌then◌else◌, Contains}
use Rattle.std.specs.List.{list_any, range_with_len, count_by, sum_by}
use Rattle.std.specs.Int.{div_ceil}
use Rattle.bitmap_model.specs.Bitmap.{StoredBitmap}
use Rattle.qc_layout.specs.Extensions.{padded}
use Rattle.qc_layout.specs.Directory.{spans_size}

-- entries of a bitmap's table, for clusters of so many bytes: each has a bit for eight granules a byte
abbrev pub pieces_of : ℕ → StoredBitmap → ℕ
pieces_of cluster e = div_ceil (length e.bits.set) (8 * cluster)

-- a granule of piece i is dirty; a piece without one needs no cluster
abbrev pub is_dirty_piece : ℕ → StoredBitmap → ℕ → Bool
is_dirty_piece cluster e i = list_any (λ d. d) (take (8 * cluster) (drop (8 * cluster * i) e.bits.set))

-- Clusters of its bits, and of its table. The entry of a bitmap that isn't trusted stays with the table that it has.
abbrev pub bits_clusters : ℕ → StoredBitmap → ℕ
bits_clusters cluster e = count_by (is_dirty_piece cluster e) (range_with_len 0 (pieces_of cluster e))

abbrev pub table_clusters : ℕ → StoredBitmap → ℕ
table_clusters cluster e = if e.trusted then div_ceil (8 * pieces_of cluster e) cluster else 0

-- of the directory, whose entries have 24 bytes and a name, padded to eight bytes, and of the table of spans
abbrev pub entry_size : StoredBitmap → ℕ
entry_size e = padded (24 + length e.name)

abbrev pub directory_clusters : ℕ → List StoredBitmap → ℕ
directory_clusters cluster entries = div_ceil (sum_by entry_size entries) cluster

abbrev pub spans_clusters : ℕ → List StoredBitmap → ℕ
spans_clusters cluster entries = div_ceil (spans_size (length entries)) cluster

-- All of them; without a bitmap there is no directory.
unfoldable pub storing_need : ℕ → List StoredBitmap → ℕ
storing_need cluster [] = 0
storing_need cluster (e ∷ entries) =
    sum_by (λ x. bits_clusters cluster x + table_clusters cluster x) (e ∷ entries) + (directory_clusters cluster (e ∷ entries) + spans_clusters cluster (e ∷ entries))

-- so many are taken as neighbours: those of a table, of the directory or of the table of spans
abbrev pub AreTakenTogether : ℕ → List StoredBitmap → ℕ → Type 0
AreTakenTogether cluster entries n =
    (0 < n) × (((e : StoredBitmap) × Contains entries e × (n ≡ table_clusters cluster e)) ⊎ ((n ≡ directory_clusters cluster entries) ⊎ (n ≡ spans_clusters cluster entries)))
