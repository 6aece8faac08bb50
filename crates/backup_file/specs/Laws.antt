-- The laws of a new file's layout, as statements.
use Rattle.std.specs.Prelude.{◌≡◌, ℕ, ◌+◌, ◌*◌, ◌≤◌, true}
use Rattle.qc_layout.specs.Disks.{words_in, counts_in, clusters_in}
use Rattle.backup_file.specs.Layout.{is_form, table_clusters, l1_clusters, block_clusters, IsLeast}

-- The refcount table has the least number of clusters that can count twice the disk's clusters and 1024.
abbrev pub TableIsLeast : Type 0
TableIsLeast = (bits size : ℕ) → 9 ≤ bits → bits ≤ 21 → IsLeast (λ t. 2 * clusters_in bits size + 1024 ≤ t * words_in bits * counts_in bits) (table_clusters bits size)

-- There is the least number of blocks that counts the header, the table, the blocks and the first level.
abbrev pub BlocksAreLeast : Type 0
BlocksAreLeast = (bits size : ℕ) → 9 ≤ bits → bits ≤ 21 → IsLeast (λ b. 1 + table_clusters bits size + b + l1_clusters bits size ≤ b * counts_in bits) (block_clusters bits size)

-- each block has an entry of the table
abbrev pub BlocksHaveEntries : Type 0
BlocksHaveEntries = (bits size : ℕ) → is_form bits size ≡ true → block_clusters bits size ≤ table_clusters bits size * words_in bits
