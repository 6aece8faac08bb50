-- Entries that one device call serves.
use Rattle.std.specs.Prelude.{◌≡◌, ◌≢◌, ℕ, ◌+◌, ◌*◌, ◌<◌, ◌≤◌, List, ◌==◌, if◌then◌else◌}
use Rattle.disk_model.specs.Files.{u64_at}
use Rattle.image_model.specs.Clusters.{stored}
use Rattle.map_rows.specs.declared.runs.Run.{Run}

-- where the entry is stored that is so many behind one at `host`: nowhere where that is so of the first, else in a neighbour
abbrev pub place_in : ℕ → ℕ → ℕ → ℕ
place_in host cluster behind = if host == 0 then 0 else host + behind * cluster

-- The entries from `first` on are stored so, and the run ends at `end`, or where the next one isn't.
pub record IsRun (entries : List ℕ) (first end cluster : ℕ) (run : Run) : Type 0 where
  pub some : 0 < run.count
  pub inside : first + run.count ≤ end
  pub each : (m : ℕ) → m < run.count → stored (u64_at entries (8 * (first + m))) ≡ place_in run.host cluster m
  pub ends : first + run.count < end → stored (u64_at entries (8 * (first + run.count))) ≢ place_in run.host cluster run.count
