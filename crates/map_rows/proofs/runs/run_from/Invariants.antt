use Rattle.std.proofs.Common.{◌≡◌, ℕ, ◌+◌, ◌*◌, ◌<◌}
use Rattle.disk_model.specs.Files.{u64_at}
use Rattle.image_model.specs.Clusters.{stored}
use Rattle.map_rows.specs.Runs.{place_in}
use Rattle.map_rows.proofs.runs.run_from.Given as goal

abbrev pub invariant-loop-count : goal.invariant-loop-count
invariant-loop-count l = (m : ℕ) → m < l.count → stored (u64_at l.entries (8 * (l.first + m))) ≡ place_in l.host l.cluster m
