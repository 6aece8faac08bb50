use Rattle.std.proofs.Common.{◌≡◌, ℕ, ◌+◌, ◌-◌, ◌<◌, ◌≤◌, length, Ok}
use Rattle.disk_model.specs.Files.{byte}
use Rattle.disk_model.specs.declared.depot.Failed.{Failed}
use Rattle.file_device.specs.Calls.{Looks}
use Rattle.file_device.specs.File.{file_of, Gives}
use Rattle.qc_map.specs.Reading.{row_byte}
use Rattle.qc_map.proofs.reading.read_clusters.Given as goal

abbrev pub invariant-loop-done : goal.invariant-loop-done
invariant-loop-done g l = record {
  looks : Looks {T = ℕ} {E = Failed} l.file.0 (g.D.Outside.world l.initial.depot) (g.D.Outside.world l.depot) (Ok 0);
  order : l.done ≤ length l.out;
  bytes : Gives (file_of (g.D.Outside.world l.initial.depot) l.file.0) (λ c. (x : ℕ) → x < l.done → byte l.out x ≡ row_byte l.cluster l.row c (l.from + x));
}

abbrev pub decreases-loop-done : goal.decreases-loop-done
decreases-loop-done g l = length l.out - l.done
