use Rattle.std.proofs.Common.{length, ◌-◌, ◌≡◌, ◌+◌, ◌≤◌, take, IsTrue}
use Rattle.disk_model.specs.Files.{reading}
use Rattle.disk_model.specs.World.{Runs, reads_of}
use Rattle.qc_layout.specs.FirstForm.{disk_of, disk_size}
use Rattle.qback_top.specs.Open.{IsOpen}
use Rattle.qback_top.proofs.image.read.Given as goal

abbrev pub invariant-loop-done : goal.invariant-loop-done
invariant-loop-done g l = record {
  done : l.done ≤ length l.out;
  bytes : IsTrue (g.D.Outside.world l.fn.depot).tells → IsOpen l.image ((g.D.Outside.world l.fn.depot).seen l.image.file.0) →
      l.at + length l.out ≤ disk_size ((g.D.Outside.world l.fn.depot).seen l.image.file.0) →
      take l.done l.out ≡ reading (disk_of ((g.D.Outside.world l.fn.depot).seen l.image.file.0)) l.at l.done;
  run : Runs (reads_of l.image.file.0) (g.D.Outside.world l.fn.depot) (g.D.Outside.world l.depot);
}

abbrev pub decreases-loop-done : goal.decreases-loop-done
decreases-loop-done g l = length l.initial.out - l.done
