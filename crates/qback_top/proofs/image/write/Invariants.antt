use Rattle.std.proofs.Common.{length, take, ◌-◌, ◌*◌, ◌%◌, ◌≡◌, ◌≢◌, ◌+◌, ◌≤◌, ◌<◌, IsTrue}
use Rattle.disk_model.specs.Files.{overlay}
use Rattle.disk_model.specs.World.{Runs, only_file}
use Rattle.qc_layout.specs.FirstForm.{disk_of, disk_size}
use Rattle.qback_top.specs.Open.{IsOpen, KeepsRest}
use Rattle.qback_top.proofs.image.write.Given as goal

abbrev pub invariant-loop-done : goal.invariant-loop-done
invariant-loop-done g l = record {
  done : l.done ≤ length l.bytes;
  file : l.image.file ≡ l.fn.image.file;
  size : l.image.size ≡ l.fn.image.size;
  l1 : l.image.l1 ≡ l.fn.image.l1;
  begin : l.done ≡ 0 → l.image.end ≤ l.fn.image.end;
  more : l.done < length l.bytes → l.image.end ≤ l.fn.image.end + 8192 + 2 * l.done;
  most : l.image.end ≤ l.fn.image.end + 16384 + 2 * l.done;
  aligned : l.done < length l.bytes → l.done ≢ 0 → (l.at + l.done) % 4096 ≡ 0;
  told : IsTrue (g.D.Outside.world l.fn.depot).tells → IsOpen l.fn.image ((g.D.Outside.world l.fn.depot).seen l.fn.image.file.0) →
      l.at + length l.bytes ≤ disk_size ((g.D.Outside.world l.fn.depot).seen l.fn.image.file.0) →
      IsOpen l.image ((g.D.Outside.world l.depot).seen l.fn.image.file.0)
      × (disk_of ((g.D.Outside.world l.depot).seen l.fn.image.file.0) ≡ overlay (disk_of ((g.D.Outside.world l.fn.depot).seen l.fn.image.file.0)) l.at (take l.done l.bytes))
      × KeepsRest ((g.D.Outside.world l.fn.depot).seen l.fn.image.file.0) ((g.D.Outside.world l.depot).seen l.fn.image.file.0);
  run : Runs (only_file l.fn.image.file.0) (g.D.Outside.world l.fn.depot) (g.D.Outside.world l.depot);
}

abbrev pub decreases-loop-done : goal.decreases-loop-done
decreases-loop-done g l = length l.bytes - l.done
