use Rattle.std.proofs.Common.{◌≡◌, ◌≤◌, IsTrue}
use Rattle.disk_model.specs.World.{Runs, reads_of}
use Rattle.toy_image.specs.Images.{missing_below}
use Rattle.toy_image.proofs.image.count_missing.Given as goal

abbrev pub invariant-loop-i : goal.invariant-loop-i
invariant-loop-i g l = record {
  few : l.missing ≤ l.i;
  missing : IsTrue (g.D.Outside.world l.fn.depot).tells → l.missing ≡ missing_below ((g.D.Outside.world l.fn.depot).seen l.file.0) l.blocks l.i;
  run : Runs (reads_of l.file.0) (g.D.Outside.world l.fn.depot) (g.D.Outside.world l.depot);
}
