use Rattle.std.proofs.Common.{◌≡◌, ℕ, ◌+◌, ◌*◌, ◌<◌, length}
use Rattle.disk_model.specs.Files.{byte}
use Rattle.qc_alloc.proofs.growing.write_ones.Given as goal

abbrev pub invariant-loop-index : goal.invariant-loop-index
invariant-loop-index l = record {
  high : (t : ℕ) → t < l.index → byte l.counts (2 * t) ≡ 0;
  low : (t : ℕ) → t < l.index → byte l.counts (2 * t + 1) ≡ 1;
  long : length l.counts ≡ length l.fn.counts;
}
