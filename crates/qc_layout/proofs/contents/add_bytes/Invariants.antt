use Rattle.std.proofs.Common.{◌≡◌, ◌++◌}
use Rattle.disk_model.specs.Files.{reading}
use Rattle.qc_layout.proofs.contents.add_bytes.Given as goal

abbrev pub invariant-loop-i : goal.invariant-loop-i
invariant-loop-i l = l.out.items ≡ l.fn.out.items ++ reading l.bytes l.from l.i
