use Rattle.std.proofs.Common.{◌≡◌, drop}
use Rattle.monitor_model.specs.Messages.{cut_of, cut_from}
use Rattle.qmp_command.proofs.cut.blanks.Given as goal

abbrev pub invariant-loop-i : goal.invariant-loop-i
invariant-loop-i l = cut_of l.bytes ≡ cut_from l.i (drop l.i l.bytes)
