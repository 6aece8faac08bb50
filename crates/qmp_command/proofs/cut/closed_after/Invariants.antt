use Rattle.std.proofs.Common.{◌≡◌, ◌+◌, ◌≤◌, drop, false, option_map}
use Rattle.monitor_model.specs.Messages.{closed_after}
use Rattle.qmp_command.specs.Views.{plain_scan}
use Rattle.qmp_command.proofs.cut.closed_after.Given as goal

abbrev pub invariant-loop-i : goal.invariant-loop-i
invariant-loop-i l = record {
  end : closed_after (record { depth = 0; in_string = false; escaped = false }) l.bytes ≡ option_map (λ n. n + l.i) (closed_after (plain_scan l.scan) (drop l.i l.bytes));
  depth : l.scan.depth ≤ l.i;
}
