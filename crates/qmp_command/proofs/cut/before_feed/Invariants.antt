use Rattle.std.proofs.Common.{◌≡◌, ◌+◌, drop, option_map}
use Rattle.monitor_model.specs.Messages.{before_feed}
use Rattle.qmp_command.proofs.cut.before_feed.Given as goal

abbrev pub invariant-loop-i : goal.invariant-loop-i
invariant-loop-i l = before_feed l.bytes ≡ option_map (λ n. n + l.i) (before_feed (drop l.i l.bytes))
