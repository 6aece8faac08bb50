use Rattle.std.proofs.Common.{◌≡◌, []}
use Rattle.disk_memory.specs.Host.{held, calls_made, calls_failing}
use Rattle.disk_memory.proofs.Leaving.{IsLeaving}
use Rattle.disk_memory.proofs.host.MemoryHost.pick_outcome.Given as goal

abbrev pub invariant-loop-number : goal.invariant-loop-number
invariant-loop-number l = record {
  leaving : IsLeaving l.choice l.moment (held l.self) l.number (held l.left);
  calls : calls_made l.left ≡ 0;
  failing : calls_failing l.left ≡ [];
}
