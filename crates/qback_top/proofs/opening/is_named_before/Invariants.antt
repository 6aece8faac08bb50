use Rattle.std.proofs.Common.{◌≢◌, ℕ, ◌*◌, ◌<◌}
use Rattle.disk_model.specs.Files.{u64_at}
use Rattle.qc_layout.specs.Entries.{offset_in}
use Rattle.qback_top.proofs.opening.is_named_before.Given as goal

abbrev pub invariant-loop-m : goal.invariant-loop-m
invariant-loop-m l = (k : ℕ) → k < l.m → offset_in (u64_at l.entries (8 * k)) ≢ l.offset
