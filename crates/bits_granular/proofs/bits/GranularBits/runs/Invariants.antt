use Rattle.std.proofs.Common.{◌≡◌, ◌+◌, ◌-◌, ◌≤◌, min, ◌++◌, take, length, vec_len, vec_capacity}
use Rattle.bitmap_model.specs.Runs.{between, dirty_runs}
use Rattle.bits_granular.proofs.bits.GranularBits.runs.Given as goal

abbrev pub invariant-loop-number : goal.invariant-loop-number
invariant-loop-number l = record {
  runs : l.out.items.items ++ take (1024 - l.number) (dirty_runs l.self (between l.from l.end)) ≡ l.initial.out.items.items ++ take 1024 (dirty_runs l.self (between l.at l.end));
  room : vec_len l.out.items + min (1024 - l.number) (length (dirty_runs l.self (between l.from l.end))) ≤ vec_capacity l.out.items;
  capacity : vec_capacity l.out.items ≡ vec_capacity l.initial.out.items;
  order : l.from ≤ l.end;
}
