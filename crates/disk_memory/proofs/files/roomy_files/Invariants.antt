use Rattle.std.proofs.Common.{◌≡◌, length}
use Rattle.disk_memory.specs.Room.{AllFrom, lengths_of, name_lengths_of}
use Rattle.disk_memory.proofs.files.roomy_files.Given as goal

abbrev pub invariant-loop-i : goal.invariant-loop-i
invariant-loop-i l = record {
  count : length l.files.items ≡ l.i;
  names : AllFrom 4096 (name_lengths_of l.files.items);
  bytes : AllFrom l.size (lengths_of l.files.items);
}
