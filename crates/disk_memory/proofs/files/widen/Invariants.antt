use Rattle.std.proofs.Common.{◌≡◌, ◌≤◌, ◌<◌, ℕ, length, get_or, vec_capacity}
use Rattle.disk_memory.specs.Room.{IsWider, IsSameFiles, lengths_of, name_lengths_of}
use Rattle.disk_memory.proofs.files.widen.Given as goal

abbrev pub invariant-loop-i : goal.invariant-loop-i
invariant-loop-i l = record {
  same : IsSameFiles l.initial.files.items l.files.items;
  places : vec_capacity l.files ≡ vec_capacity l.initial.files;
  long : length l.files.items ≡ length l.initial.files.items;
  end : l.i-end ≡ length l.initial.files.items;
  wide_names : IsWider (name_lengths_of l.initial.files.items) (name_lengths_of l.files.items);
  wide_bytes : IsWider (lengths_of l.initial.files.items) (lengths_of l.files.items);
  all_names : (k : ℕ) → k < l.i → l.name ≤ get_or (name_lengths_of l.files.items) k 0;
  all_bytes : (k : ℕ) → k < l.i → l.size ≤ get_or (lengths_of l.files.items) k 0;
}
