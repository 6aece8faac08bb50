use Rattle.std.proofs.Common.{◌≡◌, ◌≤◌}
use Rattle.std.specs.Prelude.{count_by}
use Rattle.std.specs.List.{range_with_len}
use Rattle.map_rows.specs.Stores.{is_open_at}
use Rattle.map_rows.proofs.entries.count_open.Given as goal

abbrev pub invariant-loop-index : goal.invariant-loop-index
invariant-loop-index l = record {
  found : l.found ≡ count_by (is_open_at l.entries) (range_with_len 0 l.index);
  most : l.found ≤ l.index;
}
