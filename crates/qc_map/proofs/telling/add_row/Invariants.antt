use Rattle.std.proofs.Common.{◌≡◌, ℕ, ◌+◌, ◌<◌, ◌≤◌, List, length, vec_len, vec_capacity}
use Rattle.span_algebra.specs.declared.lists.Run.{Run}
use Rattle.qc_map.specs.Telling.{Tells, IsRowAt}
use Rattle.qc_map.proofs.Joining.{upto}
use Rattle.qc_map.proofs.telling.add_row.Given as goal

abbrev pub invariant-loop-index : goal.invariant-loop-index
invariant-loop-index l = record {
  goes : (flags : List ℕ) (at d first : ℕ) (old : List Run) → length old ≡ l.start → IsRowAt l.cluster flags at d first l.part l.row → Tells l.cluster flags at d old l.initial.out.items.items l.fn.last →
      Tells l.cluster flags at (d + upto l.cluster l.part.from l.part.length l.index) old l.out.items.items l.held;
  capacity : vec_capacity l.out.items ≡ vec_capacity l.initial.out.items;
  order : l.start ≤ vec_len l.out.items;
  few : vec_len l.out.items < l.start + 1024;
  some : 0 < l.index → 0 < l.held.length;
  short : l.held.length ≤ l.fn.last.length + upto l.cluster l.part.from l.part.length l.index;
}
