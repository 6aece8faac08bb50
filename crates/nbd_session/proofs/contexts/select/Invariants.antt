use Rattle.std.proofs.Common.{◌≡◌, ◌≤◌, length, take}
use Rattle.std.specs.Prelude.{filter, bytes_eq}
use Rattle.std.specs.List.{list_any}
use Rattle.nbd_model.specs.Options.{once_each}
use Rattle.nbd_session.proofs.contexts.select.Given as goal

abbrev pub invariant-loop-query : goal.invariant-loop-query
invariant-loop-query l = record {
  names : l.selected ≡ once_each (filter (λ query. list_any (bytes_eq query) l.contexts) (take l.query-index l.query-items));
  few : length l.selected ≤ l.query-index;
}
