use Rattle.std.proofs.Common.{◌≡◌, drop}
use Rattle.std.specs.List.{list_any}
use Rattle.nbd_model.specs.Options.{answers}
use Rattle.nbd_session.proofs.contexts.is_listed.Given as goal

abbrev pub invariant-loop-query : goal.invariant-loop-query
invariant-loop-query l = list_any (answers l.context) (drop l.query-index l.query-items) ≡ list_any (answers l.context) l.queries
