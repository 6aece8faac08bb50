use Rattle.std.proofs.Common.{◌≡◌, ◌++◌, drop}
use Rattle.std.specs.Prelude.{filter}
use Rattle.nbd_model.specs.Options.{is_listed, listed_replies}
use Rattle.nbd_session.specs.Parts.{Grows}
use Rattle.nbd_session.proofs.contexts.write_listed.Given as goal

abbrev pub invariant-loop-context : goal.invariant-loop-context
invariant-loop-context l = record {
  sends : l.out.items.items ++ listed_replies l.option (filter (is_listed l.queries) (drop l.context-index l.context-items))
      ≡ l.fn.out.items.items ++ listed_replies l.option (filter (is_listed l.queries) l.contexts);
  grows : Grows l.fn.out.items.items l.out.items.items;
}
