use Rattle.std.proofs.Common.{◌≡◌, ◌+◌, ◌++◌, drop}
use Rattle.nbd_model.specs.Options.{selected_replies}
use Rattle.nbd_session.specs.Parts.{Grows}
use Rattle.nbd_session.proofs.contexts.write_selected.Given as goal

abbrev pub invariant-loop-context : goal.invariant-loop-context
invariant-loop-context l = record {
  sends : l.out.items.items ++ selected_replies l.option l.id (drop l.context-index l.context-items) ≡ l.fn.out.items.items ++ selected_replies l.option 1 l.selected;
  number : l.id ≡ l.context-index + 1;
  grows : Grows l.fn.out.items.items l.out.items.items;
}
