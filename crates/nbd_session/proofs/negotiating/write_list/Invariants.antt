use Rattle.std.proofs.Common.{◌≡◌, ◌++◌, drop}
use Rattle.nbd_model.specs.Options.{list_replies}
use Rattle.nbd_session.specs.Parts.{Grows}
use Rattle.nbd_session.proofs.negotiating.write_list.Given as goal

abbrev pub invariant-loop-export : goal.invariant-loop-export
invariant-loop-export l = record {
  sends : l.out.items.items ++ list_replies l.option (drop l.export-index l.export-items) ≡ l.fn.out.items.items ++ list_replies l.option l.exports;
  grows : Grows l.fn.out.items.items l.out.items.items;
}
