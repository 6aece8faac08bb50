use Rattle.std.proofs.Common.{◌≡◌, ◌++◌, drop}
use Rattle.nbd_model.specs.Requests.{run_bytes}
use Rattle.nbd_session.specs.Parts.{Grows}
use Rattle.nbd_session.proofs.replying.write_runs.Given as goal

abbrev pub invariant-loop-run : goal.invariant-loop-run
invariant-loop-run l = record {
  sends : l.out.items.items ++ run_bytes (drop l.run-index l.runs) ≡ l.fn.out.items.items ++ run_bytes l.runs;
  grows : Grows l.fn.out.items.items l.out.items.items;
}
