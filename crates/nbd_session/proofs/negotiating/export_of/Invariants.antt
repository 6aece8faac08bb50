use Rattle.std.proofs.Common.{◌≡◌, drop}
use Rattle.nbd_model.specs.Options.{export_of}
use Rattle.nbd_session.proofs.negotiating.export_of.Given as goal

abbrev pub invariant-loop-export : goal.invariant-loop-export
invariant-loop-export l = export_of l.name (drop l.export-index l.export-items) ≡ export_of l.name l.exports
