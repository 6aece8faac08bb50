use Rattle.disk_model.specs.Files.{u64_at}
use Rattle.std.proofs.Common.{◌≡◌, ◌+◌, ◌*◌}
use Rattle.file_device.proofs.Laws.{given}
use Rattle.toy_image.proofs.Looking.{missing_is}
use Rattle.toy_image.proofs.image.is_missing.Goals as goal

pub returns-clause-missing : goal.returns-clause-missing
returns-clause-missing g c = λ told.
    let b = c.args.blocks.now in
    missing_is _ b c.args.i c.in_ok-entry.entry c.misses.result
    (given (g.D.Outside.world c.args.depot.now) c.args.file.0 (λ file. c.in_ok-entry.entry ≡ u64_at file (b.at + 8 * c.args.i)) c.in_ok-entry.ensures.number told) c.misses.ensures
