use Rattle.nbd_model.specs.Options.{option_reply, counted_text}
use Rattle.nbd_session.proofs.Growing.{grows_by}
use Rattle.nbd_session.proofs.Dealing.{list_on}
use Rattle.nbd_session.proofs.negotiating.write_list.Goals as goal

pub loop-export-preserved : goal.loop-export-preserved
loop-export-preserved c =
    let sent = c.in_ok-write_server.ensures.sent in
    record {
      sends = list_on c.args.option _ c.loop-export.export-index c.export-item.result _ _ _ c.loop-export-test.true c.export-item.is sent c.loop-export.invariant.sends;
      grows = grows_by _ _ _ (option_reply c.args.option 2 (counted_text c.export-item.result.name)) c.loop-export.invariant.grows sent;
    }
