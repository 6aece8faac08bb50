use Rattle.nbd_session.proofs.Dealing.{info_sent}
use Rattle.nbd_session.proofs.negotiating.write_info.Goals as goal

pub returns-clause-sent : goal.returns-clause-sent
returns-clause-sent c =
    info_sent _ c.args.option c.args.sizes c.args.export.now c.export_info.result _ c.write_option_reply.new.out.items.items c.write_sizes.new.out.items.items _ c.export_info.ensures
    c.in_ok-write_option_reply.ensures.written c.in_ok-write_sizes.ensures.sent c.write_option_reply-2.ensures.written
