use Rattle.std.proofs.Common.{rules}
use Rattle.nbd_session.proofs.Answering.{answers_from}
use Rattle.nbd_session.proofs.session.Session.take_message.Goals as goal

pub returns-in-Head : goal.returns-in-Head
returns-in-Head c = λ c' at.
    c.take_flags.ensures c' c.args.exports.now c.args.out.now.items.items (c.if-not-read_head.ensures.reads (search rules) c' at) (c.if-not-read_head.ensures.waits (search rules) c.args.exports.now)

pub returns-in-Content : goal.returns-in-Content
returns-in-Content c = answers_from _ _ c.read_head.new.self _ _ _ _ (c.if-not-read_head.ensures.reads (search rules)) c.take_content.ensures

pub returns-in-LongOption : goal.returns-in-LongOption
returns-in-LongOption c = answers_from _ _ c.read_head.new.self _ _ _ _ (c.if-not-read_head.ensures.reads (search rules)) (c.end_option.ensures c.args.exports.now)

pub returns-in-Bytes : goal.returns-in-Bytes
returns-in-Bytes c = answers_from _ _ c.read_head.new.self _ _ _ _ (c.if-not-read_head.ensures.reads (search rules)) (c.take_bytes.ensures c.args.exports.now)

pub returns-in-Skipped : goal.returns-in-Skipped
returns-in-Skipped c = answers_from _ _ c.read_head.new.self _ _ _ _ (c.if-not-read_head.ensures.reads (search rules)) (c.end_skipped.ensures c.args.exports.now)
