use Rattle.std.proofs.Common.{◌≤◌, length, take, refl, ◌∙◌, ap}
use Rattle.nbd_session.proofs.Answering.{content_hung, content_answered}
use Rattle.nbd_session.proofs.session.Session.take_content.Goals as goal

pub returns-in-HangUp : goal.returns-in-HangUp
returns-in-HangUp c =
    let there : c.args.head.length ≤ length c.args.self.now.unread = rw c.as_slice-bytes.ensures at c.if-bytes-size.false in
    content_hung c.args.exports.now c.args.self.now _ c.args.head _ _ _ c.requires.turn c.requires.reading there (c.split_at.ensures.front ∙ ap (take c.args.head.length) c.as_slice-bytes.ensures) _ c.in-HangUp.is c.in_ok-dealt.ensures.dealt

pub returns-in-Answered : goal.returns-in-Answered
returns-in-Answered c =
    let there : c.args.head.length ≤ length c.args.self.now.unread = rw c.as_slice-bytes.ensures at c.if-bytes-size.false in
    content_answered c.args.exports.now c.args.self.now _ c.args.head _ _ _ c.requires.turn c.requires.reading there (c.split_at.ensures.front ∙ ap (take c.args.head.length) c.as_slice-bytes.ensures)
    _ c.in-Answered.is c.in_ok-dealt.ensures.dealt c.take.ensures refl c.requires.turn
