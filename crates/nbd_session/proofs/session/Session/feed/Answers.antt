use Rattle.std.proofs.Common.{◌≡◌, ◌++◌, length, drop, min, ap, ◌∙◌, refl, rules}
use Rattle.nbd_session.proofs.Steps.{fed_at}
use Rattle.nbd_session.proofs.session.Session.feed.Goals as goal

pub returns-clause-fed : goal.returns-clause-fed
returns-clause-fed c =
    let n = c.min-count.result in
    let unread : c.add.new.self ≡ c.args.self.now.unread ++ drop n c.args.bytes.now = search rules in
    fed_at c.args.self.now _ c.args.bytes.now n (c.min-count.ensures ∙ ap (λ k. min k (length c.args.bytes.now)) c.skips.ensures) (rw (unread, c.without-self.ensures) refl)
