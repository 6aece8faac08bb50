use Rattle.std.proofs.Common.{sym, ◌∙◌}
use Rattle.core_events.specs.Views.{plain_request}
use Rattle.drive_core.proofs.Denied.{granted_as}
use Rattle.drive_core.proofs.stepping.serve.Goals as goal

pub returns-in-Some-clause-denied : goal.returns-in-Some-clause-denied
returns-in-Some-clause-denied g c = c.answer_denied.ensures.denied _ _

pub returns-in-None-clause-denied : goal.returns-in-None-clause-denied
returns-in-None-clause-denied g c =
    let alone = g.met.S.Serves.alone c.args.served.now in
    granted_as (g.S.Serves.shown c.args.served.now) (plain_request c.args.request.now) alone.0 alone.1 alone.2 alone.3 _ (sym c.deny.ensures ∙ c.in-None.is)
