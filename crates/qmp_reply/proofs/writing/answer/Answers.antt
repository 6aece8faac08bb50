use Rattle.std.proofs.Common.{sym, ◌∙◌}
use Rattle.std.proofs.lemmas.Result.{on_ok_weaker}
use Rattle.serde_json.specs.View.{view}
use Rattle.core_events.specs.Views.{plain_reply}
use Rattle.qmp_command.specs.Views.{seen}
use Rattle.qmp_reply.proofs.Sent.{reply_sent}
use Rattle.qmp_reply.proofs.writing.answer.Goals as goal

pub returns-clause-sent : goal.returns-clause-sent
returns-clause-sent c = on_ok_weaker c.send.result (λ sent bytes runs text d same.
    reply_sent _ _ (view c.in_ok-message.message) (seen c.value_of.result) d (plain_reply c.args.reply.now bytes runs) sent (c.in_ok-message.ensures.plain bytes runs text) c.value_of.ensures.whole (c.value_of.ensures.text ∙ sym same)) c.send.ensures.sent
