use Rattle.std.proofs.Common.{sym, ◌∙◌}
use Rattle.std.proofs.lemmas.Result.{on_ok_weaker}
use Rattle.serde_json.specs.View.{view}
use Rattle.monitor_model.specs.Replies as model
use Rattle.qmp_command.specs.Views.{seen}
use Rattle.qmp_reply.proofs.Sent.{refusal_sent}
use Rattle.qmp_reply.proofs.writing.refused.Goals as goal

pub returns-clause-any : goal.returns-clause-any
returns-clause-any c = on_ok_weaker c.send.result (λ sent fault is d same.
    refusal_sent _ _ (view c.in_ok-message.message) (seen c.value_of.result) d (model.fault_class fault) c.args.refusal.now.action (model.message_fault_text fault)
    sent (c.in_ok-message.ensures.any fault is) c.value_of.ensures.whole (c.value_of.ensures.text ∙ sym same)) c.send.ensures.sent
