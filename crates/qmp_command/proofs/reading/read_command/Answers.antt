use Rattle.std.proofs.Common.{◌≡◌, ◌≢◌, None, Result, Ok, Err, IfOk, IfErr, sym, ap, ◌∙◌, subst, rules}
use Rattle.std.specs.Str.{IsUtf8}
use Rattle.serde_json.specs.Errors.{IsMemory}
use Rattle.serde_json.specs.Read.{read}
use Rattle.serde_json.specs.View.{view}
use Rattle.monitor_model.specs.Commands as model
use Rattle.monitor_model.specs.Commands.{order_of}
use Rattle.qmp_command.specs.Views.{told, TellsId}
use Rattle.qmp_command.specs.declared.orders.QmpFault.TheVariants.{Memory}
use Rattle.qmp_command.proofs.Whole.{order_of-read, order_of-unread}
use Rattle.qmp_command.proofs.reading.read_command.Goals as goal

pub returns-in-Ok-clause-ordered : goal.returns-in-Ok-clause-ordered
returns-in-Ok-clause-ordered c =
    let found = c.in-Ok.ensures.ok in
    let is : order_of c.args.negotiated c.args.message.now ≡ model.order_of_data c.args.negotiated (view c.in-Ok.value) = order_of-read c.args.negotiated c.args.message.now (view c.in-Ok.value) found.0 found.1 in
    subst (λ (o : Result model.Order model.RefusedMessage). IfOk c.order_of.result (λ order. told o ≡ Ok order)) (sym is) c.order_of.ensures.ordered

pub returns-in-Ok-clause-refused : goal.returns-in-Ok-clause-refused
returns-in-Ok-clause-refused c =
    let found = c.in-Ok.ensures.ok in
    let is : order_of c.args.negotiated c.args.message.now ≡ model.order_of_data c.args.negotiated (view c.in-Ok.value) = order_of-read c.args.negotiated c.args.message.now (view c.in-Ok.value) found.0 found.1 in
    subst (λ (o : Result model.Order model.RefusedMessage). IfErr c.order_of.result (λ e. e.fault ≢ Memory → told o ≡ Err e)) (sym is) c.order_of.ensures.refused

pub returns-in-Ok-clause-id : goal.returns-in-Ok-clause-id
returns-in-Ok-clause-id c =
    let found = c.in-Ok.ensures.ok in
    let is : order_of c.args.negotiated c.args.message.now ≡ model.order_of_data c.args.negotiated (view c.in-Ok.value) = order_of-read c.args.negotiated c.args.message.now (view c.in-Ok.value) found.0 found.1 in
    subst (λ (o : Result model.Order model.RefusedMessage). IfErr c.order_of.result (λ e. TellsId e.id o)) (sym is) c.order_of.ensures.id

pub returns-else-is_memory-clause-refused : goal.returns-else-is_memory-clause-refused
returns-else-is_memory-clause-refused c some =
    let other : IsMemory c.in-Err.error → ⊥ = search rules in
    let none : IsUtf8 c.args.message.now → read c.args.message.now ≡ None = c.in-Err.ensures.err other in
    ap told (order_of-unread c.args.negotiated c.args.message.now none) ∙ ap Err (sym c.without_id-else-is_memory.ensures)
