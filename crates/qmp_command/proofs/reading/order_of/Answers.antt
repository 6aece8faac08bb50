use Rattle.std.proofs.Common.{◌≡◌, ℕ, List, false, Option, Some, None, option_map, Ok, Err, sym, ap, ◌∙◌, rules}
use Rattle.std.specs.Prelude.{codes}
use Rattle.serde_json.specs.View.{view}
use Rattle.serde_json.specs.Written.{compact_text}
use Rattle.core_events.specs.declared.commands.Command.{Command}
use Rattle.monitor_model.specs.Commands as model
use Rattle.qmp_command.specs.Views.{told, order_with}
use Rattle.qmp_command.specs.declared.orders.Order.TheVariants.{Negotiate, Run}
use Rattle.qmp_command.specs.declared.orders.QmpRefusal.{QmpRefusal}
use Rattle.qmp_command.specs.declared.orders.Refused.{Refused}
use Rattle.qmp_command.proofs.Whole.{order_of_data-named, tells_id}
use Rattle.qmp_command.proofs.reading.order_of.Goals as goal

pub returns-in-Ok-Some-clause-ordered : goal.returns-in-Ok-Some-clause-ordered
returns-in-Ok-Some-clause-ordered c =
    let n = c.args.negotiated in
    let d = view c.args.value.now in
    let name = c.in-Some.name.now in
    let id = model.get (codes "id") (model.members_in (Some d)) in
    let named : model.text_in (model.get (codes "execute") (model.members_in (Some d))) ≡ Some name = search rules in
    let whole : model.id_has_float id ≡ false = search rules in
    let told_id : c.in-Ok.id ≡ option_map compact_text id = search rules in
    let is : c.in-Ok-Some.field-0 ≡ Some c.in-Ok-Some.command = search rules in
    ap told (order_of_data-named n d name named whole ∙ c.in-Ok-Some.ensures id ∙ ap (λ (asked : Option Command). Ok (order_with id asked)) is) ∙ ap (λ (i : Option (List ℕ)). Ok (Run c.in-Ok-Some.command i)) (sym told_id)

pub returns-in-Ok-None-clause-ordered : goal.returns-in-Ok-None-clause-ordered
returns-in-Ok-None-clause-ordered c =
    let n = c.args.negotiated in
    let d = view c.args.value.now in
    let name = c.in-Some.name.now in
    let id = model.get (codes "id") (model.members_in (Some d)) in
    let named : model.text_in (model.get (codes "execute") (model.members_in (Some d))) ≡ Some name = search rules in
    let whole : model.id_has_float id ≡ false = search rules in
    let told_id : c.in-Ok.id ≡ option_map compact_text id = search rules in
    let is : c.in-Ok-None.field-0 ≡ None = search rules in
    ap told (order_of_data-named n d name named whole ∙ c.in-Ok-None.ensures id ∙ ap (λ (asked : Option Command). Ok (order_with id asked)) is) ∙ ap (λ (i : Option (List ℕ)). Ok (Negotiate i)) (sym told_id)

-- a refusal with this id
abbrev with_id : Option (List ℕ) → Refused → QmpRefusal
with_id id r = record { fault = r.fault; action = r.action; id = id }

pub returns-in-Err-asked-clause-refused : goal.returns-in-Err-asked-clause-refused
returns-in-Err-asked-clause-refused c some =
    let n = c.args.negotiated in
    let d = view c.args.value.now in
    let name = c.in-Some.name.now in
    let id = model.get (codes "id") (model.members_in (Some d)) in
    let named : model.text_in (model.get (codes "execute") (model.members_in (Some d))) ≡ Some name = search rules in
    let whole : model.id_has_float id ≡ false = search rules in
    let told_id : c.in-Ok.id ≡ option_map compact_text id = search rules in
    let due = c.in-Err-asked.ensures some in
    ap told (order_of_data-named n d name named whole ∙ due.2 id)
    ∙ ap (λ (r : Refused). Err (with_id (option_map compact_text id) r)) due.1
    ∙ ap (λ (i : Option (List ℕ)). Err (with_id i c.in-Err-asked.refused)) (sym told_id)

pub returns-in-Err-asked-clause-id : goal.returns-in-Err-asked-clause-id
returns-in-Err-asked-clause-id c =
    let d = view c.args.value.now in
    let named : model.text_in (model.get (codes "execute") (model.members_in (Some d))) ≡ Some c.in-Some.name.now = search rules in
    let whole : model.id_has_float (model.get (codes "id") (model.members_in (Some d))) ≡ false = search rules in
    let text : c.in-Ok.id ≡ option_map compact_text (model.get (codes "id") (model.members_in (Some d))) = search rules in
    tells_id c.args.negotiated d c.in-Some.name.now c.in-Ok.id named whole text
