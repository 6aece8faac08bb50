use Rattle.std.proofs.Common.{◌≡◌, Some, is_some, sym, ◌∙◌, rules}
use Rattle.serde_json.specs.Find.{as_object, as_array}
use Rattle.serde_json.specs.View.{view, items_view}
use Rattle.monitor_model.specs.Commands as model
use Rattle.qmp_command.proofs.Looking.{list_tested, is_object-as_object}
use Rattle.qmp_command.proofs.members.is_object_list.Goals as goal

pub returns-in-Some : goal.returns-in-Some
returns-in-Some c =
    let seen : as_array (view c.args.value.now) ≡ Some (items_view c.deref.result.now) = search rules in
    c.are_objects.ensures ∙ sym (list_tested model.is_object (λ d. is_some (as_object d)) is_object-as_object (view c.args.value.now) c.deref.result.now seen)
