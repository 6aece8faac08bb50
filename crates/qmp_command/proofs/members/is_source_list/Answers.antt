use Rattle.std.proofs.Common.{◌≡◌, Some, ◌||◌, is_some, sym, ◌∙◌, rules}
use Rattle.serde_json.specs.Find.{as_str, as_object, as_array}
use Rattle.serde_json.specs.View.{view, items_view}
use Rattle.monitor_model.specs.Commands as model
use Rattle.qmp_command.proofs.Looking.{list_tested, is_source-either}
use Rattle.qmp_command.proofs.members.is_source_list.Goals as goal

pub returns-in-Some : goal.returns-in-Some
returns-in-Some c =
    let seen : as_array (view c.args.value.now) ≡ Some (items_view c.deref.result.now) = search rules in
    c.are_sources.ensures ∙ sym (list_tested model.is_source (λ d. is_some (as_str d) || is_some (as_object d)) is_source-either (view c.args.value.now) c.deref.result.now seen)
