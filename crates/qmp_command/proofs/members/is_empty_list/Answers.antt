use Rattle.std.proofs.Common.{◌≡◌, Some, length, ◌==◌, sym, ◌∙◌, rules}
use Rattle.serde_json.specs.Find.{as_array}
use Rattle.serde_json.specs.View.{view, items_view}
use Rattle.qmp_command.proofs.Looking.{list_empty}
use Rattle.qmp_command.proofs.members.is_empty_list.Goals as goal

pub returns-in-Some : goal.returns-in-Some
returns-in-Some c =
    let seen : as_array (view c.args.value.now) ≡ Some (items_view c.in-Some.items.now.items) = search rules in
    let none : c.is_empty.result ≡ (length c.in-Some.items.now.items == 0) = search rules in
    none ∙ sym (list_empty (view c.args.value.now) c.in-Some.items.now.items seen)
