use Rattle.std.proofs.Common.{◌≡◌, ◌+◌, ◌∷◌, List, map, drop, sym, ap, ◌∙◌, arith}
use Rattle.std.proofs.lemmas.List.{drop_more}
use Rattle.serde_json.specs.View.{view}
use Rattle.serde_json.specs.declared.value.Value.{Value}
use Rattle.monitor_model.specs.Commands.{actions_from}
use Rattle.qmp_command.proofs.Acting.{after, refused_here}
use Rattle.qmp_command.proofs.transactions.actions_of.Goals as goal

pub returns-in-Err : goal.returns-in-Err
returns-in-Err c =
    let items = c.args.items.now in
    let k = c.loop-number.number in
    let x = c.index-items-number.result in
    let done = c.loop-number.actions.items in
    let from = λ (vs : List Value). after done (actions_from k (map view vs)) in
    let whole : actions_from 0 (map view items) ≡ from (x ∷ drop (k + 1) items) =
    c.loop-number.invariant ∙ ap from (drop_more items k x (omega arith) ∙ ap (λ y. y ∷ drop (k + 1) items) (sym c.index-items-number.is)) in
    refused_here (actions_from 0 (map view items)) done k (view x) (map view (drop (k + 1) items)) c.in-Err.fault whole c.in-Err.ensures
