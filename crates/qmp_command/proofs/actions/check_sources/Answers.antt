use Rattle.std.proofs.Common.{◌≡◌, ◌+◌, ◌∷◌, List, map, drop, true, None, is_some, Result, Err, MatchResult, sym, ap, ◌∙◌, subst, arith, rules}
use Rattle.std.specs.Prelude.{⊤}
use Rattle.std.proofs.lemmas.List.{drop_more}
use Rattle.serde_json.specs.Find.{as_object}
use Rattle.serde_json.specs.View.{view}
use Rattle.serde_json.specs.declared.value.Value.{Value}
use Rattle.monitor_model.specs.Commands.{first_of, source_fault}
use Rattle.qmp_command.specs.Views.{Tells}
use Rattle.qmp_command.specs.declared.orders.QmpFault.{QmpFault}
use Rattle.qmp_command.proofs.Giving.{first_told, source_fault-object}
use Rattle.qmp_command.proofs.actions.check_sources.Goals as goal

pub returns-in_err-check : goal.returns-in_err-check
returns-in_err-check c =
    let items = c.args.items.now in
    let i = c.loop-item.item-index in
    let x = c.item-item.result in
    let e = c.in_err-check.field-0.0 in
    let due = λ (vs : List Value). first_of (map source_fault (map view vs)) in
    let whole : due items ≡ due (x ∷ drop (i + 1) items) =
    c.loop-item.invariant ∙ ap due (drop_more items i x (omega arith) ∙ ap (λ y. y ∷ drop (i + 1) items) (sym c.item-item.is)) in
    let is : is_some (as_object (view x)) ≡ true = search rules in
    let told : Tells (source_fault (view x)) e = subst (λ o. Tells o e) (sym (source_fault-object (view x) is)) c.in_err-check.ensures in
    let all : Tells (due items) e = subst (λ o. Tells o e) (sym whole) (first_told (source_fault (view x)) (map source_fault (map view (drop (i + 1) items))) e told) in
    let given : c.from_residual.result ≡ Err e = search rules in
    subst (λ (r : Result ⊤ QmpFault). MatchResult r (λ _. due items ≡ None) (Tells (due items))) (sym given) all
