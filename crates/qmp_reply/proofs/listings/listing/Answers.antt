use Rattle.std.proofs.Common.{◌≡◌, ◌<◌, length, get_or, take, map, sym, ap, subst, ◌∙◌, rules, arith}
use Rattle.std.proofs.lemmas.Grind.{common_steps}
use Rattle.std.proofs.lemmas.List.{take_all, take_more}
use Rattle.serde_json.specs.Data.{array}
use Rattle.serde_json.specs.View.{view, items_of}
use Rattle.serde_json.proofs.Views.{view-Array}
use Rattle.qmp_reply.proofs.listings.listing.Goals as goal

pub loop-one-preserved : goal.loop-one-preserved
loop-one-preserved g c all =
    let xs = c.args.listed.now.items in
    let i = c.loop-one.one-index in
    let x = c.one-item.result in
    let within : i < length xs = omega arith in
    let is : x ≡ get_or xs i x = search rules in
    let shown : view c.in_ok-value.field-0 ≡ g.T.Listed.shown x = c.in_ok-value.ensures (subst g.T.Listed.is_text (sym is) (all i x within)) in
    grind (arith, common_steps, take_more, c.loop-one.invariant all, shown)

pub returns : goal.returns
returns g c all =
    let xs = c.args.listed.now.items in
    let whole : take c.loop-one.one-index xs ≡ xs = take_all c.loop-one.one-index xs (omega arith) in
    view-Array c.loop-one.values ∙ ap (λ ds. array (items_of ds)) (c.loop-one.invariant all ∙ ap (map g.T.Listed.shown) whole)
