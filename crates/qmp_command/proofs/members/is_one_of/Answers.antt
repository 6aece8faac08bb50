use Rattle.std.proofs.Common.{◌≡◌, ℕ, List, map, Bor, Some, bytes_eq, sym, ◌∙◌, rules}
use Rattle.serde_json.specs.Find.{as_str}
use Rattle.serde_json.specs.View.{view}
use Rattle.qmp_command.proofs.Looking.{is_one_of-as_str, list_any-map}
use Rattle.qmp_command.proofs.members.is_one_of.Goals as goal

pub returns-in-Some : goal.returns-in-Some
returns-in-Some c =
    let s = c.in-Some.text.now in
    let plain = λ (w : Bor (List ℕ)). w.now in
    let seen : as_str (view c.args.value.now) ≡ Some s = search rules in
    c.is_among.ensures ∙ sym (is_one_of-as_str (map plain c.args.words.now) (view c.args.value.now) s seen ∙ list_any-map (λ w. bytes_eq w s) plain c.args.words.now)
