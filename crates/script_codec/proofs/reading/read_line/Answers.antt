use Rattle.std.proofs.Common.{◌≡◌, ◌≢◌, rules}
use Rattle.std.specs.Prelude.{codes}
use Rattle.script_model.specs.Lines.{IsNothing}
use Rattle.script_codec.proofs.GoingOn.{qmp_said, none_said}
use Rattle.script_codec.proofs.reading.read_line.Goals as goal

pub returns-then-eq : goal.returns-then-eq
returns-then-eq c =
    let same : c.in_ok-to_vec.field-0.items ≡ c.in-Some.rest.now = search rules in
    let word : c.in-Some.word.now ≡ codes "qmp" = search rules in
    rw same (qmp_said c.args.text.now c.in-Some.word.now c.in-Some.rest.now c.in-Some.ensures word)

pub returns-in-None : goal.returns-in-None
returns-in-None c =
    let some : IsNothing c.args.text.now → ⊥ = λ h. absurd (let t = c.is_nothing.ensures.1 h in let f = c.if-is_nothing.false in cc) in
    let other : c.in-Some.word.now ≢ codes "qmp" = search rules in
    none_said c.args.text.now c.in-Some.word.now c.in-Some.rest.now some c.in-Some.ensures other (rw c.in-None.is at c.in_ok-request.ensures)
