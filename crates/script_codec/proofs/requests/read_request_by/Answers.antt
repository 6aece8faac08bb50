use Rattle.std.proofs.Common.{◌≢◌, rules}
use Rattle.std.specs.Prelude.{codes}
use Rattle.script_model.specs.Lines.{Write, Read, Zero, View, Status}
use Rattle.script_codec.proofs.FormLaws.{asked_by, no_verb}
use Rattle.script_codec.proofs.requests.read_request_by.Goals as goal

pub returns-then-eq : goal.returns-then-eq
returns-then-eq c = asked_by c.args.word.now c.args.text.now Write c.write_request.result (search rules) c.write_request.ensures

pub returns-then-eq-2 : goal.returns-then-eq-2
returns-then-eq-2 c = asked_by c.args.word.now c.args.text.now Read c.read_request.result (search rules) c.read_request.ensures

pub returns-then-eq-3 : goal.returns-then-eq-3
returns-then-eq-3 c = asked_by c.args.word.now c.args.text.now Zero c.zero_request.result (search rules) c.zero_request.ensures

pub returns-then-eq-4 : goal.returns-then-eq-4
returns-then-eq-4 c = asked_by c.args.word.now c.args.text.now View c.view_request.result (search rules) c.view_request.ensures

pub returns-then-eq-5 : goal.returns-then-eq-5
returns-then-eq-5 c = asked_by c.args.word.now c.args.text.now Status c.status_request.result (search rules) c.status_request.ensures

pub returns : goal.returns
returns c =
    let a : c.args.word.now ≢ codes "write" = search rules in
    let b : c.args.word.now ≢ codes "read" = search rules in
    let d : c.args.word.now ≢ codes "zero" = search rules in
    let e : c.args.word.now ≢ codes "view" = search rules in
    let f : c.args.word.now ≢ codes "status" = search rules in
    no_verb c.args.word.now c.args.text.now a b d e f
