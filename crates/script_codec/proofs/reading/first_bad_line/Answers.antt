use Rattle.std.proofs.Common.{◌≡◌, [], not, sym, ap, ◌∙◌, arith}
use Rattle.std.proofs.lemmas.List.{nil_from_length}
use Rattle.std.proofs.lemmas.Bool.{eqb-true}
use Rattle.script_model.specs.Words.{lines_of}
use Rattle.script_model.specs.Lines.{Say}
use Rattle.script_codec.proofs.GoingOn.{Follows, goes_on, bad_on, form_found}
use Rattle.script_codec.proofs.reading.first_bad_line.Goals as goal

pub loop-rest-preserved : goal.loop-rest-preserved
loop-rest-preserved c =
    let i = c.loop-rest.invariant in
    let line = c.first_line.ensures.lines in
    let follows : Follows (lines_of c.loop-rest.rest.now) (lines_of c.first_line.result.1.now) c.first_line.result.0.now = record { raw = line.0; cut = line.1; is = line.2 } in
    let form = form_found c.in_ok-read_line.field-0 c.first_line.result.0.now (c.is_none.ensures ∙ ap not c.if-is_none.false) c.in_ok-read_line.ensures in
    record {
      said = goes_on _ _ _ _ _ follows form.1 i.said;
      refused = bad_on _ _ _ _ _ _ follows form.1 i.refused;
      counted = let shorter = c.first_line.ensures.shorter in let counted = i.counted in omega arith;
    }

pub returns : goal.returns
returns c =
    let empty : c.loop-rest.rest.now ≡ [] = nil_from_length _ (eqb-true _ _ (sym c.is_empty.ensures ∙ c.loop-rest-test.false)) in
    let says : Say (lines_of c.loop-rest.rest.now) [] = rw empty tt in
    c.loop-rest.invariant.said [] says
