use Rattle.std.proofs.Common.{◌≡◌, List, [], ◌∷◌, ◌++◌, sym, ap, subst, ◌∙◌, arith, rules}
use Rattle.std.specs.Prelude.{map}
use Rattle.std.proofs.lemmas.List.{nil_from_length, append-nil, map-append}
use Rattle.std.proofs.lemmas.Bool.{eqb-true}
use Rattle.script_model.specs.Words.{lines_of}
use Rattle.script_model.specs.Lines.{Line, Say, Spells}
use Rattle.script_codec.specs.Views.{plain_line}
use Rattle.script_codec.proofs.GoingOn.{Follows, ReadOn, read_on, bad_on}
use Rattle.script_codec.proofs.reading.read_script.Goals as goal

pub loop-rest-preserved : goal.loop-rest-preserved
loop-rest-preserved c =
    let i = c.loop-rest.invariant in
    let line = c.first_line.ensures.lines in
    let follows : Follows (lines_of c.loop-rest.rest.now) (lines_of c.first_line.result.1.now) c.first_line.result.0.now = record { raw = line.0; cut = line.1; is = line.2 } in
    let form : Spells c.first_line.result.0.now (plain_line c.in-Ok-Some.line) = search rules in
    let pushed : c.push.new.self.items ≡ c.loop-rest.items.items ++ c.in-Ok-Some.line ∷ [] = search rules in
    let mapped : map plain_line c.push.new.self.items ≡ map plain_line c.loop-rest.items.items ++ plain_line c.in-Ok-Some.line ∷ [] = ap (map plain_line) pushed ∙ map-append plain_line c.loop-rest.items.items (c.in-Ok-Some.line ∷ []) in
    record {
      said = subst (λ (read : List Line). ReadOn (lines_of c.first_line.result.1.now) read (lines_of c.args.bytes.now)) (sym mapped) (read_on _ _ _ _ _ _ follows form i.said);
      refused = bad_on _ _ _ _ _ _ follows form i.refused;
      counted = let shorter = c.first_line.ensures.shorter in let counted = i.counted in omega arith;
    }

pub returns-clause-read : goal.returns-clause-read
returns-clause-read c =
    let empty : c.loop-rest.rest.now ≡ [] = nil_from_length _ (eqb-true _ _ (sym c.is_empty.ensures ∙ c.loop-rest-test.false)) in
    let says : Say (lines_of c.loop-rest.rest.now) [] = rw empty tt in
    subst (λ (ls : List Line). Say (lines_of c.args.bytes.now) ls) (append-nil (map plain_line c.loop-rest.items.items)) (c.loop-rest.invariant.said [] says)
