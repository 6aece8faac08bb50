use Rattle.std.proofs.Common.{sym, subst}
use Rattle.std.specs.Str.{IsUtf8}
use Rattle.std.proofs.lemmas.Str.{IsUtf8-from_ascii}
use Rattle.std.proofs.lemmas.Fmt.{IsAscii-decimal}
use Rattle.script_codec.proofs.Numbers.{plain_number, number_found}
use Rattle.script_codec.proofs.words.number.Goals as goal

pub returns-then-not-is_plain : goal.returns-then-not-is_plain
returns-then-not-is_plain c = λ n h. absurd (let p = c.is_plain.ensures.1 (plain_number c.args.text.now n h) in let q = c.if-not-is_plain.true in cc)

pub returns-in-Err : goal.returns-in-Err
returns-in-Err c = λ n h. c.in-Err.ensures.cases.0 (subst IsUtf8 (sym h.spelled) (IsUtf8-from_ascii _ (IsAscii-decimal n h.fits)))

pub returns-in-Ok : goal.returns-in-Ok
returns-in-Ok c = number_found c.args.text.now c.parse.result c.ok.result c.ok.ensures.value (c.is_plain.ensures.0 c.if-not-is_plain.false) (rw c.in-Ok.ensures.cases.0 at c.parse.ensures.value.0)
