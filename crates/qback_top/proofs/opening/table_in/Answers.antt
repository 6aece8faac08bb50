use Rattle.std.proofs.Common.{ap, sym, ◌∙◌, Ok}
use Rattle.qc_layout.proofs.PlainLaws.{l1_some, l1_none, l1_plain}
use Rattle.qback_top.proofs.opening.table_in.Goals as goal

pub returns-in-Ok-Some : goal.returns-in-Ok-Some
returns-in-Ok-Some c =
    let s = l1_some 12 c.args.entry c.in-Ok-Some.offset (sym c.read_l1.ensures ∙ c.in-Ok-Some.is ∙ ap Ok c.in-Ok-Some.field-0-is) in
    (record { plain = s.plain; aligned = s.aligned }, s.is)

pub returns-else-entry-eq0 : goal.returns-else-entry-eq0
returns-else-entry-eq0 c = λ named. c.if-entry-eq0.false (named.plain.zero_or_stored (l1_none 12 c.args.entry (sym c.read_l1.ensures ∙ c.in-Ok-None.is ∙ ap Ok c.in-Ok-None.field-0-is)))

pub returns-in-Err : goal.returns-in-Err
returns-in-Err c = λ named. let told = sym c.in-Err.is ∙ c.read_l1.ensures ∙ l1_plain 12 c.args.entry named.plain named.aligned in cc
