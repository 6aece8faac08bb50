use Rattle.std.proofs.Common.{⊎_elim, ap, sym, ◌∙◌, Ok}
use Rattle.qc_layout.proofs.PlainLaws.{l2_stored, l2_hole, l2_plain}
use Rattle.qback_top.proofs.opening.host_in.Goals as goal

pub returns-in-Ok-Stored : goal.returns-in-Ok-Stored
returns-in-Ok-Stored c =
    let s = l2_stored 12 c.args.entry c.in-Ok-Stored.offset (sym c.read_l2.ensures ∙ c.in-Ok-Stored.is ∙ ap Ok c.in-Ok-Stored.field-0-is) in
    (record { plain = s.plain; aligned = s.aligned }, s.is)

pub returns-else-entry-eq0 : goal.returns-else-entry-eq0
returns-else-entry-eq0 c = λ named. c.if-entry-eq0.false (named.plain.zero_or_stored (l2_hole 12 c.args.entry (sym c.read_l2.ensures ∙ c.in-Ok-Hole.is ∙ ap Ok c.in-Ok-Hole.field-0-is)))

pub returns-in-Ok-Zero : goal.returns-in-Ok-Zero
returns-in-Ok-Zero c = λ named.
    let told = sym c.read_l2.ensures ∙ c.in-Ok-Zero.is ∙ ap Ok c.in-Ok-Zero.field-0-is in
    ⊎_elim (λ hole. let t = sym hole ∙ told in cc) (λ stored. let t = sym stored ∙ told in cc) (l2_plain 12 c.args.entry named.plain named.aligned)

pub returns-in-Ok-Compressed : goal.returns-in-Ok-Compressed
returns-in-Ok-Compressed c = λ named.
    let told = sym c.read_l2.ensures ∙ c.in-Ok-Compressed.is ∙ ap Ok c.in-Ok-Compressed.field-0-is in
    ⊎_elim (λ hole. let t = sym hole ∙ told in cc) (λ stored. let t = sym stored ∙ told in cc) (l2_plain 12 c.args.entry named.plain named.aligned)

pub returns-in-Err : goal.returns-in-Err
returns-in-Err c = λ named.
    let told = sym c.read_l2.ensures ∙ c.in-Err.is in
    ⊎_elim (λ hole. let t = sym hole ∙ told in cc) (λ stored. let t = sym stored ∙ told in cc) (l2_plain 12 c.args.entry named.plain named.aligned)
