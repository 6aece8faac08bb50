use Rattle.std.proofs.Common.{◌≡◌, ◌∙◌, subst, rules}
use Rattle.qc_layout.specs.declared.header.Own.{Own}
use Rattle.qc_layout.specs.Spelling.{IsSmall, Fits, sector_of}
use Rattle.toy_image.specs.Images.{cleared}
use Rattle.toy_image.proofs.Raising.{next_spelled}
use Rattle.toy_image.proofs.image.head.Goals as goal

pub returns : goal.returns
returns c = λ file written id epoch offset long spelled own left size read.
    let is = c.next_own-next.ensures id epoch offset long own left in
    let h = c.args.header in
    next_spelled h file written id epoch offset long (subst (λ (o : Own). IsSmall (record h { own = o; fields = cleared h.fields })) is c.write_header.ensures.small) (search rules) spelled own size
    (λ fits. read ∙ subst (λ (o : Own). Fits (record h { own = o; fields = cleared h.fields }) → c.write_header.new.out ≡ sector_of (record h { own = o; fields = cleared h.fields })) is c.write_header.ensures.sector fits)
