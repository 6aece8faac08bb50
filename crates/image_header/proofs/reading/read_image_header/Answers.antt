use Rattle.std.proofs.Common.{List, ℕ, subst}
use Rattle.qc_layout.specs.Spelling.{IsHeaderOf, IsFault}
use Rattle.image_header.proofs.Starting.{headed, read_on, told_refusal}
use Rattle.image_header.proofs.reading.read_image_header.Goals as goal

-- src/reading.rt:37:1
pub returns-in-Ok-clause-header : goal.returns-in-Ok-clause-header
returns-in-Ok-clause-header g c =
    headed c.args.file.0 _ _ _ c.args.part _ c.from_start.ensures c.in_ok-bytes.ensures.start c.in_ok-bytes.ensures.same
    (subst (λ (bytes : List ℕ). IsHeaderOf c.args.part bytes c.in-Ok.header) c.deref.ensures.value c.in-Ok.ensures)

-- src/reading.rt:37:1
pub returns-in-Ok-clause-read : goal.returns-in-Ok-clause-read
returns-in-Ok-clause-read g c =
    read_on c.args.file.0 _ _ c.args.part _ c.from_start.ensures c.in_ok-bytes.ensures.start
    (subst (λ (bytes : List ℕ). IsHeaderOf c.args.part bytes c.in-Ok.header) c.deref.ensures.value c.in-Ok.ensures)

-- src/reading.rt:22:1
pub returns-clause-refused : goal.returns-clause-refused
returns-clause-refused g c =
    told_refusal c.args.file.0 _ _ _ c.args.part c.in-Err.fault _ c.from_start.ensures c.in_ok-bytes.ensures.start c.in_ok-bytes.ensures.same
    (λ other. subst (λ (bytes : List ℕ). IsFault c.args.part bytes c.in-Err.fault) c.deref.ensures.value (c.in-Err.ensures other)) c.of.ensures
