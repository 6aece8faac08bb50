use Rattle.std.proofs.Common.{◌≡◌, ◌+◌, ◌*◌, [], ◌∷◌, sym, ◌∙◌, rules}
use Rattle.std.specs.Int.{from_be_bytes, w16}
use Rattle.disk_model.specs.Files.{byte}
use Rattle.disk_model.proofs.Laws.{u16_bytes}
use Rattle.qc_alloc.proofs.tables.count_at.Goals as goal

pub returns : goal.returns
returns c =
    let at = 2 * c.args.index in
    let known : c.from_be_bytes.result ≡ from_be_bytes w16 (byte c.args.counts.now at ∷ byte c.args.counts.now (at + 1) ∷ []) = search rules in
    known ∙ sym (u16_bytes c.args.counts.now at)
