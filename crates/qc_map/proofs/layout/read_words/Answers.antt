use Rattle.std.proofs.Common.{◌≡◌, ◌+◌, ◌*◌, ◌≤◌, ℕ, ap, ◌∙◌, sym, length, arith}
use Rattle.std.proofs.lemmas.Result.{on_ok_weaker}
use Rattle.disk_model.specs.Files.{reading, u64_at}
use Rattle.file_device.specs.File.{file_of, Gives}
use Rattle.image_model.specs.Clusters.{pick}
use Rattle.qc_map.proofs.Words.{words_there, word_cleared}
use Rattle.qc_map.proofs.layout.read_words.Goals as goal

pub returns-clause-words : goal.returns-clause-words
returns-clause-words g c =
    let file = file_of (g.D.Outside.world c.args.depot.now) c.args.file.0 in
    let row = c.read.new.out in
    let n = length c.args.row.now in
    let table = c.args.table in
    on_ok_weaker {P = Gives file (λ b. row ≡ reading b (table + 8 * c.args.slot) n)} {Q = Gives file (λ b. (m : ℕ) → 8 * m + 8 ≤ n → u64_at row (8 * m) ≡ pick table (u64_at b (table + 8 * (c.args.slot + m))))} c.read.result
    (λ is told. words_there file.bytes row table c.args.slot n (let some = c.if-table-eq0.false in omega (arith, some)) (is told)) c.read.ensures.bytes

pub returns-then-table-eq0-clause-words : goal.returns-then-table-eq0-clause-words
returns-then-table-eq0-clause-words g c = λ told m inside.
    let bytes = (file_of (g.D.Outside.world c.args.depot.now) c.args.file.0).bytes in
    word_cleared c.clear.new.bytes (length c.args.row.now) m c.clear.ensures inside
    ∙ sym (ap (λ (t : ℕ). pick t (u64_at bytes (c.args.table + 8 * (c.args.slot + m)))) c.if-table-eq0.true)
