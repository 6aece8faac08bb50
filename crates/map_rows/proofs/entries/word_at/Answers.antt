use Rattle.std.proofs.Common.{◌≡◌, ◌*◌, take, drop, sym, ◌∙◌, rules}
use Rattle.std.specs.Int.{from_be_bytes, w64}
use Rattle.disk_model.proofs.Laws.{number_read, reading_inside}
use Rattle.map_rows.proofs.entries.word_at.Goals as goal

pub returns : goal.returns
returns c =
    let known : c.from_be_bytes.result ≡ from_be_bytes w64 (take 8 (drop (8 * c.args.index) c.args.entries.now)) = search rules in
    known ∙ sym (number_read w64 c.args.entries.now (take 8 (drop (8 * c.args.index) c.args.entries.now)) (8 * c.args.index) (reading_inside c.args.entries.now (8 * c.args.index) 8 c.requires))
