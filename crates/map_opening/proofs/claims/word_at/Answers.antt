use Rattle.std.proofs.Common.{◌≡◌, ◌*◌, take, drop, sym, ◌∙◌, rules}
use Rattle.std.specs.Int.{from_be_bytes, w64}
use Rattle.qc_alloc.proofs.Finding.{word_inside}
use Rattle.map_opening.proofs.claims.word_at.Goals as goal

pub returns : goal.returns
returns c =
    let known : c.from_be_bytes.result ≡ from_be_bytes w64 (take 8 (drop (8 * c.args.index) c.args.words.now)) = search rules in
    known ∙ sym (word_inside c.args.words.now (8 * c.args.index) c.requires)
