use Rattle.std.proofs.Common.{◌+◌, ◌*◌, ℕ, Bool, List, ap, ◌∙◌}
use Rattle.bitmap_model.specs.Granules.{is_in}
use Rattle.bits_granular.specs.Words.{has}
use Rattle.bits_granular.proofs.FlagRows.{word_inside, row_word}
use Rattle.bits_granular.proofs.flags.Flags.word.Goals as goal

pub word-requires : goal.word-requires
word-requires c = word_inside c.self.inside.dirty c.args.self.now c.args.number c.self.invariant.row c.self.view_is c.requires

pub returns : goal.returns
returns c i small =
    ap (λ (x : ℕ). has x i) c.word.ensures
    ∙ (row_word c.self.inside.dirty c.args.number i c.self.invariant.row small ∙ ap (λ (bits : List Bool). is_in bits (c.args.number * 64 + i)) c.self.view_is)
