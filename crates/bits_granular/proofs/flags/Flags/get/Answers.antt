use Rattle.std.proofs.Common.{◌/◌, ◌%◌, ◌^◌, ℕ, Bool, List, length, ap, ◌∙◌, arith}
use Rattle.std.specs.Prelude.{◌==◌, bit_and}
use Rattle.bitmap_model.specs.Granules.{is_in}
use Rattle.bits_granular.proofs.Rows.{length-bits, place_inside}
use Rattle.bits_granular.proofs.FlagRows.{row_bit}
use Rattle.bits_granular.proofs.flags.Flags.get.Goals as goal

pub word-requires : goal.word-requires
word-requires c = place_inside c.self.inside.dirty c.args.at c.self.invariant.row (omega (arith, c.requires, length-bits c.self.inside.dirty, ap length c.self.view_is))

pub returns : goal.returns
returns c =
    ap (λ (x : ℕ). bit_and (x / 2 ^ (c.args.at % 64)) 1 == 1) c.word.ensures
    ∙ (row_bit c.self.inside.dirty c.args.at c.self.invariant.row ∙ ap (λ (bits : List Bool). is_in bits c.args.at) c.self.view_is)
