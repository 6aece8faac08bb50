use Rattle.std.proofs.Common.{◌≡◌, ◌<◌, [], ◌∷◌, ◌∙◌, arith, rules}
use Rattle.bits_granular.specs.Words.{BitRow}
use Rattle.bits_granular.proofs.Rows.{length-bits, top_put}
use Rattle.bits_granular.proofs.layers.TopFinder.put.Goals as goal

pub overflow_cast-at : goal.overflow_cast-at
overflow_cast-at c =
    let row : BitRow = record { count = c.args.self.now.count; words = c.args.self.now.word ∷ [] } in
    let small : c.args.at < 64 = omega (arith, length-bits row, c.requires, c.args.self.now.few) in
    search rules

pub with_bit-self-requires : goal.with_bit-self-requires
with_bit-self-requires c =
    let row : BitRow = record { count = c.args.self.now.count; words = c.args.self.now.word ∷ [] } in
    omega (arith, length-bits row, c.requires, c.args.self.now.few)

pub invariant_of-self : goal.invariant_of-self
invariant_of-self c =
    let row : BitRow = record { count = c.args.self.now.count; words = c.args.self.now.word ∷ [] } in
    record {
      few = c.args.self.now.few;
      fits = λ i inside past. c.with_bit-self.ensures.others i inside (λ (e : i ≡ c.args.at). omega (arith, e, length-bits row, c.requires, past)) ∙ c.args.self.now.fits i inside past;
    }

pub returns : goal.returns
returns c =
    let row : BitRow = record { count = c.args.self.now.count; words = c.args.self.now.word ∷ [] } in
    top_put c.args.self.now.count c.args.self.now.word c.args.at c.with_bit-self.result c.args.value (omega (arith, length-bits row, c.requires)) c.args.self.now.few
    c.with_bit-self.ensures.same c.with_bit-self.ensures.others
