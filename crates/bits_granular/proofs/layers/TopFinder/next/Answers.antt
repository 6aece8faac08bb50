use Rattle.std.proofs.Common.{[], ◌∷◌, refl, arith}
use Rattle.bitmap_model.specs.Granules.{is_in, HasNoNext}
use Rattle.bits_granular.specs.Words.{has, bits_of, BitRow}
use Rattle.bits_granular.proofs.Rows.{is_in-top, length-bits}
use Rattle.bits_granular.proofs.Finding.{none_is, some_is, past_none, next_same, none_same}
use Rattle.bits_granular.proofs.layers.TopFinder.next.Goals as goal

pub returns-then-from-self-clause-none : goal.returns-then-from-self-clause-none
returns-then-from-self-clause-none c =
    let row : BitRow = record { count = c.args.self.now.count; words = c.args.self.now.word ∷ [] } in
    none_is (is_in (bits_of row)) c.args.from (past_none (bits_of row) c.args.from (omega (arith, length-bits row, c.if-from-self.true)))

pub returns-in_err-bit-clause-none : goal.returns-in_err-bit-clause-none
returns-in_err-bit-clause-none c =
    let row : BitRow = record { count = c.args.self.now.count; words = c.args.self.now.word ∷ [] } in
    let none : HasNoNext (is_in (bits_of row)) c.args.from = none_same (is_in (bits_of row)) (has c.args.self.now.word) c.args.from
    (λ k. is_in-top c.args.self.now.count c.args.self.now.word k c.args.self.now.few (omega arith) c.args.self.now.fits) (c.in_err-bit.ensures.none.0 refl) in
    rw c.from_residual.ensures (none_is (is_in (bits_of row)) c.args.from none)

pub returns-clause-found : goal.returns-clause-found
returns-clause-found c =
    let row : BitRow = record { count = c.args.self.now.count; words = c.args.self.now.word ∷ [] } in
    next_same (is_in (bits_of row)) (has c.args.self.now.word) c.args.from c.in_ok-bit.bit
    (λ k. is_in-top c.args.self.now.count c.args.self.now.word k c.args.self.now.few (omega arith) c.args.self.now.fits) c.in_ok-bit.ensures.found

pub returns-clause-none : goal.returns-clause-none
returns-clause-none c =
    let row : BitRow = record { count = c.args.self.now.count; words = c.args.self.now.word ∷ [] } in
    some_is (is_in (bits_of row)) c.args.from c.in_ok-bit.bit
    (next_same (is_in (bits_of row)) (has c.args.self.now.word) c.args.from c.in_ok-bit.bit
    (λ k. is_in-top c.args.self.now.count c.args.self.now.word k c.args.self.now.few (omega arith) c.args.self.now.fits) c.in_ok-bit.ensures.found)
