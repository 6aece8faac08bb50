use Rattle.std.proofs.Common.{◌+◌, ◌*◌, ◌/◌, ◌<◌, ◌≤◌, length, refl, sym, subst, arith}
use Rattle.std.specs.Int.{w64, trailing_zeros}
use Rattle.std.proofs.lemmas.List.{get_or_read}
use Rattle.bitmap_model.specs.Granules.{is_in, IsNext, HasNoNext}
use Rattle.bits_granular.specs.Words.{BitRow, bits_of}
use Rattle.bits_granular.proofs.Finding.{none_is, some_is, found_in_row, found_over_row, none_in_row, none_past_row, named_inside}
use Rattle.bits_granular.proofs.layers.LayerFinder.next.Goals as goal

pub returns-then-number-len-clause-none : goal.returns-then-number-len-clause-none
returns-then-number-len-clause-none g c =
    let row : BitRow = record { count = c.self.inside.count; words = c.self.inside.words.items } in
    let past : length row.words ≤ c.args.from / 64 = omega (arith, c.len.ensures, c.if-number-len.true) in
    none_is (is_in (bits_of c.args.self.now)) c.args.from
    (subst (λ (r : BitRow). HasNoNext (is_in (bits_of r)) c.args.from) c.self.view_is (none_past_row row c.args.from c.self.invariant.row past))

pub returns-in-Some-clause-found : goal.returns-in-Some-clause-found
returns-in-Some-clause-found g c =
    let row : BitRow = record { count = c.self.inside.count; words = c.self.inside.words.items } in
    let here : c.args.from / 64 < length row.words = omega (arith, c.len.ensures, c.if-number-len.false) in
    subst (λ (r : BitRow). IsNext (is_in (bits_of r)) c.args.from (c.args.from / 64 * 64 + c.in-Some.bit)) c.self.view_is
    (found_in_row row c.args.from c.in-Some.bit c.index.result.now c.self.invariant.row (sym (get_or_read row.words (c.args.from / 64) c.index.result.now here c.index.ensures 0))
    c.in-Some.ensures.found c.in-Some.ensures.within)

pub returns-in-Some-clause-none : goal.returns-in-Some-clause-none
returns-in-Some-clause-none g c = some_is (is_in (bits_of c.args.self.now)) c.args.from (c.args.from / 64 * 64 + c.in-Some.bit) (returns-in-Some-clause-found g c)

pub returns-in_err-number-clause-none : goal.returns-in_err-number-clause-none
returns-in_err-number-clause-none g c =
    let row : BitRow = record { count = c.self.inside.count; words = c.self.inside.words.items } in
    let here : c.args.from / 64 < length row.words = omega (arith, c.len.ensures, c.if-number-len.false) in
    let none : HasNoNext (is_in (bits_of row)) c.args.from =
    none_in_row row (g.A.Finder.bits c.self.inside.above) c.args.from c.index.result.now c.self.invariant
    (sym (get_or_read row.words (c.args.from / 64) c.index.result.now here c.index.ensures 0)) (c.in_default.ensures.none.0 refl) (c.in_err-number.ensures.none.0 refl) in
    rw c.from_residual.ensures (none_is (is_in (bits_of c.args.self.now)) c.args.from (subst (λ (r : BitRow). HasNoNext (is_in (bits_of r)) c.args.from) c.self.view_is none))

pub returns-clause-found : goal.returns-clause-found
returns-clause-found g c =
    let row : BitRow = record { count = c.self.inside.count; words = c.self.inside.words.items } in
    let here : c.args.from / 64 < length row.words = omega (arith, c.len.ensures, c.if-number-len.false) in
    let there : c.in_ok-number.number < length row.words = named_inside row (g.A.Finder.bits c.self.inside.above) (c.args.from / 64 + 1) c.in_ok-number.number c.self.invariant c.in_ok-number.ensures.found in
    subst (λ (r : BitRow). IsNext (is_in (bits_of r)) c.args.from (c.in_ok-number.number * 64 + trailing_zeros w64 c.index-2.result.now)) c.self.view_is
    (found_over_row row (g.A.Finder.bits c.self.inside.above) c.args.from c.in_ok-number.number c.index.result.now c.index-2.result.now c.self.invariant
    (sym (get_or_read row.words (c.args.from / 64) c.index.result.now here c.index.ensures 0)) (c.in_default.ensures.none.0 refl) c.in_ok-number.ensures.found
    (sym (get_or_read row.words c.in_ok-number.number c.index-2.result.now there c.index-2.ensures 0))).1

pub returns-clause-none : goal.returns-clause-none
returns-clause-none g c = some_is (is_in (bits_of c.args.self.now)) c.args.from (c.in_ok-number.number * 64 + trailing_zeros w64 c.index-2.result.now) (returns-clause-found g c)
