use Rattle.std.proofs.Common.{◌+◌, ◌*◌, ◌/◌, ◌^◌, ◌<◌, Bool, List, length, refl, subst, arith, rules}
use Rattle.std.specs.Int.{w64, trailing_zeros}
use Rattle.bitmap_model.specs.Granules.{is_clean, IsNext, HasNoNext}
use Rattle.bits_granular.specs.Words.{bits_of}
use Rattle.bits_granular.proofs.Finding.{none_is, some_is}
use Rattle.bits_granular.proofs.FlagRows.{clean_here, clean_above, clean_nowhere, clean_past, gap_inside}
use Rattle.bits_granular.proofs.flags.Flags.next_unset.Goals as goal

pub returns-then-number-length-clause-none : goal.returns-then-number-length-clause-none
returns-then-number-length-clause-none c =
    none_is (is_clean c.args.self.now) c.args.from
    (subst (λ (bits : List Bool). HasNoNext (is_clean bits) c.args.from) c.self.view_is
    (clean_past c.self.inside.dirty c.args.from c.self.invariant.row (omega (arith, c.length.ensures, c.if-number-length.true))))

pub returns-in-Some-clause-found : goal.returns-in-Some-clause-found
returns-in-Some-clause-found c =
    subst (λ (bits : List Bool). IsNext (is_clean bits) c.args.from (c.args.from / 64 * 64 + c.in-Some.bit)) c.self.view_is
    (clean_here c.self.inside.dirty c.args.from c.in-Some.bit c.clean_word.result c.self.invariant.row c.clean_word.ensures c.in-Some.ensures.found c.in-Some.ensures.within)

pub returns-in-Some-clause-none : goal.returns-in-Some-clause-none
returns-in-Some-clause-none c = some_is (is_clean c.args.self.now) c.args.from (c.args.from / 64 * 64 + c.in-Some.bit) (returns-in-Some-clause-found c)

pub returns-in_err-number-clause-none : goal.returns-in_err-number-clause-none
returns-in_err-number-clause-none c =
    let none : HasNoNext (is_clean (bits_of c.self.inside.dirty)) c.args.from =
    clean_nowhere c.self.inside.dirty (bits_of c.self.inside.gaps) c.args.from c.clean_word.result c.self.invariant.row c.self.invariant.summary c.clean_word.ensures
    (c.in_default.ensures.none.0 refl) (c.in_err-number.ensures.none.0 refl) in
    rw c.from_residual.ensures (none_is (is_clean c.args.self.now) c.args.from (subst (λ (bits : List Bool). HasNoNext (is_clean bits) c.args.from) c.self.view_is none))

pub overflow_mul-result-2 : goal.overflow_mul-result-2
overflow_mul-result-2 c =
    let inside : c.in_ok-number.number < length c.self.inside.dirty.words = gap_inside c.self.inside.dirty (bits_of c.self.inside.gaps) (c.args.from / 64 + 1) c.in_ok-number.number c.self.invariant.summary c.in_ok-number.ensures.found in
    let fits : c.in_ok-number.number * 64 < 2 ^ 64 = omega (arith, inside, c.self.invariant.row.whole, c.self.invariant.row.few) in
    search rules

pub clean_word-requires-2 : goal.clean_word-requires-2
clean_word-requires-2 c = gap_inside c.self.inside.dirty (bits_of c.self.inside.gaps) (c.args.from / 64 + 1) c.in_ok-number.number c.self.invariant.summary c.in_ok-number.ensures.found

pub overflow_add-result-2 : goal.overflow_add-result-2
overflow_add-result-2 c =
    let inside : c.in_ok-number.number < length c.self.inside.dirty.words = gap_inside c.self.inside.dirty (bits_of c.self.inside.gaps) (c.args.from / 64 + 1) c.in_ok-number.number c.self.invariant.summary c.in_ok-number.ensures.found in
    let least : trailing_zeros w64 c.clean_word-2.result < 64 =
    (clean_above c.self.inside.dirty (bits_of c.self.inside.gaps) c.args.from c.in_ok-number.number c.clean_word.result c.clean_word-2.result c.self.invariant.row c.self.invariant.summary
    c.clean_word.ensures (c.in_default.ensures.none.0 refl) c.in_ok-number.ensures.found c.clean_word-2.ensures).0 in
    let fits : c.in_ok-number.number * 64 + trailing_zeros w64 c.clean_word-2.result < 2 ^ 64 = omega (arith, inside, least, c.self.invariant.row.whole, c.self.invariant.row.few) in
    search rules

pub returns-clause-found : goal.returns-clause-found
returns-clause-found c =
    subst (λ (bits : List Bool). IsNext (is_clean bits) c.args.from (c.in_ok-number.number * 64 + trailing_zeros w64 c.clean_word-2.result)) c.self.view_is
    (clean_above c.self.inside.dirty (bits_of c.self.inside.gaps) c.args.from c.in_ok-number.number c.clean_word.result c.clean_word-2.result c.self.invariant.row c.self.invariant.summary
    c.clean_word.ensures (c.in_default.ensures.none.0 refl) c.in_ok-number.ensures.found c.clean_word-2.ensures).1

pub returns-clause-none : goal.returns-clause-none
returns-clause-none c = some_is (is_clean c.args.self.now) c.args.from (c.in_ok-number.number * 64 + trailing_zeros w64 c.clean_word-2.result) (returns-clause-found c)
