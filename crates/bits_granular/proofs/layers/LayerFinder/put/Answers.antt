use Rattle.std.proofs.Common.{◌≡◌, ◌≢◌, ◌∙◌, ℕ, ◌/◌, ◌%◌, ◌<◌, get_or, set, length, ap, subst, arith}
use Rattle.std.proofs.lemmas.List.{get_or_read}
use Rattle.bits_granular.specs.Words.{BitRow, bits_of, has, FitsWord, with_word}
use Rattle.bits_granular.proofs.Rows.{length-bits, place_inside, bit_fits, put_in_bits}
use Rattle.bits_granular.proofs.layers.LayerFinder.put.Goals as goal

pub index-requires : goal.index-requires
index-requires g c =
    let row : BitRow = record { count = c.self.inside.count; words = c.self.inside.words.items } in
    let place : c.args.at < row.count = omega (arith, c.requires, length-bits c.args.self.now, ap (λ (r : BitRow). r.count) c.self.view_is) in
    omega (arith, place_inside row c.args.at c.self.invariant.row place)

pub put_word-requires-clause-inside : goal.put_word-requires-clause-inside
put_word-requires-clause-inside g c =
    let row : BitRow = record { count = c.self.inside.count; words = c.self.inside.words.items } in
    let place : c.args.at < row.count = omega (arith, c.requires, length-bits c.args.self.now, ap (λ (r : BitRow). r.count) c.self.view_is) in
    subst (λ (r : BitRow). c.args.at / 64 < length r.words) c.self.view_is (place_inside row c.args.at c.self.invariant.row place)

pub put_word-requires-clause-fits : goal.put_word-requires-clause-fits
put_word-requires-clause-fits g c =
    let row : BitRow = record { count = c.self.inside.count; words = c.self.inside.words.items } in
    let place : c.args.at < row.count = omega (arith, c.requires, length-bits c.args.self.now, ap (λ (r : BitRow). r.count) c.self.view_is) in
    let there : c.args.at / 64 < length row.words = place_inside row c.args.at c.self.invariant.row place in
    let others : (i : ℕ) → i < 64 → i ≢ c.args.at % 64 → has c.with_bit-word.result i ≡ has (get_or row.words (c.args.at / 64) 0) i =
    λ i small other. c.with_bit-word.ensures.others i small other ∙ ap (λ (x : ℕ). has x i) (get_or_read row.words (c.args.at / 64) c.index.result.now there c.index.ensures 0) in
    subst (λ (r : BitRow). FitsWord r.count (c.args.at / 64) c.with_bit-word.result) c.self.view_is (bit_fits row c.args.at c.with_bit-word.result c.self.invariant.row place others)

pub returns : goal.returns
returns g c =
    let row : BitRow = record { count = c.self.inside.count; words = c.self.inside.words.items } in
    let place : c.args.at < row.count = omega (arith, c.requires, length-bits c.args.self.now, ap (λ (r : BitRow). r.count) c.self.view_is) in
    let there : c.args.at / 64 < length row.words = place_inside row c.args.at c.self.invariant.row place in
    let others : (i : ℕ) → i < 64 → i ≢ c.args.at % 64 → has c.with_bit-word.result i ≡ has (get_or row.words (c.args.at / 64) 0) i =
    λ i small other. c.with_bit-word.ensures.others i small other ∙ ap (λ (x : ℕ). has x i) (get_or_read row.words (c.args.at / 64) c.index.result.now there c.index.ensures 0) in
    ap bits_of c.put_word.ensures
    ∙ subst (λ (r : BitRow). bits_of (with_word r (c.args.at / 64) c.with_bit-word.result) ≡ set (bits_of r) c.args.at c.args.value) c.self.view_is
    (put_in_bits row.count row.words c.args.at c.with_bit-word.result c.args.value place there c.with_bit-word.ensures.same others)
