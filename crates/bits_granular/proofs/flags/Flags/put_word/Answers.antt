use Rattle.std.proofs.Common.{◌+◌, ◌-◌, ◌<◌, ◌≤◌, ◌^◌, ℕ, not, Bool, List, length, set, ap, sym, subst, ◌∙◌, arith, rules}
use Rattle.std.specs.Prelude.{◌==◌, count_ones}
use Rattle.bitmap_model.proofs.Sets.{length-set_of}
use Rattle.bits_granular.specs.Words.{BitRow, bits_of, IsCounted, has_gap, full_word, with_word, HasWord}
use Rattle.bits_granular.proofs.FlagRows.{word_inside, word_begins, fits_row, has-word, counted-put, count_few, word_ones}
use Rattle.bits_granular.proofs.flags.Flags.put_word.Goals as goal

pub word-old-requires : goal.word-old-requires
word-old-requires c = word_inside c.self.inside.dirty c.args.self.now c.args.number c.self.invariant.row c.self.view_is c.requires.inside

pub overflow_add-self : goal.overflow_add-self
overflow_add-self c =
    let few : c.self.inside.ones ≤ 2 ^ 27 = count_few c.self.inside.dirty (bits_of c.self.inside.gaps) c.self.inside.ones c.self.invariant in
    let more : count_ones c.args.word ≤ 64 = word_ones c.args.word (omega arith) in
    let fits : c.self.inside.ones - count_ones c.word-old.result + count_ones c.args.word < 2 ^ 64 = omega (arith, few, more) in
    search rules

pub all_of-requires : goal.all_of-requires
all_of-requires c =
    omega (
      arith,
      c.count-count.ensures.count,
      word_begins c.self.inside.dirty c.args.number c.self.invariant.row
          (word_inside c.self.inside.dirty c.args.self.now c.args.number c.self.invariant.row c.self.view_is c.requires.inside),
    )

pub put-requires : goal.put-requires
put-requires c =
    omega (
      arith,
      ap length c.self.invariant.summary,
      length-set_of (length c.self.inside.dirty.words) (has_gap c.self.inside.dirty),
      word_inside c.self.inside.dirty c.args.self.now c.args.number c.self.invariant.row c.self.view_is c.requires.inside,
    )

pub put_word-requires-clause-inside : goal.put_word-requires-clause-inside
put_word-requires-clause-inside c = word_inside c.self.inside.dirty c.args.self.now c.args.number c.self.invariant.row c.self.view_is c.requires.inside

pub put_word-requires-clause-fits : goal.put_word-requires-clause-fits
put_word-requires-clause-fits c = fits_row c.self.inside.dirty c.args.self.now c.args.number c.args.word c.self.view_is c.requires.fits

pub invariant_of-self : goal.invariant_of-self
invariant_of-self c =
    subst (λ (r : BitRow). IsCounted r (bits_of c.put.new.self) (c.self.inside.ones - count_ones c.word-old.result + count_ones c.args.word)) (sym c.put_word.ensures)
    (counted-put c.self.inside.dirty (bits_of c.self.inside.gaps) (bits_of c.put.new.self) c.self.inside.ones c.args.number c.args.word c.word-old.result c.self.invariant
    (word_inside c.self.inside.dirty c.args.self.now c.args.number c.self.invariant.row c.self.view_is c.requires.inside) (omega arith)
    (fits_row c.self.inside.dirty c.args.self.now c.args.number c.args.word c.self.view_is c.requires.fits) c.word-old.ensures
    (c.put.ensures ∙ ap (λ (x : ℕ). set (bits_of c.self.inside.gaps) c.args.number (not (c.args.word == x)))
    (c.all_of.ensures ∙ ap (λ (n : ℕ). full_word n c.args.number) c.count-count.ensures.count)))

pub returns : goal.returns
returns c =
    let word : HasWord (bits_of c.self.inside.dirty) (bits_of (with_word c.self.inside.dirty c.args.number c.args.word)) c.args.number c.args.word =
    has-word c.self.inside.dirty c.args.number c.args.word c.self.invariant.row
    (word_inside c.self.inside.dirty c.args.self.now c.args.number c.self.invariant.row c.self.view_is c.requires.inside) (omega arith)
    (fits_row c.self.inside.dirty c.args.self.now c.args.number c.args.word c.self.view_is c.requires.fits) in
    subst (λ (old : List Bool). HasWord old (bits_of c.put_word.new.self) c.args.number c.args.word) c.self.view_is
    (subst (λ (r : BitRow). HasWord (bits_of c.self.inside.dirty) (bits_of r) c.args.number c.args.word) (sym c.put_word.ensures) word)
