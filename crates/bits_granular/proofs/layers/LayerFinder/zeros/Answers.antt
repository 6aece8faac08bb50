use Rattle.std.proofs.Common.{◌≡◌, replicate, false, ap, subst, sym, ◌∙◌, List, ℕ}
use Rattle.bits_granular.specs.Words.{IsLayer, words_for, bits_of}
use Rattle.bits_granular.proofs.Rows.{layer-zeros, bits-zeros}
use Rattle.bits_granular.proofs.layers.LayerFinder.zeros.Goals as goal

pub invariant_of-result : goal.invariant_of-result
invariant_of-result g c =
    let words : c.in_ok-words.words.items ≡ replicate (words_for c.args.count) 0 = c.in_ok-words.ensures.items_if_clones_equal (λ _ e. e) ∙ ap (λ (n : ℕ). replicate n 0) c.div_ceil-length.ensures in
    subst (λ (xs : List ℕ). IsLayer (record { count = c.args.count; words = xs }) (g.A.Finder.bits c.in_ok-above.above)) (sym words)
    (layer-zeros c.args.count (g.A.Finder.bits c.in_ok-above.above) c.requires.few (c.in_ok-above.ensures ∙ ap (λ (n : ℕ). replicate n false) c.div_ceil-length.ensures))

pub returns-clause-words : goal.returns-clause-words
returns-clause-words g c =
    ap (λ (xs : List ℕ). record { count = c.args.count; words = xs }) (c.in_ok-words.ensures.items_if_clones_equal (λ _ e. e) ∙ ap (λ (n : ℕ). replicate n 0) c.div_ceil-length.ensures)

pub returns-clause-bits : goal.returns-clause-bits
returns-clause-bits g c = ap bits_of (returns-clause-words g c) ∙ bits-zeros c.args.count (words_for c.args.count)
