use Rattle.std.proofs.Common.{◌^◌, ◌<◌, length, subst, sym, arith}
use Rattle.bits_granular.specs.Words.{BitRow, FitsWord}
use Rattle.bits_granular.proofs.Rows.{layer-put, layer-keep}
use Rattle.bits_granular.proofs.layers.Layer.put_word.Goals.{then-word-index, else-word-index}
use Rattle.bits_granular.proofs.layers.Layer.put_word.Goals as goal

pub invariant_of-self : goal.invariant_of-self
invariant_of-self g c =
    let row : BitRow = record { count = c.self.inside.count; words = c.self.inside.words.items } in
    let inside : c.args.number < length row.words = subst (λ (r : BitRow). c.args.number < length r.words) (sym c.self.view_is) c.requires.inside in
    let fits : FitsWord row.count c.args.number c.args.word = subst (λ (r : BitRow). FitsWord r.count c.args.number c.args.word) (sym c.self.view_is) c.requires.fits in
    let small : c.args.word < 2 ^ 64 = omega arith in
    elim c.if-word-index.branch [
      | then-word-index w ↦ rw w.self-inside-is
          (layer-put row (g.A.Finder.bits c.self.inside.above) (g.A.Finder.bits w.put.new.self) c.args.number c.args.word c.self.invariant inside small fits w.put.ensures)
      | else-word-index w ↦ rw w.self-inside-is
          (layer-keep row (g.A.Finder.bits c.self.inside.above) c.args.number c.args.word c.index.result.now c.self.invariant inside small fits c.index.ensures w.if-word-index.false)
    ]
