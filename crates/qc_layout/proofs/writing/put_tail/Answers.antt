use Rattle.std.proofs.Common.{ℕ, length, take, ◌∙◌, ap, arith}
use Rattle.std.proofs.lemmas.List.{length-take, take_min}
use Rattle.qc_layout.specs.Spelling.{tail_bytes, tail_length}
use Rattle.qc_layout.proofs.Puts.{puts_none, puts_on, puts_as}
use Rattle.qc_layout.proofs.Words.{no_tail_bytes, tail_words}
use Rattle.qc_layout.proofs.writing.put_tail.Goals as goal

pub returns-then-header-le104 : goal.returns-then-header-le104
returns-then-header-le104 c = puts_none (tail_bytes c.args.header.now) c.args.out.now c.args.at (no_tail_bytes c.args.header.now c.if-header-le104.true)

pub slice_bounds-put-end-2 : goal.slice_bounds-put-end-2
slice_bounds-put-end-2 c = omega (arith, length-take c.tail_end.result c.deref.result.now, ap length c.deref.ensures.value)

pub returns : goal.returns
returns c =
    let h = c.args.header.now in
    let kept = h.kept.items.items in
    let same = ap (take c.tail_end.result) c.deref.ensures.value ∙ ap (λ (n : ℕ). take n kept) c.tail_end.ensures ∙ take_min (tail_length h) kept in
    puts_as (tail_words h c.if-header-le104.false) (puts_on c.put-tail.ensures (puts_as same c.put.ensures))
