use Rattle.std.proofs.Common.{◌≡◌, ℕ, ◌+◌, ◌-◌, ◌<◌, sym, ap, subst, ◌∙◌, arith}
use Rattle.span_algebra.specs.declared.lists.Run.{Run}
use Rattle.std.specs.Prelude.{Option}
use Rattle.qc_map.specs.Telling.{Tells, GoesOn}
use Rattle.qc_map.proofs.Joining.{upto, row_step, row_done, row_piece, all_later}
use Rattle.qc_map.proofs.telling.add_row.Goals as goal

pub returns-in_err-held-clause-goes : goal.returns-in_err-held-clause-goes
returns-in_err-held-clause-goes c flags at d first old start is tells =
    let inv = c.loop-index.invariant in
    let part = c.args.part.now in
    let g = c.args.cluster in
    let m = c.loop-index.index in
    let inside : m < part.count = omega arith in
    let rs = row_step g part.from part.length part.count m inside c.requires.inside c.requires.bytes c.requires.covers c.requires.least in
    let next : Run = record { length = c.min-high.result - c.max-low.result; flags = c.flags_at.result } in
    let some : 0 < c.min-high.result - c.max-low.result = omega (arith, rs.0, c.min-high.ensures, c.max-low.ensures) in
    let piece = row_piece g flags at d first m part c.args.row.now next is inside c.requires.inside c.flags_at.ensures.flags some rs.1 (omega (arith, c.min-high.ensures, c.max-low.ensures)) rs.0 in
    let all = c.in_err-held.ensures.goes g flags at (d + upto g part.from part.length m) (first + m) old (omega (arith, c.requires.inside)) start (inv.goes flags at d first old start is tells) piece in
    subst (λ (r : Option Run). GoesOn g flags at (d + part.length) old c.add.new.out.items.items r) (sym c.from_residual.ensures)
    (all_later g flags at (d + upto g part.from part.length m + (c.min-high.result - c.max-low.result)) (d + part.length) old c.add.new.out.items.items (omega (arith, rs.0, rs.1, c.min-high.ensures, c.max-low.ensures)) all)

pub loop-index-preserved : goal.loop-index-preserved
loop-index-preserved c =
    let inv = c.loop-index.invariant in
    let part = c.args.part.now in
    let g = c.args.cluster in
    let m = c.loop-index.index in
    let e = c.in_ok-held.ensures in
    let inside : m < part.count = omega arith in
    let rs = row_step g part.from part.length part.count m inside c.requires.inside c.requires.bytes c.requires.covers c.requires.least in
    let next : Run = record { length = c.min-high.result - c.max-low.result; flags = c.flags_at.result } in
    let some : 0 < c.min-high.result - c.max-low.result = omega (arith, rs.0, c.min-high.ensures, c.max-low.ensures) in
    let step : upto g part.from part.length m + (c.min-high.result - c.max-low.result) ≡ upto g part.from part.length (m + 1) = omega (arith, rs.0, rs.1, rs.2, c.min-high.ensures, c.max-low.ensures) in
    record {
      goes = λ flags at d first old start is tells.
          let piece = row_piece g flags at d first m part c.args.row.now next is inside c.requires.inside c.flags_at.ensures.flags some rs.1 (omega (arith, c.min-high.ensures, c.max-low.ensures)) rs.0 in
          let on : d + upto g part.from part.length m + (c.min-high.result - c.max-low.result) ≡ d + upto g part.from part.length (m + 1) = omega (arith, step) in
          subst (λ (k : ℕ). Tells g flags at k old c.add.new.out.items.items c.in_ok-held.held) on
          (e.goes g flags at (d + upto g part.from part.length m) (first + m) old (omega (arith, c.requires.inside)) start (inv.goes flags at d first old start is tells) piece);
      capacity = e.capacity ∙ inv.capacity;
      order = e.order;
      few = e.few;
      some = λ more. e.some;
      short = omega (arith, e.short, inv.short, step);
    }

pub returns-clause-goes : goal.returns-clause-goes
returns-clause-goes c flags at d first old start is tells =
    let part = c.args.part.now in
    let g = c.args.cluster in
    let m = c.loop-index.index in
    let all : m ≡ part.count = omega arith in
    let done : d + upto g part.from part.length m ≡ d + part.length =
    ap (λ (k : ℕ). d + upto g part.from part.length k) all ∙ ap (λ (k : ℕ). d + k) (row_done g part.from part.length part.count c.requires.covers) in
    subst (λ (k : ℕ). Tells g flags at k old c.loop-index.out.items.items c.loop-index.held) done (c.loop-index.invariant.goes flags at d first old start is tells)
