use Rattle.std.proofs.Common.{◌+◌, List, length, sym, ap, subst, arith}
use Rattle.span_algebra.specs.declared.lists.Run.{Run}
use Rattle.qc_map.specs.Telling.{Tells, TellsAll}
use Rattle.qc_map.proofs.Joining.{first_told, same_told, other_told, all_told}
use Rattle.qc_map.proofs.telling.add.Goals as goal

pub returns-then-last-eq0-clause-goes : goal.returns-then-last-eq0-clause-goes
returns-then-last-eq0-clause-goes c g flags at d k old some start tells piece =
    first_told g flags at d k old c.args.out.now.items.items c.args.last c.args.next tells piece c.if-last-eq0.true

pub returns-then-last-next-clause-goes : goal.returns-then-last-next-clause-goes
returns-then-last-next-clause-goes c g flags at d k old some start tells piece =
    same_told g flags at d k old c.args.out.now.items.items c.args.last c.args.next tells piece (let more = c.if-last-eq0.false in omega (arith, more)) c.if-last-next.true

pub returns-then-len-start-eq-RUNS-clause-goes : goal.returns-then-len-start-eq-RUNS-clause-goes
returns-then-len-start-eq-RUNS-clause-goes c g flags at d k old some start tells piece =
    let items = c.args.out.now.items.items in
    let full = c.if-len-start-eq-RUNS.true in
    subst (λ (runs : List Run). TellsAll g flags at (d + c.args.next.length) old runs) (sym c.push_reserved.ensures.items)
    (all_told g flags at d k old items c.args.last c.args.next tells piece some (let more = c.if-last-eq0.false in omega (arith, more)) c.if-last-next.false
    (omega (arith, full, start, c.len.ensures, ap length c.push_reserved.ensures.items)))

pub returns-clause-goes : goal.returns-clause-goes
returns-clause-goes c g flags at d k old some start tells piece =
    let items = c.args.out.now.items.items in
    subst (λ (runs : List Run). Tells g flags at (d + c.args.next.length) old runs c.args.next) (sym c.push_reserved.ensures.items)
    (other_told g flags at d k old items c.args.last c.args.next tells piece (let more = c.if-last-eq0.false in omega (arith, more)) c.if-last-next.false)
