use Rattle.std.proofs.Common.{List, []}
use Rattle.core_loop.specs.Course.{Heard}
use Rattle.core_loop.proofs.Looping.{WentOn, EachKnows}
use Rattle.core_loop.proofs.events.run_events.Given as goal

-- all events that were given were carried out and told
abbrev pub invariant-loop-alloc : goal.invariant-loop-alloc
invariant-loop-alloc g l =
    let node = g.N.Node.shown l.fn.node in
    let own = g.S.Source.own l.fn.source in
    let old = g.D.Outside.world l.fn.depot in
    (heard : List Heard) × g.S.Source.goes l.fn.source heard l.source
    × WentOn g.N.Node.reading own node (g.N.Node.shown l.node) (g.N.Node.keeps l.fn.node old) (g.S.Source.knows l.fn.source old) (g.N.Node.keeps l.node)
    (record { given = g.S.Source.gave l.source; said = []; heard = heard; number = l.number }) old (g.D.Outside.world l.depot)
    × EachKnows own node (g.N.Node.keeps l.fn.node old) (g.S.Source.gave l.source) old (g.S.Source.knows l.fn.source old)
    (g.S.Source.knows l.source (g.D.Outside.world l.depot))

-- fewer may come
abbrev pub decreases-loop-alloc : goal.decreases-loop-alloc
decreases-loop-alloc g l = g.S.Source.left l.source
