use Rattle.std.proofs.Common.{◌<◌, length, sym, subst, arith}
use Rattle.disk_memory.specs.Outcomes.{IsDrafted}
use Rattle.disk_memory.proofs.Kept.{replay_next}
use Rattle.disk_memory.proofs.outcomes.outcome.Goals as goal

pub loop-turn-preserved : goal.loop-turn-preserved
loop-turn-preserved c =
    let log = c.args.log.now in
    let below : c.loop-turn.turn < length log = omega arith in
    subst (λ vs. IsDrafted c.args.choice vs c.in_ok-draft.draft) (sym (replay_next log c.loop-turn.turn c.args.file c.index-log-turn.result below c.index-log-turn.is)) (c.in_ok-draft.ensures _ c.loop-turn.invariant)
