use Rattle.std.proofs.Common.{[], take, map}
use Rattle.disk_memory.specs.Held.{change_of, replay}
use Rattle.disk_memory.specs.Outcomes.{IsDrafted}
use Rattle.disk_memory.proofs.outcomes.outcome.Given as goal

abbrev pub invariant-loop-turn : goal.invariant-loop-turn
invariant-loop-turn l = IsDrafted l.choice (replay (map change_of (take l.turn l.log)) l.file []) l.draft
