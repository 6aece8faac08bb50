use Rattle.std.proofs.Common.{subst}
use Rattle.disk_memory.specs.Outcomes.{IsDrafted}
use Rattle.disk_memory.proofs.outcomes.resettled.Goals as goal

pub returns-in_ok-new-in-Some : goal.returns-in_ok-new-in-Some
returns-in_ok-new-in-Some c choice versions drafted = c.in_ok-new-in-Some.ensures choice versions (subst (IsDrafted choice versions) c.in-Some.is drafted)
