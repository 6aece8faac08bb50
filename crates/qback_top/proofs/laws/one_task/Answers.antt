use Rattle.qback_top.proofs.OneTask.{one_task}
use Rattle.qback_top.proofs.laws.one_task.Goals as goal

pub returns : goal.returns
returns c = one_task
