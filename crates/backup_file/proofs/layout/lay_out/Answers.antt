use Rattle.std.proofs.Common.{arith}
use Rattle.backup_file.proofs.Laying.{room_of}
use Rattle.backup_file.proofs.layout.lay_out.Goals as goal

pub overflow_mul-plan : goal.overflow_mul-plan
overflow_mul-plan c = omega (arith, (room_of c.args.plan.now c.requires).small)
