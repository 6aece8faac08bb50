use Rattle.std.proofs.Common.{◌≤◌, ◌+◌, ◌*◌, length, arith}
use Rattle.std.specs.Int.{to_be_bytes, w16}
use Rattle.backup_file.proofs.Laying.{put_over, ones_step}
use Rattle.backup_file.proofs.layout.put_ones.Goals as goal

pub loop-i-preserved : goal.loop-i-preserved
loop-i-preserved c =
    let at = c.args.from + 2 * c.loop-i.i in
    let room : at + 2 ≤ length c.loop-i.out = omega arith in
    ones_step c.args.from c.loop-i.i c.args.out.now c.loop-i.out c.put.new.out c.loop-i.invariant (put_over at c.loop-i.out (to_be_bytes w16 1) c.put.ensures c.to_be_bytes.ensures (omega arith) room) room
