use Rattle.std.proofs.Common.{replicate, length, ◌≡◌, arith}
use Rattle.qc_layout.proofs.RecordLaws.{three}
use Rattle.qc_layout.proofs.records.joined.Goals as goal

pub returns : goal.returns
returns c =
    let a = c.args.first.now in
    let b = c.args.second.now in
    let d = c.args.third.now in
    let one : length a ≡ 16 = omega arith in
    three (replicate 48 0) a b d c.put.new.out c.put-2.new.out c.put-3.new.out 16 32 one (omega arith) (omega arith) c.put.ensures c.put-2.ensures c.put-3.ensures
