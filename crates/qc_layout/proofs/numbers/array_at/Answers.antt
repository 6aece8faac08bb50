use Rattle.std.proofs.Common.{◌<◌, ◌≢◌, length, arith, get_or-set_other, get_or-set_same, below_more}
use Rattle.std.proofs.Math.ListN.{length-set}
use Rattle.disk_model.proofs.Laws.{is_reading}
use Rattle.qc_layout.proofs.numbers.array_at.Goals as goal

pub loop-i-preserved : goal.loop-i-preserved
loop-i-preserved g c = record {
  long = simp length-set c.loop-i.invariant.long;
  same = below_more _ _
      (λ k h. let ne : k ≢ c.loop-i.i = omega arith in rw get_or-set_other (c.loop-i.invariant.same k h))
      (let lt : c.loop-i.i < length c.loop-i.out = omega (arith, c.loop-i.invariant.long) in rw get_or-set_same c.byte_at.ensures);
}

pub returns : goal.returns
returns g c = is_reading c.args.bytes.now c.loop-i.out c.args.at g.row.N c.loop-i.invariant.long (λ i low. c.loop-i.invariant.same i (omega arith))
