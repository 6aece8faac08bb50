use Rattle.std.proofs.Common.{◌+◌, ◌*◌, ◌^◌, ◌<◌, ◌≤◌, length, ap, ◌∙◌, ℕ, arith}
use Rattle.std.specs.Int.{to_be_bytes, w64}
use Rattle.std.proofs.Math.Nat.{mul-le-mul_left}
use Rattle.backup_file.proofs.Laying.{put_over, words_step}
use Rattle.backup_file.proofs.layout.put_words.Goals as goal

pub loop-i-preserved : goal.loop-i-preserved
loop-i-preserved c =
    let word = c.args.first + c.args.step * c.loop-i.i in
    let at = c.args.from + 8 * c.loop-i.i in
    let before : c.loop-i.i ≤ c.args.count = omega arith in
    let small : word < 2 ^ 64 = omega (arith, mul-le-mul_left c.args.step before) in
    let room : at + 8 ≤ length c.loop-i.out = omega arith in
    record {
      word = omega arith;
      puts = words_step c.args.from c.loop-i.i c.args.first c.args.step c.args.out.now c.loop-i.out c.put.new.out c.loop-i.invariant.puts
          (put_over at c.loop-i.out (to_be_bytes w64 word) c.put.ensures (c.to_be_bytes.ensures ∙ ap (λ (n : ℕ). to_be_bytes w64 n) c.loop-i.invariant.word) (omega arith) room)
          small
          room;
    }
