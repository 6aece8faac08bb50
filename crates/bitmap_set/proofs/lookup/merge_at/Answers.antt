use Rattle.std.proofs.Common.{arith}
use Rattle.bitmap_set.proofs.Places.{merged_in_front, merged_behind}
use Rattle.bitmap_set.proofs.lookup.merge_at.Goals as goal

pub returns-then-to-from-2 : goal.returns-then-to-from-2
returns-then-to-from-2 c target source at_to at_from =
    let split = c.split_at_mut-before in
    merged_in_front c.args.bitmaps.now split.result.0.now split.result.1.now c.args.to c.args.from c.args.p target source c.index-before-to.result
    c.index-after-0.result
    c.merge.new.self (omega arith) (omega arith) split.ensures.front split.ensures.back at_to at_from c.merge.ensures

pub returns-else-to-from-2 : goal.returns-else-to-from-2
returns-else-to-from-2 c target source at_to at_from =
    let split = c.split_at_mut-before-else-to-from-2 in
    merged_behind c.args.bitmaps.now split.result.0.now split.result.1.now c.args.to c.args.from c.args.p target source c.index-after-0-else-to-from-2.result
    c.index-before-from.result c.merge-else-to-from-2.new.self (omega arith) (omega arith) split.ensures.front split.ensures.back at_to at_from
    c.merge-else-to-from-2.ensures
