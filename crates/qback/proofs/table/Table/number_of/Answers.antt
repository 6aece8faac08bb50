use Rattle.std.specs.Cmp.Lexicographic.{same_text}
use Rattle.qback.proofs.Entries.{found_at}
use Rattle.qback.proofs.table.Table.number_of.Goals as goal

pub returns-in-Ok : goal.returns-in-Ok
returns-in-Ok c = found_at _ _ c.loop-index.index c.in-Ok.number c.opened-item.result c.as_str.result.now _ _ _ c.deref-opened-items.ensures.value c.loop-index-test.true c.opened-item.is c.in-Ok.ensures.1 c.as_str.ensures.value
    (same_text _ _ c.if-eq.ensures)
