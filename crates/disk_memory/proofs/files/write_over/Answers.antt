use Rattle.std.proofs.Common.{◌≡◌, ◌<◌, ◌+◌, ◌++◌, ℕ, List, take, drop, length, sym, ap, ◌∙◌, arith, rules}
use Rattle.disk_model.proofs.Bytes.{overlay_empty}
use Rattle.disk_memory.proofs.Bytes.{written_over, whole, over_length}
use Rattle.disk_memory.proofs.files.write_over.Goals as goal

pub returns-then-is_empty-clause-items : goal.returns-then-is_empty-clause-items
returns-then-is_empty-clause-items c =
    let none : length c.args.bytes.now ≡ 0 = search rules in
    sym (overlay_empty c.args.file.now.items c.args.at c.args.bytes.now none)

pub returns-clause-items : goal.returns-clause-items
returns-clause-items c =
    let some : 0 < length c.args.bytes.now = search rules in
    let more = c.lengthen.new.file in
    let at = c.args.at in
    let bytes = c.args.bytes.now in
    let put = c.put_over.new.file in
    let is : put ≡ take at more.items ++ bytes ++ drop (at + length bytes) more.items = c.put_over.ensures ∙ ap (λ (l : List ℕ). take at l ++ bytes ++ drop (at + length bytes) l) c.deref_mut.ensures.value in
    let written = is ∙ written_over c.args.file.now.items more.items at bytes some c.lengthen.ensures.items in
    whole more.len put more.items (omega (arith, ap length is, over_length more.items at bytes c.args.file.now.items c.lengthen.ensures.items)) (omega (arith, more.ok.0)) ∙ written
