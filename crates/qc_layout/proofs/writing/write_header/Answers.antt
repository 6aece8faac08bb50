use Rattle.std.proofs.Common.{◌-◌, ℕ, [], length, length-drop, drop, refl, ◌∙◌, ap, arith}
use Rattle.std.proofs.lemmas.List.{take_all}
use Rattle.qc_layout.specs.Spelling.{tail_length}
use Rattle.qc_layout.proofs.Puts.{puts_on, puts_as, drop_least}
use Rattle.qc_layout.proofs.Words.{header_parts}
use Rattle.qc_layout.proofs.Written.{writable_spelled, spelled_writable}
use Rattle.qc_layout.proofs.writing.write_header.Goals as goal

pub slice_bounds-put-count : goal.slice_bounds-put-count
slice_bounds-put-count c = omega (arith, ap length c.deref.ensures.value)

pub slice_bounds-put-start : goal.slice_bounds-put-start
slice_bounds-put-start c = omega (arith, ap length c.deref.ensures.value)

pub returns-clause-sector : goal.returns-clause-sector
returns-clause-sector c room =
    let h = c.args.header.now in
    let kept = h.kept.items.items in
    let start = c.tail_end.result in
    let bytes = c.deref.result.now in
    let same = take_all (length bytes - start) (drop start bytes) (omega (arith, length-drop start bytes)) ∙ ap (drop start) c.deref.ensures.value ∙ ap (λ (n : ℕ). drop n kept) c.tail_end.ensures ∙ drop_least (tail_length h) kept in
    let steps = puts_on (puts_on (puts_on (puts_on c.put_numbers-numbers.ensures.puts c.put_tail-tail.ensures) c.put_own-own.ensures.puts) c.put_bitmaps-bitmaps.ensures.puts) (puts_as same c.put.ensures) in
    let done = puts_as (header_parts h) steps in
    (done.behind [] (omega arith) refl refl).1

pub returns-clause-small : goal.returns-clause-small
returns-clause-small c = record { numbers = c.put_numbers-numbers.ensures.small; own = c.put_own-own.ensures.small; bitmaps = c.put_bitmaps-bitmaps.ensures.small }

pub returns-clause-writes : goal.returns-clause-writes
returns-clause-writes c part written writable room long read =
    writable_spelled part c.args.header.now written writable (record { fits = room; long = long; sector = read ∙ returns-clause-sector c room })

pub returns-clause-reads_back : goal.returns-clause-reads_back
returns-clause-reads_back c part file written spelled =
    returns-clause-writes c part written (spelled_writable part c.args.header.now file (returns-clause-small c) spelled)
