use Rattle.std.proofs.Common.{◌≡◌, ℕ, ◌+◌, ◌/◌, ◌<◌, length, sym, subst, ◌∙◌, arith}
use Rattle.qc_alloc.specs.Tables.{Notes}
use Rattle.qc_alloc.proofs.tables.note_counts.Goals as goal

pub loop-index-preserved : goal.loop-index-preserved
loop-index-preserved c =
    let inv = c.loop-index.invariant in
    let e = c.note.ensures in
    let below : c.loop-index.index < length c.args.bytes.now / 2 = omega arith in
    let same : c.args.from + c.loop-index.index + 1 ≡ c.args.from + (c.loop-index.index + 1) = omega arith in (
      e.limit.0 ∙ inv.0,
      e.limit.1,
      λ counts agree start.
          let P : ℕ → Type 0 = λ k. Notes counts k c.note.new.counted.set c.note.new.counted.past in
          subst P same (e.notes counts (agree c.loop-index.index below ∙ sym c.count_at.ensures) (inv.2 counts agree start)),
    )
