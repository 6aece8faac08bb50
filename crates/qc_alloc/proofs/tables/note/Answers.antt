use Rattle.std.proofs.Common.{◌≢◌, ◌+◌, ◌<◌, List, length, Bool, refl, sym, ap, subst, ◌∙◌, arith}
use Rattle.qc_alloc.specs.Tables.{Notes}
use Rattle.cluster_pool.proofs.Words.{length-with}
use Rattle.qc_alloc.proofs.Noting.{note_in}
use Rattle.qc_alloc.proofs.tables.note.Goals as goal

pub returns-then-cluster-counted-clause-limit : goal.returns-then-cluster-counted-clause-limit
returns-then-cluster-counted-clause-limit c =
    (refl, c.requires.limit ∙ sym (ap (λ (set : List Bool). length set) c.insert.ensures ∙ length-with c.args.counted.now.set c.args.cluster))

pub returns-then-cluster-counted-clause-notes : goal.returns-then-cluster-counted-clause-notes
returns-then-cluster-counted-clause-notes c counts is had =
    let P : List Bool → Type 0 = λ set. Notes counts (c.args.cluster + 1) set (c.args.cluster + 1) in
    let some : counts c.args.cluster ≢ 0 = λ z. absurd (omega (arith, is, z)) in
    let near : c.args.cluster < length c.args.counted.now.set = omega arith in
    subst P (sym c.insert.ensures) (note_in counts c.args.cluster c.args.counted.now.set c.args.counted.now.past some near had)
