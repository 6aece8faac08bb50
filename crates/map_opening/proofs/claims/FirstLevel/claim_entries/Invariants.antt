use Rattle.std.proofs.Common.{◌+◌, ◌*◌, Ok}
use Rattle.disk_model.specs.Files.{u64_at}
use Rattle.qc_layout.specs.Opening.{each_below}
use Rattle.map_opening.specs.Opening.{GoesThrough, level_checks}
use Rattle.map_opening.proofs.claims.FirstLevel.claim_entries.Given as goal

abbrev pub invariant-loop-index : goal.invariant-loop-index
invariant-loop-index g l =
    GoesThrough {T = Unit {0}} l.file.0 (λ seen. each_below l.index (λ k. level_checks l.self seen (l.first + k) (u64_at l.entries (8 * k)))) l.initial.clusters l.clusters
    (g.D.Outside.world l.initial.depot) (g.D.Outside.world l.depot) (Ok tt)
