use Rattle.std.proofs.Common.{◌-◌, ◌≤◌, Ok}
use Rattle.qc_layout.specs.Opening.{each_below}
use Rattle.map_opening.specs.Opening.{GoesThrough, entry_of}
use Rattle.map_opening.proofs.claims.FirstLevel.claim_pieces.Given as goal

abbrev pub invariant-loop-done : goal.invariant-loop-done
invariant-loop-done g l =
    GoesThrough {T = Unit {0}} l.file.0 (λ seen. each_below l.done (entry_of l.self seen)) l.initial.clusters l.clusters
    (g.D.Outside.world l.initial.depot) (g.D.Outside.world l.depot) (Ok tt) × (l.done ≤ l.self.entries)

abbrev pub decreases-loop-done : goal.decreases-loop-done
decreases-loop-done g l = l.self.entries - l.done
