use Rattle.std.proofs.Common.{◌-◌, ◌≤◌, length}
use Rattle.std.specs.Vec.{vec_capacity}
use Rattle.qc_alloc.proofs.Finding.{HasRead}
use Rattle.qc_alloc.proofs.tables.Layout.read_pieces.Given as goal

abbrev pub invariant-loop-self : goal.invariant-loop-self
invariant-loop-self g l =
    HasRead l.self l.file.0 l.count l.blocks.items (g.D.Outside.world l.initial.depot) (g.D.Outside.world l.depot) × (l.count ≤ vec_capacity l.blocks)

abbrev pub decreases-loop-self : goal.decreases-loop-self
decreases-loop-self g l = l.count - length l.blocks.items
