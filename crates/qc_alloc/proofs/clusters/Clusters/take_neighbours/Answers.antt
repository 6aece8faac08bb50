use Rattle.std.proofs.Common.{◌≡◌, ℕ, ◌+◌, ◌<◌, ◌≤◌, subst}
use Rattle.cluster_pool.specs.Pool.{IsReady, room}
use Rattle.qc_alloc.specs.Allocator.{Allocator, HandsOut}
use Rattle.qc_alloc.specs.Inside.{allocator_view}
use Rattle.qc_alloc.proofs.Pooled.{inside_row, hands_row, row_room}
use Rattle.qc_alloc.proofs.clusters.Clusters.take_neighbours.Goals as goal

pub invariant_of-self : goal.invariant_of-self
invariant_of-self c =
    let t = c.take_neighbours in
    inside_row c.self.inside t.new.self t.result.first t.result.count c.self.invariant t.ensures.taken t.ensures.ready t.ensures.pool

pub returns-clause-ready : goal.returns-clause-ready
returns-clause-ready c =
    let t = c.take_neighbours in
    subst (λ (a : Allocator). (k : ℕ) → t.result.first ≤ k → k < t.result.first + t.result.count → IsReady a.pool k) c.self.view_is t.ensures.ready

pub returns-clause-room : goal.returns-clause-room
returns-clause-room c =
    let t = c.take_neighbours in
    subst (λ (a : Allocator). room a.pool ≡ room t.new.self + t.result.count) c.self.view_is (row_room c.self.inside.pool t.new.self t.result.first t.result.count t.ensures.taken t.ensures.fresh)

pub returns-clause-hands : goal.returns-clause-hands
returns-clause-hands c =
    let t = c.take_neighbours in
    let b : Allocator = allocator_view (record c.self.inside { pool = t.new.self }) in
    subst (λ (a : Allocator). (first : ℕ) → HandsOut first a → (first ≤ t.result.first) × HandsOut (t.result.first + t.result.count) b) c.self.view_is
    (λ first. hands_row first t.result.first t.result.count (allocator_view c.self.inside) b c.self.invariant.allocator.pool t.ensures.taken t.ensures.ready)
