use Rattle.std.proofs.Common.{◌≡◌, ℕ, ◌+◌, ◌<◌, ◌≤◌, ◌∙◌, subst, arith}
use Rattle.qc_map.specs.Filling.{ChangesSpoken}
use Rattle.qc_map.proofs.Given.{given_none, given_next, spoken_below}
use Rattle.qc_map.proofs.filling.give_back_all.Goals as goal

pub loop-behind-init : goal.loop-behind-init
loop-behind-init c = given_none c.args.clusters.now _ (λ k none. absurd (omega (arith, none.0, none.1)))

pub overflow_add-taken : goal.overflow_add-taken
overflow_add-taken c =
    omega (arith, spoken_below c.args.clusters.now.pool (c.args.taken.first + c.loop-behind.behind) c.room-room.ensures.allocator.pool (c.requires.taken (c.args.taken.first + c.loop-behind.behind) (omega arith) (omega (arith, c.loop-behind-test.true))))

pub give_back-requires : goal.give_back-requires
give_back-requires c =
    c.loop-behind.invariant.stays (c.args.taken.first + c.loop-behind.behind) (λ given. omega (arith, given.1))
    ∙ c.requires.taken (c.args.taken.first + c.loop-behind.behind) (omega arith) (omega (arith, c.loop-behind-test.true))

pub loop-behind-preserved : goal.loop-behind-preserved
loop-behind-preserved c = given_next c.args.clusters.now c.loop-behind.clusters c.give_back.new.self c.args.taken.first c.loop-behind.behind c.loop-behind.invariant c.give_back.ensures

pub returns : goal.returns
returns c =
    let all : c.loop-behind.behind ≡ c.args.taken.count = omega (arith, c.loop-behind-test.false, c.loop-behind.auto.behind-end) in
    record { given = subst (λ (n : ℕ). ChangesSpoken c.args.clusters.now c.loop-behind.clusters (λ k. (c.args.taken.first ≤ k) × (k < c.args.taken.first + n))) all c.loop-behind.invariant }
