use Rattle.std.proofs.Common.{inr, refl}
use Rattle.core_node.proofs.Causing.{quiet_causes, io_causes}
use Rattle.std.proofs.Common.{sym, subst}
use Rattle.disk_model.specs.World.{FileFailed}
use Rattle.core_events.specs.Views.{plain_request}
use Rattle.plain_model.specs.Machine.{next_number}
use Rattle.toy_core.specs.Toy.{IsBuilt}
use Rattle.toy_core.proofs.Cases.{failed_for, as_moved, as_broke, flushed_steps, broke_steps}
use Rattle.toy_core.proofs.toy.Toy.flush.Goals as goal

pub returns-in-Ok-clause-steps : goal.returns-in-Ok-clause-steps
returns-in-Ok-clause-steps g c = λ bytes runs told.
    let t = c.args.self.now in
    let r = plain_request c.args.request.now in
    let old = g.D.Outside.world c.args.depot.now in
    let new = g.D.Outside.world c.sync.new.self in
    as_moved c.saturating_add-self.result (next_number t.event) t.broken c.saturating_add-self.ensures
    (flushed_steps t r (subst IsBuilt (sym c.requires.work) tt) c.requires.whole c.requires.granted c.requires.work old new told (g.met.D.Depot.sound c.args.depot.now) c.sync.ensures.call c.in-Ok.ensures.done)

pub returns-in-Err-clause-steps : goal.returns-in-Err-clause-steps
returns-in-Err-clause-steps g c = λ bytes runs told.
    let t = c.args.self.now in
    let r = plain_request c.args.request.now in
    let old = g.D.Outside.world c.args.depot.now in
    let new = g.D.Outside.world c.sync.new.self in
    as_broke c.saturating_add-self.result (next_number t.event) c.saturating_add-self.ensures
    (broke_steps t r (subst IsBuilt (sym c.requires.work) tt) c.requires.whole c.requires.granted c.requires.work old new told (g.met.D.Depot.sound c.args.depot.now) c.sync.ensures.call c.in-Err.ensures.failed c.in-Err.ensures.cause.0 c.in-Err.ensures.cause.1)

pub returns-in-Ok-clause-causes : goal.returns-in-Ok-clause-causes
returns-in-Ok-clause-causes g c = λ bytes runs. quiet_causes refl (λ whole. refl) (λ refused. refused) c.saturating_add-self.ensures

pub returns-in-Err-clause-causes : goal.returns-in-Err-clause-causes
returns-in-Err-clause-causes g c = λ bytes runs.
    let failed : FileFailed c.args.self.now.source.file.0 (g.D.Outside.world c.args.depot.now) (g.D.Outside.world c.sync.new.self) =
    record { shared = c.in-Err.ensures.cause.0; own = inr c.in-Err.ensures.cause.1 } in
    io_causes failed (failed_for c.args.self.now (plain_request c.args.request.now) c.requires.granted failed)
    (λ whole broke. c.in-Err.ensures.cause.1) c.saturating_add-self.ensures
