use Rattle.std.proofs.Common.{ℕ, List, Bool, subst, sym}
use Rattle.std.proofs.lemmas.Result.{on_ok_weaker}
use Rattle.disk_model.specs.World.{HasSynced}
use Rattle.file_device.proofs.Laws.{settled_on}
use Rattle.image_model.specs.Clusters.{Shape, IsSafe}
use Rattle.image_model.specs.Calls.{Told, AreNamed}
use Rattle.image_steps.proofs.Standing.{moves_of}
use Rattle.image_steps.proofs.Pools.{synced_stands, synced_one, synced_rests}
use Rattle.image_calls.proofs.counts.rest.Goals as goal

pub returns-clause-stays : goal.returns-clause-stays
returns-clause-stays g c s disks first last =
    let sound = g.met.D.Depot.sound in
    moves_of (IsSafe s disks) c.sync.ensures.synced.call.run (sound _) (λ told st. synced_stands (sound _) c.sync.ensures.synced.call told st)

pub returns-clause-one : goal.returns-clause-one
returns-clause-one g c =
    let sound = g.met.D.Depot.sound in
    on_ok_weaker c.sync.result
    (λ (synced : HasSynced c.args.file.0 (g.D.Outside.world c.args.depot.now) (g.D.Outside.world c.sync.new.depot)) (s : Shape) (disks : List (List ℕ)) (first : ℕ) (last : ℕ).
    moves_of (IsSafe s disks) c.sync.ensures.synced.call.run (sound _) (λ told st. synced_one (sound _) c.sync.ensures.synced.call told st synced))
    c.sync.ensures.synced.done

pub returns-clause-rests : goal.returns-clause-rests
returns-clause-rests g c =
    let sound = g.met.D.Depot.sound in
    on_ok_weaker c.sync.result
    (λ (synced : HasSynced c.args.file.0 (g.D.Outside.world c.args.depot.now) (g.D.Outside.world c.sync.new.depot)) (s : Shape) (disks : List (List ℕ)) (taken : ℕ → Bool) (first : ℕ) (last : ℕ)
    (named : Told (AreNamed s taken) c.args.file.0 (g.D.Outside.world c.args.depot.now)).
    moves_of (IsSafe s disks) c.sync.ensures.synced.call.run (sound _)
    (λ told st. synced_rests (sound _) c.sync.ensures.synced.call told st synced taken (subst (AreNamed s taken) (sym c.sync.ensures.synced.call.seen) (named told))))
    c.sync.ensures.synced.done

pub returns-clause-settled : goal.returns-clause-settled
returns-clause-settled g c = settled_on c.sync.result c.sync.ensures.synced
