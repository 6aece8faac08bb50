use Rattle.std.proofs.Common.{ℕ, IsTrue, subst, sym}
use Rattle.std.proofs.lemmas.Result.{on_ok_weaker}
use Rattle.disk_model.specs.World.{HasSynced}
use Rattle.disk_model.proofs.Laws.{synced_exact}
use Rattle.image_model.specs.Clusters.{Shape}
use Rattle.image_model.specs.Calls.{Told, IsOpened, AreInside}
use Rattle.image_steps.proofs.Starting.{begins_here, begun_stands, opened_crash}
use Rattle.image_calls.proofs.opening.begin.Goals as goal

pub returns-clause-begins : goal.returns-clause-begins
returns-clause-begins g c =
    let sound = g.met.D.Depot.sound in
    on_ok_weaker c.sync.result
    (λ (synced : HasSynced c.args.file.0 (g.D.Outside.world c.args.depot.now) (g.D.Outside.world c.sync.new.depot)) (s : Shape) (next : ℕ) (opened : Told (IsOpened s next) c.args.file.0 (g.D.Outside.world c.args.depot.now)) (told : IsTrue (g.D.Outside.world c.sync.new.depot).tells).
    begins_here (subst (IsOpened s next) (sym c.sync.ensures.synced.call.seen) (opened (subst IsTrue c.sync.ensures.synced.call.run.goes.tells told))) (synced_exact (sound _) c.sync.ensures.synced.call synced))
    c.sync.ensures.synced.done

pub returns-clause-stands : goal.returns-clause-stands
returns-clause-stands g c =
    let sound = g.met.D.Depot.sound in
    on_ok_weaker c.sync.result
    (λ (synced : HasSynced c.args.file.0 (g.D.Outside.world c.args.depot.now) (g.D.Outside.world c.sync.new.depot)) (s : Shape) (next : ℕ) (opened : Told (IsOpened s next) c.args.file.0 (g.D.Outside.world c.args.depot.now)) (long : Told (AreInside s) c.args.file.0 (g.D.Outside.world c.args.depot.now)) (told : IsTrue (g.D.Outside.world c.sync.new.depot).tells).
    let told_a = subst IsTrue c.sync.ensures.synced.call.run.goes.tells told in
    let same = synced_exact (sound _) c.sync.ensures.synced.call synced in
    begun_stands (begins_here (subst (IsOpened s next) (sym c.sync.ensures.synced.call.seen) (opened told_a)) same) (subst (AreInside s) (sym c.sync.ensures.synced.call.seen) (long told_a)) same)
    c.sync.ensures.synced.done

pub returns-clause-crash : goal.returns-clause-crash
returns-clause-crash g c s next opened = let sound = g.met.D.Depot.sound in opened_crash (sound _) (sound _) c.sync.ensures.synced.call opened
