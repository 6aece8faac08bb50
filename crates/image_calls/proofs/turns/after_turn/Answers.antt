use Rattle.std.proofs.Common.{ℕ, List, IsTrue}
use Rattle.std.proofs.lemmas.Result.{on_ok_weaker}
use Rattle.disk_model.specs.World.{HasSynced}
use Rattle.image_model.specs.Clusters.{Shape}
use Rattle.image_model.specs.Turns.{Turning}
use Rattle.image_steps.proofs.Turns.{turn_rests, turn_stays}
use Rattle.image_calls.proofs.turns.after_turn.Goals as goal

pub returns-clause-stays : goal.returns-clause-stays
returns-clause-stays g c s t disks first last sector =
    let sound = g.met.D.Depot.sound in
    turn_stays (sound _) (sound _) c.sync.ensures.synced.call

pub returns-clause-stands : goal.returns-clause-stands
returns-clause-stands g c =
    let sound = g.met.D.Depot.sound in
    on_ok_weaker c.sync.result
    (λ (synced : HasSynced c.args.file.0 (g.D.Outside.world c.args.depot.now) (g.D.Outside.world c.sync.new.depot)) (s : Shape) (t : Shape) (disks : List (List ℕ)) (first : ℕ) (last : ℕ) (sector : List ℕ)
    (is : Turning s t disks first last sector c.args.file.0 (g.D.Outside.world c.args.depot.now)) (told : IsTrue (g.D.Outside.world c.sync.new.depot).tells).
    turn_rests (sound _) c.sync.ensures.synced.call synced is told)
    c.sync.ensures.synced.done
