use Rattle.std.proofs.Common.{ℕ, List, [], ◌∷◌, IsTrue, refl, ◌∙◌}
use Rattle.std.proofs.lemmas.Result.{on_ok_weaker}
use Rattle.disk_model.specs.World.{HasSynced}
use Rattle.disk_model.proofs.Laws.{run_on}
use Rattle.file_device.proofs.Laws.{puts_on}
use Rattle.image_model.specs.Clusters.{Shape, IsSafe}
use Rattle.image_model.specs.Calls.{IsExtending}
use Rattle.image_steps.proofs.Starting.{grown, grown_synced, grown_stands}
use Rattle.image_steps.proofs.Standing.{moves_of}
use Rattle.image_calls.proofs.Beside.{wrote_beside, synced_beside}
use Rattle.image_calls.proofs.opening.extend.Goals as goal

pub returns-in_err-write-clause-begins : goal.returns-in_err-write-clause-begins
returns-in_err-write-clause-begins g c s next whole found is =
    let sound = g.met.D.Depot.sound in
    moves_of (IsSafe s (found ∷ [])) c.write.ensures.wrote.call.run (sound _) (λ told begins. grown (is told) (sound _) (sound _) c.write.ensures.wrote.call told begins)

pub returns-clause-begins : goal.returns-clause-begins
returns-clause-begins g c s next whole found is =
    let sound = g.met.D.Depot.sound in
    moves_of (IsSafe s (found ∷ [])) (run_on c.write.ensures.wrote.call.run c.sync.ensures.synced.call.run) (sound _)
    (λ told begins. grown_synced (is told) (sound _) (sound _) c.write.ensures.wrote.call told begins (sound _) c.sync.ensures.synced.call)

pub returns-clause-stands : goal.returns-clause-stands
returns-clause-stands g c =
    let sound = g.met.D.Depot.sound in
    on_ok_weaker c.sync.result
    (λ (synced : HasSynced c.args.file.0 (g.D.Outside.world c.write.new.depot) (g.D.Outside.world c.sync.new.depot)) (s : Shape) (next : ℕ) (whole : ℕ) (found : List ℕ) (is : IsTrue (g.D.Outside.world c.args.depot.now).tells → IsExtending s next whole c.args.finish found).
    moves_of (IsSafe s (found ∷ [])) (run_on c.write.ensures.wrote.call.run c.sync.ensures.synced.call.run) (sound _)
    (λ told begins. grown_stands (is told) (sound _) (sound _) c.write.ensures.wrote.call told begins (sound _) c.sync.ensures.synced.call c.in_ok-write.ensures.wrote.done synced))
    c.sync.ensures.synced.done

pub returns-clause-puts : goal.returns-clause-puts
returns-clause-puts g c = puts_on c.in_ok-write.ensures.wrote.puts c.sync.ensures.synced.puts

pub returns-in_err-write-clause-frame : goal.returns-in_err-write-clause-frame
returns-in_err-write-clause-frame g c told x out = wrote_beside c.in_err-write.ensures.wrote.call refl told x out

pub returns-clause-frame : goal.returns-clause-frame
returns-clause-frame g c told x out = synced_beside c.sync.ensures.synced.call x ∙ wrote_beside c.in_ok-write.ensures.wrote.call refl told x out
