use Rattle.std.proofs.Common.{◌∷◌, refl}
use Rattle.std.proofs.lemmas.Result.{on_ok_weaker}
use Rattle.image_model.specs.Clusters.{IsSafe}
use Rattle.image_steps.proofs.Standing.{moves_of}
use Rattle.image_steps.proofs.RunCalls.{linked, link_leaves, link_either, link_data, link_done, link_words}
use Rattle.image_calls.proofs.Beside.{wrote_beside}
use Rattle.image_calls.proofs.runs.link.Goals as goal

pub returns-clause-moves : goal.returns-clause-moves
returns-clause-moves g c s disks first last k n q i j is =
    let sound = g.met.D.Depot.sound in
    moves_of (IsSafe s (_ ∷ disks)) c.write.ensures.wrote.call.run (sound _) (λ told h. linked is (sound _) (sound _) c.write.ensures.wrote.call told h)

pub returns-clause-leaves : goal.returns-clause-leaves
returns-clause-leaves g c s disks first last k n q i j is holds told =
    let sound = g.met.D.Depot.sound in
    link_leaves is (sound _) (sound _) c.write.ensures.wrote.call told (holds told)

pub returns-clause-either : goal.returns-clause-either
returns-clause-either g c s disks first last k n q i j is holds told =
    let sound = g.met.D.Depot.sound in
    link_either is (sound _) (sound _) c.write.ensures.wrote.call told (holds told)

pub returns-clause-linked : goal.returns-clause-linked
returns-clause-linked g c =
    let sound = g.met.D.Depot.sound in
    on_ok_weaker c.write.result
    (λ done s disks first last k n q i j is holds told. link_done is (sound _) (sound _) c.write.ensures.wrote.call told (holds told) done)
    c.write.ensures.wrote.done

pub returns-clause-stays : goal.returns-clause-stays
returns-clause-stays g c s disks first last k n q i j is holds told =
    let sound = g.met.D.Depot.sound in
    link_data is (sound _) (sound _) c.write.ensures.wrote.call told (holds told)

pub returns-clause-rows : goal.returns-clause-rows
returns-clause-rows g c s disks first last k n q i j is holds told =
    let sound = g.met.D.Depot.sound in
    link_words is (sound _) (sound _) c.write.ensures.wrote.call told (holds told)

pub returns-clause-frame : goal.returns-clause-frame
returns-clause-frame g c told x out = wrote_beside c.write.ensures.wrote.call refl told x out
