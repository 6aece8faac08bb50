use Rattle.std.proofs.Common.{◌∷◌, refl}
use Rattle.std.proofs.lemmas.Result.{on_ok_weaker}
use Rattle.image_model.specs.Clusters.{IsSafe}
use Rattle.image_steps.proofs.Standing.{moves_of}
use Rattle.image_steps.proofs.Clearing.{entries_cleared, clear_leaves, clear_done, clear_whether, clear_words}
use Rattle.image_calls.proofs.Beside.{wrote_beside}
use Rattle.image_calls.proofs.rows.clear_entries.Goals as goal

pub returns-clause-moves : goal.returns-clause-moves
returns-clause-moves g c s disks first last q i j n is =
    let sound = g.met.D.Depot.sound in
    moves_of (IsSafe s (_ ∷ disks)) c.write.ensures.wrote.call.run (sound _) (λ told st. entries_cleared is (sound _) (sound _) c.write.ensures.wrote.call told st)

pub returns-clause-leaves : goal.returns-clause-leaves
returns-clause-leaves g c s disks first last q i j n is stands told =
    let sound = g.met.D.Depot.sound in
    clear_leaves is (sound _) (sound _) c.write.ensures.wrote.call told (stands told)

pub returns-clause-cleared : goal.returns-clause-cleared
returns-clause-cleared g c =
    let sound = g.met.D.Depot.sound in
    on_ok_weaker c.write.result
    (λ done s disks first last q i j n is stands told. clear_done is (sound _) (sound _) c.write.ensures.wrote.call told (stands told) done)
    c.write.ensures.wrote.done

pub returns-clause-whether : goal.returns-clause-whether
returns-clause-whether g c s disks first last q i j n is stands told =
    let sound = g.met.D.Depot.sound in
    clear_whether is (sound _) (sound _) c.write.ensures.wrote.call told (stands told)

pub returns-clause-rows : goal.returns-clause-rows
returns-clause-rows g c s disks first last q i j n is stands told =
    let sound = g.met.D.Depot.sound in
    clear_words is (sound _) (sound _) c.write.ensures.wrote.call told (stands told)

pub returns-clause-frame : goal.returns-clause-frame
returns-clause-frame g c told x out = wrote_beside c.write.ensures.wrote.call refl told x out
