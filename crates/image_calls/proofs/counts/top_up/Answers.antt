use Rattle.std.proofs.Common.{subst, sym, refl, ◌∙◌, inl, inr}
use Rattle.disk_model.specs.World.{HasSynced}
use Rattle.disk_model.proofs.Laws.{run_on}
use Rattle.file_device.proofs.Laws.{puts_err, puts_on}
use Rattle.image_calls.proofs.Beside.{wrote_beside, synced_beside, told_on}
use Rattle.image_model.specs.Clusters.{IsSafe, IsStanding}
use Rattle.image_model.specs.Calls.{LeavesGuest, LeavesCounts, EndsBy}
use Rattle.image_steps.proofs.Standing.{moves_of}
use Rattle.image_steps.proofs.Links.{SameWords}
use Rattle.image_steps.proofs.Pools.{top_growth_words, top_counts_words}
use Rattle.image_steps.proofs.Pools.{top_growth, top_counts, top_sync, top_done, top_growth_leaves, top_counts_leave, top_growth_others, top_counts_others, top_growth_ends, top_counts_ends, by_answer, by_error}
use Rattle.image_calls.proofs.counts.top_up.Goals as goal

pub returns-in_err-write-clause-moves : goal.returns-in_err-write-clause-moves
returns-in_err-write-clause-moves g c s disks first last q i low n is =
    let sound = g.met.D.Depot.sound in
    by_error (IsStanding s disks first last c.args.file.0) first last n c.from_residual.result c.from_residual.ensures.0
    (moves_of (IsSafe s disks) c.write.ensures.wrote.call.run (sound _) (λ told st. top_growth is (sound _) (sound _) c.write.ensures.wrote.call told st))

pub returns-in_err-write-2-clause-moves : goal.returns-in_err-write-2-clause-moves
returns-in_err-write-2-clause-moves g c s disks first last q i low n is =
    let sound = g.met.D.Depot.sound in
    by_error (IsStanding s disks first last c.args.file.0) first last n c.from_residual-in_err-write-2.result c.from_residual-in_err-write-2.ensures.0
    (moves_of (IsSafe s disks) (run_on c.write.ensures.wrote.call.run c.write-2.ensures.wrote.call.run) (sound _)
    (λ told st. top_counts is (sound _) (sound _) c.write.ensures.wrote.call told st (sound _) c.write-2.ensures.wrote.call))

pub returns-clause-moves : goal.returns-clause-moves
returns-clause-moves g c s disks first last q i low n is =
    let sound = g.met.D.Depot.sound in
    let run = run_on (run_on c.write.ensures.wrote.call.run c.write-2.ensures.wrote.call.run) c.sync.ensures.synced.call.run in
    by_answer (IsStanding s disks first last c.args.file.0) first last n c.sync.result _ c.sync.ensures.synced.done
    (moves_of (IsSafe s disks) run (sound _)
    (λ told st. top_sync is (sound _) (sound _) c.write.ensures.wrote.call told st (sound _) c.write-2.ensures.wrote.call (sound _) c.sync.ensures.synced.call))
    (λ (synced : HasSynced c.args.file.0 (g.D.Outside.world c.write-2.new.depot) (g.D.Outside.world c.sync.new.depot)). moves_of (IsSafe s disks) run (sound _)
    (λ told st. top_done is (sound _) (sound _) c.write.ensures.wrote.call told st (sound _) c.write-2.ensures.wrote.call (sound _) c.sync.ensures.synced.call c.in_ok-write.ensures.wrote.done c.in_ok-write-2.ensures.wrote.done synced))

pub returns-in_err-write-clause-leaves : goal.returns-in_err-write-clause-leaves
returns-in_err-write-clause-leaves g c s disks first last q i low n is stands told =
    let sound = g.met.D.Depot.sound in
    top_growth_leaves is (sound _) (sound _) c.write.ensures.wrote.call told (stands told)

pub returns-in_err-write-2-clause-leaves : goal.returns-in_err-write-2-clause-leaves
returns-in_err-write-2-clause-leaves g c s disks first last q i low n is stands told =
    let sound = g.met.D.Depot.sound in
    top_counts_leave is (sound _) (sound _) c.write.ensures.wrote.call told (stands told) (sound _) c.write-2.ensures.wrote.call

pub returns-clause-leaves : goal.returns-clause-leaves
returns-clause-leaves g c s disks first last q i low n is stands told =
    let sound = g.met.D.Depot.sound in
    subst (LeavesGuest s _) (sym c.sync.ensures.synced.call.seen) (top_counts_leave is (sound _) (sound _) c.write.ensures.wrote.call told (stands told) (sound _) c.write-2.ensures.wrote.call)

pub returns-in_err-write-2-clause-puts : goal.returns-in_err-write-2-clause-puts
returns-in_err-write-2-clause-puts g c = puts_err c.from_residual-in_err-write-2.ensures.0 (puts_on c.in_ok-write.ensures.wrote.puts c.in_err-write-2.ensures.wrote.puts)

pub returns-clause-puts : goal.returns-clause-puts
returns-clause-puts g c = puts_on (puts_on c.in_ok-write.ensures.wrote.puts c.in_ok-write-2.ensures.wrote.puts) c.sync.ensures.synced.puts

pub returns-in_err-write-clause-others : goal.returns-in_err-write-clause-others
returns-in_err-write-clause-others g c s disks first last q i low n is stands told =
    let sound = g.met.D.Depot.sound in
    top_growth_others is (sound _) (sound _) c.write.ensures.wrote.call told (stands told)

pub returns-in_err-write-2-clause-others : goal.returns-in_err-write-2-clause-others
returns-in_err-write-2-clause-others g c s disks first last q i low n is stands told =
    let sound = g.met.D.Depot.sound in
    top_counts_others is (sound _) (sound _) c.write.ensures.wrote.call told (stands told) (sound _) c.write-2.ensures.wrote.call

pub returns-clause-others : goal.returns-clause-others
returns-clause-others g c s disks first last q i low n is stands told =
    let sound = g.met.D.Depot.sound in
    subst (LeavesCounts s last n _) (sym c.sync.ensures.synced.call.seen) (top_counts_others is (sound _) (sound _) c.write.ensures.wrote.call told (stands told) (sound _) c.write-2.ensures.wrote.call)

pub returns-in_err-write-clause-ends : goal.returns-in_err-write-clause-ends
returns-in_err-write-clause-ends g c s disks first last q i low n is stands told =
    let sound = g.met.D.Depot.sound in
    top_growth_ends is (sound _) (sound _) c.write.ensures.wrote.call told (stands told)

pub returns-in_err-write-2-clause-ends : goal.returns-in_err-write-2-clause-ends
returns-in_err-write-2-clause-ends g c s disks first last q i low n is stands told =
    let sound = g.met.D.Depot.sound in
    top_counts_ends is (sound _) (sound _) c.write.ensures.wrote.call told (stands told) (sound _) c.write-2.ensures.wrote.call

pub returns-clause-ends : goal.returns-clause-ends
returns-clause-ends g c s disks first last q i low n is stands told =
    let sound = g.met.D.Depot.sound in
    subst (EndsBy c.args.finish _) (sym c.sync.ensures.synced.call.seen) (top_counts_ends is (sound _) (sound _) c.write.ensures.wrote.call told (stands told) (sound _) c.write-2.ensures.wrote.call)

pub returns-in_err-write-clause-rows : goal.returns-in_err-write-clause-rows
returns-in_err-write-clause-rows g c s disks first last q i low n is stands told =
    let sound = g.met.D.Depot.sound in
    top_growth_words is (sound _) (sound _) c.write.ensures.wrote.call told (stands told)

pub returns-in_err-write-2-clause-rows : goal.returns-in_err-write-2-clause-rows
returns-in_err-write-2-clause-rows g c s disks first last q i low n is stands told =
    let sound = g.met.D.Depot.sound in
    top_counts_words is (sound _) (sound _) c.write.ensures.wrote.call told (stands told) (sound _) c.write-2.ensures.wrote.call

pub returns-clause-rows : goal.returns-clause-rows
returns-clause-rows g c s disks first last q i low n is stands told =
    let sound = g.met.D.Depot.sound in
    subst (SameWords s _) (sym c.sync.ensures.synced.call.seen)
    (top_counts_words is (sound _) (sound _) c.write.ensures.wrote.call told (stands told) (sound _) c.write-2.ensures.wrote.call)

pub returns-in_err-write-clause-frame : goal.returns-in_err-write-clause-frame
returns-in_err-write-clause-frame g c told x out = wrote_beside c.in_err-write.ensures.wrote.call refl told x (λ is. out (inl is))

pub returns-in_err-write-2-clause-frame : goal.returns-in_err-write-2-clause-frame
returns-in_err-write-2-clause-frame g c told x out =
    wrote_beside c.in_err-write-2.ensures.wrote.call refl (told_on c.in_ok-write.ensures.wrote.call.run told) x (λ is. out (inr is))
    ∙ wrote_beside c.in_ok-write.ensures.wrote.call refl told x (λ is. out (inl is))

pub returns-clause-frame : goal.returns-clause-frame
returns-clause-frame g c told x out =
    synced_beside c.sync.ensures.synced.call x
    ∙ wrote_beside c.in_ok-write-2.ensures.wrote.call refl (told_on c.in_ok-write.ensures.wrote.call.run told) x (λ is. out (inr is))
    ∙ wrote_beside c.in_ok-write.ensures.wrote.call refl told x (λ is. out (inl is))
