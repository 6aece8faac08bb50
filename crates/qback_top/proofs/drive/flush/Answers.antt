use Rattle.std.proofs.Common.{◌≡◌, List, ℕ, sym, subst}
use Rattle.std.proofs.lemmas.Result.{on_ok_weaker}
use Rattle.disk_model.specs.World.{EachNow}
use Rattle.disk_model.proofs.Moments.{run_more, writes_within_file, now_synced}
use Rattle.qc_layout.specs.FirstForm.{disk_of}
use Rattle.qback_top.proofs.Answering.{sync_tells, did, answered_same}
use Rattle.qback_top.proofs.drive.flush.Goals as goal

pub returns-clause-answered : goal.returns-clause-answered
returns-clause-answered g c =
    let f = c.args.image.now.file.0 in
    let old = g.D.Outside.world c.args.depot.now in
    let mid = g.D.Outside.world c.sync.new.self in
    let call = c.sync.ensures.call in
    let synced : EachNow mid f (λ c. c ≡ mid.seen f) = subst (λ (file : List ℕ). EachNow mid f (λ c. c ≡ file)) (sym call.seen) (now_synced (g.met.D.Depot.sound c.args.depot.now) c.in_ok-sync.ensures.done) in
    on_ok_weaker c.say.result (λ printed told opened. answered_same (did (sync_tells (disk_of (old.seen f))) (run_more (writes_within_file f) call.run) c.say.ensures.run) call.seen opened (λ is. synced) printed) c.say.ensures.printed
