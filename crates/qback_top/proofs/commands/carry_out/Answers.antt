use Rattle.std.proofs.Common.{◌≡◌, inl, inr, ℕ, List, Option, Result, Ok, Err, IfOk, OnErr, sym, ap, subst, ◌∙◌}
use Rattle.qback_top.specs.declared.end.End.{End}
use Rattle.qback_top.specs.declared.stop.Stop.{Stop}
use Rattle.qback_top.specs.declared.words.Task.TheVariants.{CreateSource, CreateTarget, Info, Replay}
use Rattle.qback_top.specs.Words.{IsTask}
use Rattle.qback_top.specs.Shown.{Shows, StopsInReplay, StopsInCreation, StopsInInfo}
use Rattle.qback_top.proofs.commands.carry_out.Goals.{in-CreateSource, in-CreateTarget, in-Info, in-Replay}
use Rattle.qback_top.proofs.commands.carry_out.Goals as goal

-- what a result says that is Ok
ok_case : (ended result : Result End Stop) (end : End) (P : End → Type 0) → ended ≡ result → ended ≡ Ok end → IfOk result P → P end
ok_case ended result end P e f says = subst (λ (r : Result End Stop). IfOk r P) (sym e ∙ f) says

-- and one that isn't
err_case : (ended result : Result End Stop) (stop : Stop) (P : Type 0) → ended ≡ result → ended ≡ Err stop → OnErr result P → P
err_case ended result stop P e f says = subst (λ (r : Result End Stop). OnErr r P) (sym e ∙ f) says

pub returns-in-Ok-clause-shows : goal.returns-in-Ok-clause-shows
returns-in-Ok-clause-shows g c = λ told words says.
    let a = g.D.Outside.world c.args.depot.now in
    let ended = c.match-task.ended in
    let end = c.in-Ok.end in
    elim c.match-task.branch [
      | in-CreateSource w ↦
          let is = w.in-CreateSource.is ∙ ap (λ (f : List ℕ). CreateSource f w.in-CreateSource.size w.in-CreateSource.cluster_bits w.in-CreateSource.disk) (sym w.text_of.ensures) in
          subst (λ d. Shows words a (g.D.Outside.world d) end) (sym w.depot-is)
          (inr (inl (ok_case ended w.create_source_file-ended.result end _ w.ended-is c.in-Ok.is w.create_source_file-ended.ensures.shows told words (subst (IsTask words) is says))))
      | in-CreateTarget w ↦
          let is = w.in-CreateTarget.is ∙ ap (λ (f : List ℕ). CreateTarget f w.in-CreateTarget.size w.in-CreateTarget.cluster_bits w.in-CreateTarget.backing) (sym w.text_of-in-CreateTarget.ensures)
          ∙ ap (λ (b : Option (List ℕ)). CreateTarget w.text_of-in-CreateTarget.result.now w.in-CreateTarget.size w.in-CreateTarget.cluster_bits b) (sym w.text_of_some.ensures) in
          subst (λ d. Shows words a (g.D.Outside.world d) end) (sym w.depot-is)
          (inr (inl (ok_case ended w.create_target_file-ended.result end _ w.ended-is c.in-Ok.is w.create_target_file-ended.ensures.shows told words (subst (IsTask words) is says))))
      | in-Info w ↦
          let is = w.in-Info.is ∙ ap Info (sym w.text_of-in-Info.ensures) in
          subst (λ d. Shows words a (g.D.Outside.world d) end) (sym w.depot-is)
          (inr (inr (ok_case ended w.tell-ended.result end _ w.ended-is c.in-Ok.is w.tell-ended.ensures.shows told words (subst (IsTask words) is says))))
      | in-Replay w ↦
          let is = w.in-Replay.is ∙ ap (λ (f : List ℕ). Replay f w.in-Replay.script) (sym w.text_of-in-Replay.ensures) ∙ ap (λ (s : List ℕ). Replay w.text_of-in-Replay.result.now s) (sym w.text_of-in-Replay-2.ensures) in
          subst (λ d. Shows words a (g.D.Outside.world d) end) (sym w.depot-is)
          (inl (ok_case ended w.replay_files-ended.result end _ w.ended-is c.in-Ok.is w.replay_files-ended.ensures.shows told words (subst (IsTask words) is says)))
    ]

pub returns-in-Err-clause-shows : goal.returns-in-Err-clause-shows
returns-in-Err-clause-shows g c = λ told words says.
    let a = g.D.Outside.world c.args.depot.now in
    let ended = c.match-task.ended in
    let stop = c.in-Err.stop in
    elim c.match-task.branch [
      | in-CreateSource w ↦
          let is = w.in-CreateSource.is ∙ ap (λ (f : List ℕ). CreateSource f w.in-CreateSource.size w.in-CreateSource.cluster_bits w.in-CreateSource.disk) (sym w.text_of.ensures) in
          inr (inl (subst (λ d. StopsInCreation words a (g.D.Outside.world d)) (sym w.depot-is)
          (err_case ended w.create_source_file-ended.result stop _ w.ended-is c.in-Err.is w.create_source_file-ended.ensures.stops told words (subst (IsTask words) is says))))
      | in-CreateTarget w ↦
          let is = w.in-CreateTarget.is ∙ ap (λ (f : List ℕ). CreateTarget f w.in-CreateTarget.size w.in-CreateTarget.cluster_bits w.in-CreateTarget.backing) (sym w.text_of-in-CreateTarget.ensures)
          ∙ ap (λ (b : Option (List ℕ)). CreateTarget w.text_of-in-CreateTarget.result.now w.in-CreateTarget.size w.in-CreateTarget.cluster_bits b) (sym w.text_of_some.ensures) in
          inr (inl (subst (λ d. StopsInCreation words a (g.D.Outside.world d)) (sym w.depot-is)
          (err_case ended w.create_target_file-ended.result stop _ w.ended-is c.in-Err.is w.create_target_file-ended.ensures.stops told words (subst (IsTask words) is says))))
      | in-Info w ↦
          let is = w.in-Info.is ∙ ap Info (sym w.text_of-in-Info.ensures) in
          inr (inr (subst (λ d. StopsInInfo words a (g.D.Outside.world d)) (sym w.depot-is)
          (err_case ended w.tell-ended.result stop _ w.ended-is c.in-Err.is w.tell-ended.ensures.stops told words (subst (IsTask words) is says))))
      | in-Replay w ↦
          let is = w.in-Replay.is ∙ ap (λ (f : List ℕ). Replay f w.in-Replay.script) (sym w.text_of-in-Replay.ensures) ∙ ap (λ (s : List ℕ). Replay w.text_of-in-Replay.result.now s) (sym w.text_of-in-Replay-2.ensures) in
          inl (subst (λ d. StopsInReplay words a (g.D.Outside.world d)) (sym w.depot-is)
          (err_case ended w.replay_files-ended.result stop _ w.ended-is c.in-Err.is w.replay_files-ended.ensures.stops told words (subst (IsTask words) is says)))
    ]
