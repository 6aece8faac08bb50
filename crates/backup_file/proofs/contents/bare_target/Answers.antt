use Rattle.std.proofs.lemmas.Result.{IfOk-weaker}
use Rattle.backup_file.proofs.NewFiles.{bare_file}
use Rattle.backup_file.proofs.contents.bare_target.Goals as goal

pub returns : goal.returns
returns c = IfOk-weaker c.file_of.result _ _ (λ bytes is. bare_file bytes.items c.plan_of-plan.ensures c.blank_own.ensures c.new.ensures.items c.new_header-header.ensures is) c.file_of.ensures
