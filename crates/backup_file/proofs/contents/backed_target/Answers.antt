use Rattle.std.proofs.lemmas.Result.{IfOk-weaker}
use Rattle.backup_file.proofs.NewFiles.{backed_file}
use Rattle.backup_file.proofs.contents.backed_target.Goals as goal

pub returns : goal.returns
returns c =
    IfOk-weaker c.file_of.result _ _
    (λ bytes is. backed_file c.args.name.now bytes.items c.plan_of-plan.ensures c.blank_own.ensures c.requires.short c.in_ok-kept.ensures c.new_header-header.ensures is)
    c.file_of.ensures
