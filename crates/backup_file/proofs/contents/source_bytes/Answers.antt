use Rattle.std.proofs.Common.{◌≡◌, length, rules}
use Rattle.std.proofs.lemmas.Result.{IfOk-weaker}
use Rattle.backup_file.proofs.NewFiles.{source_file}
use Rattle.backup_file.proofs.contents.source_bytes.Goals as goal

pub returns : goal.returns
returns c =
    let long : length c.args.disk ≡ 16 = search rules in
    IfOk-weaker c.file_of.result _ _ (λ bytes is. source_file bytes.items c.plan_of-plan.ensures long c.new.ensures.items c.new_header-header.ensures is) c.file_of.ensures
