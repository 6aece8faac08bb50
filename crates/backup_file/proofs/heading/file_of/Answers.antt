use Rattle.std.proofs.lemmas.Result.{IfOk-weaker}
use Rattle.backup_file.proofs.NewFiles.{file_is}
use Rattle.backup_file.proofs.heading.file_of.Goals as goal

pub returns : goal.returns
returns c = IfOk-weaker c.lay_out.result _ _ (λ bytes laid. file_is c.args.plan.now c.args.header.now c.write_header.new.out bytes.items c.requires c.write_header.ensures.sector laid) c.lay_out.ensures
