use Rattle.std.proofs.Common.{sym, ◌∙◌, subst}
use Rattle.std.proofs.lemmas.Result.{IfOk-weaker}
use Rattle.backup_file.specs.Made.{IsNewSource}
use Rattle.file_device.proofs.Making.{created_more}
use Rattle.backup_file.proofs.NewFiles.{short_file}
use Rattle.backup_file.proofs.create.create_source.Goals as goal

pub put_file-requires : goal.put_file-requires
put_file-requires g c = rw c.deref.ensures.value (short_file c.args.cluster_bits c.args.size c.in-Ok.bytes.items c.requires c.in-Ok.ensures.tables)

pub returns-in-Ok-clause-made : goal.returns-in-Ok-clause-made
returns-in-Ok-clause-made g c =
    let is = IsNewSource c.args.cluster_bits c.args.size c.args.disk in
    IfOk-weaker c.put_file.result _ _ (λ file made. created_more (λ bytes same. subst is (sym (same ∙ c.deref.ensures.value)) c.in-Ok.ensures) made) c.put_file.ensures.made
