use Rattle.file_device.proofs.Making.{made_empty, making_failed}
use Rattle.file_device.proofs.names.make.Goals as goal

pub returns-clause-made : goal.returns-clause-made
returns-clause-made g c = made_empty c.make.result c.args.name.now _ _ c.make.ensures.made c.make.ensures.quiet

pub returns-clause-failed : goal.returns-clause-failed
returns-clause-failed g c = making_failed c.make.result c.args.name.now _ _ c.make.ensures.made c.make.ensures.cause
