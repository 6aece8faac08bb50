use Rattle.backup_file.proofs.NewFiles.{blank_own}
use Rattle.backup_file.proofs.contents.blank_own.Goals as goal

pub returns : goal.returns
returns c = blank_own c.args.cluster_bits c.write_record.result c.requires.low c.requires.high c.write_record.ensures.bytes
