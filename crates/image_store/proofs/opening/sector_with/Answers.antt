use Rattle.std.proofs.Common.{◌∙◌, rules}
use Rattle.image_store.proofs.Sector.{sector_spelled}
use Rattle.image_store.proofs.opening.sector_with.Goals as goal

pub returns : goal.returns
returns c = record {
  says = λ file written spelled bare size read.
      sector_spelled c.args.header file written c.args.disk c.args.epoch c.write_header.ensures.small (search rules) (search rules) spelled size (λ fits. read ∙ c.write_header.ensures.sector fits);
}
