use Rattle.std.proofs.Common.{◌∙◌}
use Rattle.map_rows.proofs.Cutting.{part_is}
use Rattle.map_rows.proofs.parts.Part.first_of.Goals as goal

pub returns : goal.returns
returns c = record {
  part = λ s bytes.
      part_is s c.args.at c.args.length c.cluster_of-cluster.result c.min-bytes.result c.div_ceil.result c.requires.some c.cluster_of-cluster.ensures.least
      (c.cluster_of-cluster.ensures.bytes ∙ bytes) c.min-bytes.ensures c.div_ceil.ensures;
}
