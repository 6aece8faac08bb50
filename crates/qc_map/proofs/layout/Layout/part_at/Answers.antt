use Rattle.std.proofs.Common.{sym, arith}
use Rattle.map_rows.specs.Parts.{IsPart}
use Rattle.qc_map.specs.Mapping.{mapping, shape_by}
use Rattle.qc_map.proofs.Going.{count_few}
use Rattle.qc_map.proofs.Places.{cluster_by, cluster_small, cluster_some, part_for}
use Rattle.qc_map.proofs.layout.Layout.part_at.Goals as goal

pub returns : goal.returns
returns c =
    let m = mapping c.args.self in
    let cluster = cluster_by m c.requires.mapping in
    let part : IsPart (shape_by m) c.args.at c.args.length c.first_of.result = c.first_of.ensures.part (shape_by m) (sym cluster) in
    record {
      part = part;
      lies = part_for m c.args.at c.args.length c.first_of.result c.requires.mapping (omega (arith, c.requires.inside, c.requires.some)) part;
      few = omega (arith, part.slots, cluster);
      most = omega (arith, cluster, cluster_small m c.requires.mapping);
      some = part.some;
      within = part.within;
      count = count_few (shape_by m) c.args.at c.args.length c.first_of.result (cluster_some m c.requires.mapping) part;
      from = omega (arith, part.inside, cluster);
    }
