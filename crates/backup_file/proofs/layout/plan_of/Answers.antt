use Rattle.std.proofs.Common.{refl, arith}
use Rattle.qc_layout.specs.Disks.{words_in, counts_in}
use Rattle.backup_file.specs.Layout.{table_clusters, l1_clusters, block_clusters, l1_cluster, all_clusters}
use Rattle.backup_file.proofs.Sizes.{form_of, shifted, no_wrap}
use Rattle.backup_file.proofs.layout.plan_of.Goals as goal

pub parts-table-requires-clause-part : goal.parts-table-requires-clause-part
parts-table-requires-clause-part c = (no_wrap c.args.cluster_bits c.args.size c.requires).counted

pub parts-table-requires-clause-small : goal.parts-table-requires-clause-small
parts-table-requires-clause-small c = rw c.parts.ensures (no_wrap c.args.cluster_bits c.args.size c.requires).table

pub parts-entries-requires-clause-part : goal.parts-entries-requires-clause-part
parts-entries-requires-clause-part c = (no_wrap c.args.cluster_bits c.args.size c.requires).covered

pub parts-entries-requires-clause-small : goal.parts-entries-requires-clause-small
parts-entries-requires-clause-small c = (no_wrap c.args.cluster_bits c.args.size c.requires).entries

pub overflow_sub-counts : goal.overflow_sub-counts
overflow_sub-counts c = omega (arith, (no_wrap c.args.cluster_bits c.args.size c.requires).half)

pub parts-blocks-requires-clause-part : goal.parts-blocks-requires-clause-part
parts-blocks-requires-clause-part c = omega (arith, (no_wrap c.args.cluster_bits c.args.size c.requires).half)

pub overflow_add-table-2 : goal.overflow_add-table-2
overflow_add-table-2 c = rw (c.parts-table.ensures, c.parts.ensures, c.parts-level.ensures, c.parts-entries.ensures) (omega (arith, (no_wrap c.args.cluster_bits c.args.size c.requires).blocks))

pub parts-blocks-requires-clause-small : goal.parts-blocks-requires-clause-small
parts-blocks-requires-clause-small c =
    rw (c.parts-table.ensures, c.parts.ensures, c.parts-level.ensures, c.parts-entries.ensures) (omega (arith, (no_wrap c.args.cluster_bits c.args.size c.requires).blocks))

pub overflow_add-first_level-2 : goal.overflow_add-first_level-2
overflow_add-first_level-2 c =
    rw (c.parts-blocks.ensures, c.parts-table.ensures, c.parts.ensures, c.parts-level.ensures, c.parts-entries.ensures)
    (omega (arith, (no_wrap c.args.cluster_bits c.args.size c.requires).blocks, (no_wrap c.args.cluster_bits c.args.size c.requires).all))

pub overflow_add-result : goal.overflow_add-result
overflow_add-result c =
    rw (c.parts-blocks.ensures, c.parts-table.ensures, c.parts.ensures, c.parts-level.ensures, c.parts-entries.ensures)
    (omega (arith, (no_wrap c.args.cluster_bits c.args.size c.requires).blocks, (no_wrap c.args.cluster_bits c.args.size c.requires).all))

pub returns : goal.returns
unfolding words_in counts_in table_clusters l1_clusters block_clusters l1_cluster all_clusters
returns c =
    let e = shifted c.args.cluster_bits (form_of c.args.cluster_bits c.args.size c.requires).high in
    record {
      is_bits = refl;
      is_size = refl;
      numbers = record {
        form = c.requires;
        cluster = e;
        table = rw (c.parts-table.ensures, c.parts.ensures, e);
        blocks = rw (c.parts-blocks.ensures, c.parts-table.ensures, c.parts.ensures, c.parts-level.ensures, c.parts-entries.ensures, e);
        entries = rw (c.parts-entries.ensures, e);
        first_level = rw (c.parts-blocks.ensures, c.parts-table.ensures, c.parts.ensures, c.parts-level.ensures, c.parts-entries.ensures, e);
        clusters = rw (c.parts-blocks.ensures, c.parts-table.ensures, c.parts.ensures, c.parts-level.ensures, c.parts-entries.ensures, e);
      };
    }
