use Rattle.std.proofs.Common.{◌≡◌, ◌*◌, ◌^◌, refl, arith}
use Rattle.qc_layout.specs.Disks.{place_of}
use Rattle.backup_file.specs.Layout.{l1_cluster}
use Rattle.backup_file.proofs.Laying.{room_of, level_small}
use Rattle.backup_file.proofs.heading.new_header.Goals as goal

pub overflow_mul-fields : goal.overflow_mul-fields
overflow_mul-fields c = omega (arith, level_small c.args.plan.now c.requires)

pub overflow_cast-fields-2 : goal.overflow_cast-fields-2
overflow_cast-fields-2 c = omega (arith, (room_of c.args.plan.now c.requires).table_small)

pub returns : goal.returns
unfolding place_of
returns c =
    let is = c.requires in
    let plan = c.args.plan.now in
    let level : plan.cluster * plan.first_level ≡ 2 ^ plan.cluster_bits * l1_cluster plan.cluster_bits plan.size = rw (is.cluster, is.first_level) refl in
    let table : plan.cluster ≡ 2 ^ plan.cluster_bits * 1 = omega (arith, is.cluster) in
    record { fields = cc (level, table, is.entries, is.table); is_own = refl; keeps = refl; bitmaps = refl }
