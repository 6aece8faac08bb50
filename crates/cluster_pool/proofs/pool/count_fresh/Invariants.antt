use Rattle.std.proofs.Common.{◌≡◌, ◌-◌, ◌*◌, min, []}
use Rattle.std.specs.Prelude.{count_by}
use Rattle.std.specs.List.{range_with_len}
use Rattle.qc_layout.specs.Disks.{counts_in}
use Rattle.cluster_pool.specs.Pool.{is_open, found_pool}
use Rattle.cluster_pool.proofs.pool.count_fresh.Given as goal

abbrev pub invariant-loop-index : goal.invariant-loop-index
invariant-loop-index l =
    l.fresh ≡ count_by (is_open (found_pool l.cluster_bits l.blocks [] l.next)) (range_with_len l.next (min l.reach (l.index * counts_in l.cluster_bits) - l.next))
