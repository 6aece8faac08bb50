use Rattle.std.proofs.Common.{◌≡◌, ℕ, ◌+◌, ◌*◌, ◌<◌, ◌^◌, length}
use Rattle.disk_model.specs.Files.{u64_at}
use Rattle.qc_map.proofs.filling.write_links.Given as goal

abbrev pub invariant-loop-index : goal.invariant-loop-index
invariant-loop-index l = record {
  long : length l.entries ≡ length l.fn.entries;
  links : (m : ℕ) → m < l.index → u64_at l.entries (8 * m) ≡ (l.fn.taken.first + m) * 2 ^ l.fn.cluster_bits + 2 ^ 63;
}
