use Rattle.std.proofs.Common.{refl, arith}
use Rattle.qc_layout.specs.Disks.{place_of}
use Rattle.qc_layout.proofs.Computing.{directory_computes}
use Rattle.qc_layout.proofs.laws.clusters_are_held.Goals as goal

pub returns : goal.returns
unfolding directory_computes place_of
returns c = record {
  directory = (record { offset = 512; size = 32; count = 1 }, refl, (omega arith, omega arith));
  table = (_, (0, omega arith, refl), refl, (omega arith, omega arith));
  bits = (_, (0, omega arith, refl), refl, omega arith, refl);
  spans = (record { offset = 512; size = 32; count = 1 }, 1536, refl, refl, (omega arith, omega arith));
  behind = (_, (1, omega arith, refl), refl, (omega arith, omega arith));
}
