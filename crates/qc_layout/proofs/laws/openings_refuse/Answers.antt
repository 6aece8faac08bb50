use Rattle.std.proofs.Common.{refl}
use Rattle.disk_model.specs.Files as files
use Rattle.qc_layout.specs.Entries.{l1_of, l2_of}
use Rattle.qc_layout.specs.Header.{fields_of}
use Rattle.qc_layout.specs.Disks.{words_in, counts_in, place_of, refcount}
use Rattle.qc_layout.specs.Spelling.{word32, word64}
use Rattle.qc_layout.specs.Opening.{cluster_fault}
use Rattle.qc_layout.proofs.laws.openings_refuse.Goals as goal

pub returns : goal.returns
unfolding l1_of l2_of fields_of words_in counts_in place_of refcount word32 word64 cluster_fault files.number_at files.reading
returns c = record {
  header = refl;
  nothing = refl;
  no_table = refl;
  bad_block = refl;
  block_past = refl;
  no_block = refl;
  first_reserved = refl;
  slot_reserved = refl;
  compressed = refl;
  table_over = refl;
  slot_over = refl;
  twice = refl;
  uncounted = refl;
  past = refl;
  first = refl;
}
