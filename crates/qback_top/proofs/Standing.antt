-- What a replay promises of the form of image that it takes, of the disk that such an image stands for by the format.
use Rattle.std.proofs.Common.{ℕ, List}
use Rattle.qc_layout.specs.declared.header.Part.{Part}
use Rattle.qc_layout.specs.Disks.{Passes}
use Rattle.qc_layout.specs.FirstForm.{IsFirstForm}
use Rattle.qc_layout.proofs.Cited.{passes_from_start, standing_in_form, standing_by_format, first_cluster, first_alike}
use Rattle.plain_model.specs.History.{now}
use Rattle.qback_top.specs.Orders.{extended}
use Rattle.qback_top.specs.Open.{Spares}
use Rattle.qback_top.specs.Laws.{ReplayKeepsStanding}

-- a file whose tables and stored clusters alone changed passes the rules of a header as before
pub passes_kept : (part : Part) (old new : List ℕ) → IsFirstForm old → Spares old new → Passes part old → Passes part new
passes_kept part old new form spares passes =
    passes_from_start part old new (first_alike old new form spares.longer (λ i first. spares.bytes i (first_cluster old i form first))) passes

pub keeps_standing : ReplayKeepsStanding
keeps_standing part number orders old new h taken replayed stands =
    let first = standing_in_form part (old.seen number) (now h) stands taken.form in (
      λ prints. replayed.answers prints h first,
      standing_by_format part (new.seen number) (now (extended h orders))
          (passes_kept part (old.seen number) (new.seen number) taken.form replayed.keeps.spares stands.passes)
          (replayed.stands h first),
    )
