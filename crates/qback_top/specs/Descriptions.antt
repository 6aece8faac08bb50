-- What a file is, as a text.
use Rattle.std.specs.Prelude.{◌≡◌, ◌≢◌, ◌⊎◌, List, ℕ, ◌++◌, Option, Some, None, codes}
use Rattle.qc_layout.specs.declared.header.Own.{Own}
use Rattle.qc_layout.specs.declared.header.Header.{Header}
use Rattle.qc_layout.specs.declared.records.RecordFault.{RecordFault}
use Rattle.qback_top.specs.declared.description.Description.{Description}
use Rattle.qback_top.specs.declared.description.Description.TheVariants as descriptions
use Rattle.image_model.specs.Refusals.{record_reason}
use Rattle.qback_top.specs.Infos.{fault_in, info_text, own_lines, IsToldAs, IsRefusedAs}

-- of a file that begins with these bytes
abbrev pub Describes : List ℕ → Description → Type 0
Describes file (descriptions.Refused reason) = IsRefusedAs file reason.now
Describes file (descriptions.Text text) = IsToldAs file text.items

-- of a file with this header
abbrev pub DescribesHeader : Header → Description → Type 0
DescribesHeader h (descriptions.Refused reason) =
    ((h.bitmaps ≢ None) × (reason.now ≡ codes "Unbuilt"))
    ⊎ ((fault : RecordFault) × (h.bitmaps ≡ None) × (fault_in h.fields.cluster_bits h.own ≡ Some fault) × (reason.now ≡ record_reason fault))
DescribesHeader h (descriptions.Text text) = (h.bitmaps ≡ None) × (fault_in h.fields.cluster_bits h.own ≡ None) × (text.items ≡ info_text h)

-- the lines of this project's extension were added to a text, unless its record fails a rule
pub record AddsOwn (bits : ℕ) (own : Own) (fault : Option RecordFault) (old new : List ℕ) : Type 0 where
  pub tests : fault ≡ fault_in bits own
  pub adds : fault ≡ None → new ≡ old ++ own_lines own
