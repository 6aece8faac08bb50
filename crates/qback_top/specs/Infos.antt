-- `info FILE`: what a file is, which end is due, and what is left.
use Rattle.std.specs.Prelude.{◌≡◌, ◌≢◌, ◌⊎◌, ℕ, ◌^◌, List, [], ◌++◌, Option, Some, None, codes}
use Rattle.std.specs.Fmt.{decimal}
use Rattle.hex.specs.Hex.{encode_lower}
use Rattle.disk_model.specs.World.{World, Runs, PrintsPart}
use Rattle.span_algebra.specs.declared.points.Point.{Point}
use Rattle.span_algebra.specs.declared.spans.Base.{Base}
use Rattle.span_algebra.specs.declared.spans.Base.TheVariants.{Whole, Since, Loose}
use Rattle.qc_layout.specs.declared.header.Part.{Part}
use Rattle.qc_layout.specs.declared.header.Own.{Own}
use Rattle.qc_layout.specs.declared.header.Own.TheVariants.{Absent, Source, Target}
use Rattle.qc_layout.specs.declared.header.Header.{Header}
use Rattle.qc_layout.specs.declared.header.HeaderFault.{HeaderFault}
use Rattle.qc_layout.specs.declared.records.Record.{Record}
use Rattle.qc_layout.specs.declared.records.State.TheVariants.{Blank, Begun, Sealed}
use Rattle.qc_layout.specs.declared.records.RecordFault.{RecordFault}
use Rattle.qc_layout.specs.Spelling.{IsHeaderOf, IsFault}
use Rattle.qc_layout.specs.Disks.{IsReadAs}
use Rattle.qc_layout.specs.Records.{record_fault, record_of}
use Rattle.image_model.specs.Refusals.{header_reason, record_reason}
use Rattle.qback_top.specs.Words.{IsInfo}
use Rattle.qback_top.specs.Endings.{Ending, Missing, Refused, Told, looks_and_says}

-- ---- the text

abbrev pub point_text : Point → List ℕ
point_text p = decimal p.epoch ++ codes "." ++ decimal p.serial

abbrev pub base_line : Base → List ℕ
base_line Whole = codes "full\n"
base_line (Since p) = codes "since " ++ point_text p ++ codes "\n"
base_line Loose = codes "loose\n"

abbrev pub record_lines : Record → List ℕ
record_lines r = elim r.state [
  | Blank ↦ codes "state blank\n"
  | Begun ↦ codes "state opened\n"
  | Sealed ↦ codes "state sealed\nid " ++ encode_lower r.disk ++ codes "\n" ++ base_line r.base ++ codes "point " ++ point_text r.point ++ codes "\n"
]

abbrev pub kind_line : Own → List ℕ
kind_line Absent = codes "kind image\n"
kind_line (Source disk epoch spans_offset spans_length) = codes "kind source\n"
kind_line (Target bytes) = codes "kind target\n"

abbrev pub own_lines : Own → List ℕ
own_lines Absent = []
own_lines (Source disk epoch spans_offset spans_length) = codes "id " ++ encode_lower disk ++ codes "\nepoch " ++ decimal epoch ++ codes "\n"
own_lines (Target bytes) = record_lines (record_of bytes)

abbrev pub info_text : Header → List ℕ
info_text h = kind_line h.own ++ codes "size " ++ decimal h.fields.size ++ codes "\ncluster " ++ decimal (2 ^ h.fields.cluster_bits) ++ codes "\n" ++ own_lines h.own

-- ---- which end is due

-- the rule that the record fails first, where there is one
abbrev pub fault_in : ℕ → Own → Option RecordFault
fault_in bits (Target bytes) = record_fault bits bytes
fault_in bits own = None

-- a file is told by its header and its record, and refused by the first rule that they fail; bitmaps aren't read yet
abbrev pub IsToldAs : List ℕ → List ℕ → Type 0
IsToldAs file text = (part : Part) × (h : Header) × IsReadAs file part × IsHeaderOf part file h × (h.bitmaps ≡ None) × (fault_in h.fields.cluster_bits h.own ≡ None) × (text ≡ info_text h)

abbrev pub IsRefusedAs : List ℕ → List ℕ → Type 0
IsRefusedAs file reason = (part : Part) × IsReadAs file part × (
    ((fault : HeaderFault) × IsFault part file fault × (reason ≡ header_reason fault))
    ⊎ ((h : Header) × IsHeaderOf part file h × (h.bitmaps ≢ None) × (reason ≡ codes "Unbuilt"))
    ⊎ ((h : Header) × (fault : RecordFault) × IsHeaderOf part file h × (h.bitmaps ≡ None) × (fault_in h.fields.cluster_bits h.own ≡ Some fault) × (reason ≡ record_reason fault)))

abbrev pub InfoDue : List (List ℕ) → World → Ending → Type 0
InfoDue words w (Missing name) = IsInfo words name × (w.found name ≡ None)
InfoDue words w (Refused name reason) = (f : ℕ) × IsInfo words name × (w.found name ≡ Some f) × IsRefusedAs (w.seen f) reason
InfoDue words w (Told text) = (name : List ℕ) × (f : ℕ) × IsInfo words name × (w.found name ≡ Some f) × IsToldAs (w.seen f) text
InfoDue words w ending = ⊥

-- a part of the text that is due was printed
abbrev pub StopsTelling : List (List ℕ) → World → World → Type 0
StopsTelling words old new = (text : List ℕ) × InfoDue words old (Told text) × Runs looks_and_says old new × PrintsPart text old new
