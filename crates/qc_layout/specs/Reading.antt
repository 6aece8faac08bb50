-- What the steps of reading a header tell.
use Rattle.std.specs.Prelude.{◌≡◌, ℕ, ◌+◌, ◌≤◌, List, ◌++◌, Option, Some, None}
use Rattle.qc_layout.specs.declared.extension.Extension.{Extension}
use Rattle.qc_layout.specs.declared.extension.Next.{Next}
use Rattle.qc_layout.specs.declared.extension.Next.TheVariants.{End, Broken, Whole}
use Rattle.qc_layout.specs.declared.header.Fields.{Fields}
use Rattle.qc_layout.specs.declared.header.Header.{Header}
use Rattle.qc_layout.specs.Extensions.{IsEnd, IsExtension, first_of_kind, kept_bytes, tail_of, bitmaps_in, own_in, place_in, bitmaps_kind, own_kind}

-- what stands at a place of the list
abbrev pub IsNext : List ℕ → ℕ → ℕ → Next → Type 0
IsNext file end from End = IsEnd file end from
IsNext file end from Broken = (IsEnd file end from → ⊥) × ((e : Extension) → IsExtension file end from e → ⊥)
IsNext file end from (Whole e) = IsExtension file end from e

-- an extension stands within the first 65536 bytes
pub record IsNear (e : Extension) : Type 0 where
  pub low : 8 ≤ e.place
  pub high : e.place + e.length ≤ 65536

abbrev pub IsNearIfThere : Option Extension → Type 0
IsNearIfThere None = Unit {0}
IsNearIfThere (Some e) = IsNear e

-- the header has these numbers, and says what these extensions say
pub record IsMade (file : List ℕ) (f : Fields) (es : List Extension) (h : Header) : Type 0 where
  pub fields : h.fields ≡ f
  pub kept : h.kept.items.items ≡ tail_of file f.header_length ++ kept_bytes file es
  pub bitmaps : h.bitmaps ≡ bitmaps_in file (first_of_kind bitmaps_kind es)
  pub own : h.own ≡ own_in file (first_of_kind own_kind es)
  pub own_at : h.own_at ≡ place_in (first_of_kind own_kind es)
