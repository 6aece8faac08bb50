-- A file spells one header, or has one fault.
use Rattle.std.proofs.Common.{rules}
use Rattle.std.proofs.Common.{◌≡◌, inl, inr, ℕ, List, ◌++◌, Option, Some, None, sym, ap, ◌∙◌, subst}
use Rattle.qc_layout.specs.declared.extension.Extension.{Extension}
use Rattle.qc_layout.specs.declared.header.Fields.{Fields}
use Rattle.qc_layout.specs.declared.header.Header.{Header}
use Rattle.qc_layout.specs.declared.header.Part.{Part}
use Rattle.qc_layout.specs.declared.header.HeaderFault.{HeaderFault}
use Rattle.qc_layout.specs.Header.{fields_of, first_of}
use Rattle.qc_layout.specs.Extensions.{extension_rules, tail_of, kept_bytes, bitmaps_in, own_in, place_in, first_of_kind, bitmaps_kind, own_kind}
use Rattle.qc_layout.specs.Spelling.{AreIn, Spells, IsHeaderOf, IsFault}
use Rattle.qc_layout.specs.Laws.{SameHeader}
use Rattle.qc_layout.proofs.Listing.{one_listing}

-- a file's list of extensions is one
pub one_in : (file : List ℕ) (es other : List Extension) → AreIn file es → AreIn file other → es ≡ other
one_in file es other = one_listing file _ _ es other

-- and is as good as any other
same_rules : (part : Part) (file : List ℕ) (es other : List Extension) (o : Option HeaderFault) → AreIn file es → AreIn file other → first_of (extension_rules part file (fields_of file) es) ≡ o → first_of (extension_rules part file (fields_of file) other) ≡ o
same_rules part file es other o are also is = subst (λ (l : List Extension). first_of (extension_rules part file (fields_of file) l) ≡ o) (one_in file es other are also) is

some_none : (o : Option HeaderFault) (a : HeaderFault) → o ≡ Some a → o ≡ None → ⊥
some_none o a is none = cc

pub one_fault : (part : Part) (file : List ℕ) (a b : HeaderFault) → IsFault part file a → IsFault part file b → a ≡ b
one_fault part file a b (inr (inr x)) (inr (inr y)) = let same = same_rules part file x.1.0 y.1.0 (Some a) x.1.1 y.1.1 x.1.2 in let other = y.1.2 in cc
one_fault part file a b (inl x) y = search rules
one_fault part file a b (inr x) (inl y) = search rules
one_fault part file a b (inr (inl x)) (inr (inl y)) = x.1 ∙ sym y.1
one_fault part file a b (inr (inl x)) (inr (inr y)) = absurd (x.2 y.1.0 y.1.1)
one_fault part file a b (inr (inr x)) (inr (inl y)) = absurd (y.2 x.1.0 x.1.1)

pub fault_or_header : (part : Part) (file : List ℕ) (h : Header) (a : HeaderFault) → Spells part file h → IsFault part file a → ⊥
fault_or_header part file h a is (inl x) = some_none _ a x is.numbers
fault_or_header part file h a is (inr (inl x)) = x.2 is.extensions is.listed
fault_or_header part file h a is (inr (inr x)) = some_none _ a (same_rules part file x.1.0 is.extensions (Some a) x.1.1 is.listed x.1.2) is.rules

pub one_header : (part : Part) (file : List ℕ) (h g : Header) → IsHeaderOf part file h → IsHeaderOf part file g → SameHeader h g
one_header part file h g is other =
    let es = is.spells.extensions in
    let same : other.spells.extensions ≡ es = one_in file other.spells.extensions es other.spells.listed is.spells.listed in
    let fields : h.fields ≡ g.fields = is.spells.fields ∙ sym other.spells.fields in
    record {
      fields = fields;
      kept = is.spells.kept ∙ ap (λ (f : Fields). tail_of file f.header_length ++ kept_bytes file es) fields
          ∙ sym (other.spells.kept ∙ ap (λ (l : List Extension). tail_of file g.fields.header_length ++ kept_bytes file l) same);
      bitmaps = is.spells.bitmaps ∙ sym (other.spells.bitmaps ∙ ap (λ (l : List Extension). bitmaps_in file (first_of_kind bitmaps_kind l)) same);
      own = is.spells.own ∙ sym (other.spells.own ∙ ap (λ (l : List Extension). own_in file (first_of_kind own_kind l)) same);
      own_at = is.own_at ∙ sym (other.own_at ∙ ap (λ (l : List Extension). place_in (first_of_kind own_kind l)) same);
    }
