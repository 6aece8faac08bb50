-- As what a file is read of which it isn't known what it is.
use Rattle.std.proofs.Common.{◌≡◌, inl, inr, ℕ, ◌^◌, ◌≤◌, ◌≢◌, min, Bool, false, List, [], ◌∷◌, Some, None, refl, sym, ap, subst, ◌∙◌, arith}
use Rattle.std.specs.Prelude.{◌==◌, if◌then◌else◌}
use Rattle.std.proofs.lemmas.Bool.{cases_lt, eq-eqb, ne_eqb}
use Rattle.std.proofs.Math.Nat.{pow-le-pow_right}
use Rattle.disk_model.specs.Files.{u32_at}
use Rattle.qc_layout.specs.declared.extension.Extension.{Extension}
use Rattle.qc_layout.specs.declared.header.Part.TheVariants as parts
use Rattle.qc_layout.specs.Header.{fields_of}
use Rattle.qc_layout.specs.Extensions.{IsExtension, StandInRow, behind, first_of_kind, list_end, own_kind}
use Rattle.qc_layout.specs.Disks.{IsBackupFrom, IsBackup, IsReadAs, bits_of}
use Rattle.qc_layout.proofs.Listing.{one_extension}

-- ---- the list's end

-- clusters of more bytes than 2 to the power 21 end the list where those do
pub end_min : (bits : ℕ) → list_end (min bits 21) ≡ list_end bits
end_min bits = elim (cases_lt 21 bits) [
  | inl high ↦ let p : 2 ^ 21 ≤ 2 ^ bits = pow-le-pow_right {n = 2} (omega arith) {i = 21} {j = bits} (omega arith) in
      (let e : min bits 21 ≡ 21 = omega arith in ap list_end e) ∙ omega arith
  | inr low ↦ let e : min bits 21 ≡ bits = omega arith in ap list_end e
]

-- ---- the header's numbers

pub bits_at : (file : List ℕ) → bits_of file ≡ u32_at file 20
unfolding fields_of
bits_at file = refl

pub header_at : (file : List ℕ) → (fields_of file).header_length ≡ u32_at file 100
unfolding fields_of
header_at file = refl

-- ---- what the list says

-- the list from here on decides
pub record Decides (file : List ℕ) (end at : ℕ) : Type 0 where
  pub goes_on : IsBackupFrom file end at → IsBackup file
  pub comes : IsBackup file → IsBackupFrom file end at

-- from its start
pub decides_first : (file : List ℕ) (end at : ℕ) → end ≡ list_end (bits_of file) → at ≡ u32_at file 100 → Decides file end at
decides_first file end at ends starts =
    subst (λ (n : ℕ). Decides file n at) (sym ends)
    (subst (Decides file (list_end (bits_of file))) (sym (starts ∙ sym (header_at file))) (record { goes_on = λ is. is; comes = λ is. is }))

-- a list in which something is found begins with an extension
first_stands : (file : List ℕ) (end at : ℕ) (es : List Extension) (x : Extension) → StandInRow file end at es → first_of_kind own_kind es ≡ Some x → (e : Extension) × IsExtension file end at e
first_stands file end at [] x row first = absurd cc
first_stands file end at (e ∷ es) x row first = (e, row.0)

behind_first : (file : List ℕ) (end at : ℕ) (e : Extension) (es : List Extension) (x : Extension) → IsExtension file end at e → (e.kind == own_kind) ≡ false →
    StandInRow file end at es → first_of_kind own_kind es ≡ Some x → (rest : List Extension) × StandInRow file end (behind e) rest × (first_of_kind own_kind rest ≡ Some x)
behind_first file end at e [] x is other row first = absurd cc
behind_first file end at e (y ∷ ys) x is other row first =
    let same = one_extension file end at y e row.0 is in
    let skipped = ap (λ (z : Extension). if z.kind == own_kind then Some z else first_of_kind own_kind ys) same ∙ ap (λ (t : Bool). if t then Some e else first_of_kind own_kind ys) other in
    (ys, subst (λ (z : Extension). StandInRow file end (behind z) ys) same row.1, sym skipped ∙ first)

-- from behind one that isn't this project's
pub decides_behind : (file : List ℕ) (end at next : ℕ) (e : Extension) → Decides file end at → IsExtension file end at e → e.kind ≢ own_kind → next ≡ behind e → Decides file end next
decides_behind file end at next e before is ne on =
    let other = ne_eqb e.kind own_kind ne in
    subst (Decides file end) (sym on)
    (record {
      goes_on = λ backup. before.goes_on (e ∷ backup.0, backup.1, (is, backup.2), ap (λ (t : Bool). if t then Some e else first_of_kind own_kind backup.0) other ∙ backup.3, backup.4);
      comes = λ backup. let here = before.comes backup in let rest = behind_first file end at e here.0 here.1 is other here.2 here.3 in (rest.0, here.1, rest.1, rest.2, here.4);
    })

-- where none stands it is a disk
pub none_source : (file : List ℕ) (end at : ℕ) → Decides file end at → ((e : Extension) → IsExtension file end at e → ⊥) → IsReadAs file parts.Source
none_source file end at before none = λ backup. let here = before.comes backup in let e = first_stands file end at here.0 here.1 here.2 here.3 in none e.0 e.1

-- and at this project's its length says it
own_length : (file : List ℕ) (end at : ℕ) (e : Extension) (es : List Extension) (x : Extension) → IsExtension file end at e → e.kind ≡ own_kind →
    StandInRow file end at es → first_of_kind own_kind es ≡ Some x → x ≡ e
own_length file end at e [] x is own row first = absurd cc
own_length file end at e (y ∷ ys) x is own row first =
    let same = one_extension file end at y e row.0 is in
    let found = ap (λ (z : Extension). if z.kind == own_kind then Some z else first_of_kind own_kind ys) same ∙ ap (λ (t : Bool). if t then Some e else first_of_kind own_kind ys) (eq-eqb e.kind own_kind own) in
    cc

pub own_target : (file : List ℕ) (end at : ℕ) (e : Extension) → Decides file end at → IsExtension file end at e → e.kind ≡ own_kind → e.length ≡ 64 → IsReadAs file parts.Target
own_target file end at e before is own long = before.goes_on (e ∷ [], e, (is, tt), ap (λ (t : Bool). if t then Some e else None) (eq-eqb e.kind own_kind own), long)

pub own_source : (file : List ℕ) (end at : ℕ) (e : Extension) → Decides file end at → IsExtension file end at e → e.kind ≡ own_kind → e.length ≢ 64 → IsReadAs file parts.Source
own_source file end at e before is own other = λ backup.
    let here = before.comes backup in
    let same = own_length file end at e here.0 here.1 is own here.2 here.3 in
    other (ap (λ (z : Extension). z.length) (sym same) ∙ here.4)
