-- What keeps a file as it is, its first bytes and its header.
use Rattle.std.proofs.Common.{◌≡◌, inl, ℕ, ◌<◌, ◌≤◌, ◌^◌, max, List, length, IsTrue, refl, sym, ap, subst, ◌∙◌, arith}
use Rattle.std.proofs.Math.Pow.{pow_mono}
use Rattle.disk_model.specs.Files.{IsOutcome, IsTorn, reading}
use Rattle.disk_model.specs.World.{World, versions, IsSound, Writes, EachNow, Holds, Leads, StepsWithin}
use Rattle.disk_model.proofs.Laws.{reading_same, length-reading, torn_elsewhere, since_step, write_leads}
use Rattle.qc_layout.specs.declared.header.Fields.{Fields}
use Rattle.qc_layout.specs.declared.header.Header.{Header}
use Rattle.qc_layout.specs.declared.header.Part.TheVariants as parts
use Rattle.qc_layout.specs.Header.{fields_of}
use Rattle.qc_layout.specs.Extensions.{first_of_kind, own_kind, place_in, list_end}
use Rattle.qc_layout.specs.Spelling.{Spells}
use Rattle.qc_layout.specs.Disks.{bits_of}
use Rattle.qc_layout.specs.Laws.{BeginAlike}
use Rattle.qc_layout.proofs.Passing.{numbers_pass}
use Rattle.qc_layout.proofs.Cited.{header_from_start}
use Rattle.core_node.specs.Step.{HasHead}
use Rattle.core_node.specs.Ends.{KeepsHeader, RewritesHeader}
use Rattle.core_node.proofs.Sources.{one_said}

-- a file that is as it was
pub still_leads : {f : ℕ} {old new : World} (S P : List ℕ → Type 0) → new.tells ≡ old.tells → new.seen f ≡ old.seen f
    → versions new f ≡ versions old f → StepsWithin old new f → Leads f S P P S P old new
still_leads {f} {old} {new} S P tells seen same steps = record {
  since = λ holds. since_step old new f P steps holds.each (after holds);
  after = λ holds. record { seen = λ told. subst S (sym seen) (holds.seen (subst IsTrue tells told)); each = after holds };
}
  where
    after : Holds f S P old → EachNow new f P
    after holds c left = holds.each c (subst (λ (vs : List (List ℕ)). IsOutcome vs c) same left)

-- a write behind these first bytes keeps them
pub write_keeps_head : {f place : ℕ} {bytes : List ℕ} {a b : World} (start : List ℕ) → IsSound a → IsSound b → Writes f place bytes a b → length start ≤ place
    → Leads f (HasHead start) (HasHead start) (HasHead start) (HasHead start) (HasHead start) a b
write_keeps_head {f} {place} {bytes} {a} {b} start sound_a sound_b call past =
    write_leads (HasHead start) (HasHead start) (HasHead start) (HasHead start) (HasHead start) sound_a sound_b call (λ c is. is) (λ c is. is)
    (λ has torn. (same (a.seen f) (b.seen f) torn has, λ old new has torn mixed. same old new torn has))
  where
    same : (old new : List ℕ) → IsTorn place bytes old new → HasHead start old → HasHead start new
    same old new torn has = reading_same new old 0 (length start) (λ i low high. torn_elsewhere place bytes old new i torn (inl (omega (arith, past, high)))) ∙ has

-- a file that stays keeps its header
pub same_header : (file : List ℕ) → KeepsHeader file file
same_header file h g before after = (let same = one_said file h g before after in inl (sym same.0, sym same.1))

-- where it has no unknown autoclear bit, so it does as a rewritten one would
pub same_rewritten : (file : List ℕ) → (fields_of file).autoclear_features < 2 → RewritesHeader file file
same_rewritten file few h g before after =
    let same = one_said file h g before after in
    let bits = ap (λ (f : Fields). f.autoclear_features) after.fields in
    let both = ap (λ (f : Fields). f.autoclear_features) same.0 in
    (sym same.0 ∙ ap (λ (a : ℕ). record (h.fields) { autoclear_features = a }) both, omega (arith, bits, few), sym same.1)

-- a file that keeps the first cluster of another keeps its header
pub head_header : (before after : List ℕ) → HasHead (reading before 0 (2 ^ bits_of before)) after → KeepsHeader before after
head_header before after has h g x y =
    let pass = numbers_pass parts.Source (length before) (fields_of before) x.numbers in
    let past = numbers_pass parts.Source (length after) (fields_of after) y.numbers in
    let sector : 2 ^ 9 ≤ 2 ^ bits_of before = pow_mono {i = 9} {j = bits_of before} pass.bits_low in
    let many = length-reading before 0 (2 ^ bits_of before) in
    let alike : BeginAlike (2 ^ bits_of before) before after = record {
      enough = (let least : max 512 (list_end (bits_of before)) ≤ 2 ^ bits_of before = omega arith in least);
      bytes = sym (subst (λ (n : ℕ). reading after 0 n ≡ reading before 0 (2 ^ bits_of before)) many has);
      short = λ short. let long = pass.long in absurd (omega arith);
      long = λ short. let long = past.long in absurd (omega arith);
    } in
    let found : Header = record h { own_at = place_in (first_of_kind own_kind x.extensions) } in
    let spelled : Spells parts.Source before found =
    record {
      numbers = x.numbers;
      fields = x.fields;
      extensions = x.extensions;
      listed = x.listed;
      rules = x.rules;
      kept = x.kept;
      bitmaps = x.bitmaps;
      own = x.own;
    } in
    let same = one_said after found g (header_from_start parts.Source before after found alike (record { spells = spelled; own_at = refl })).spells y in
    inl (sym same.0, sym same.1)
