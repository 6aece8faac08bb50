-- The first bytes of a file, as many as it has.
use Rattle.std.proofs.Common.{◌≡◌, ◌≢◌, ◌⊎◌, inl, inr, ℕ, min, Bool, true, false, List, length, IsTrue, Result, refl, sym, ap, ◌∙◌, subst, arith}
use Rattle.std.proofs.lemmas.Bool.{cases_lt, cases_Bool, true≢false}
use Rattle.disk_model.specs.Files.{reading}
use Rattle.disk_model.specs.World.{World}
use Rattle.disk_model.proofs.Laws.{reading_all, reading-reading, length-reading}
use Rattle.file_device.specs.Calls.{Looks}
use Rattle.file_device.specs.File.{File, file_of, Gives}
use Rattle.file_device.proofs.Laws.{gives_on, given}
use Rattle.qc_layout.specs.declared.header.Header.{Header}
use Rattle.qc_layout.specs.declared.header.HeaderFault.{HeaderFault}
use Rattle.qc_layout.specs.declared.header.Part.{Part}
use Rattle.qc_layout.specs.Laws.{FromStart}
use Rattle.qc_layout.specs.Spelling.{IsHeaderOf, IsFault}
use Rattle.image_header.specs.Headers.{StartsAs, IsRead, IsRefused}
use Rattle.image_header.specs.declared.refusals.NoHeader.{NoHeader}
use Rattle.image_header.specs.declared.refusals.NoHeader.TheVariants as refusals
use Rattle.qc_layout.specs.declared.header.HeaderFault.TheVariants as header_faults

starts : (file bytes : List ℕ) (n : ℕ) → n ≡ min (length file) 65536 → bytes ≡ reading file 0 n → StartsAs bytes file
starts file bytes n least read = record {
  enough = omega arith;
  bytes = elim (cases_lt (length file) 65536) [
    | inl short ↦ ap (λ (b : List ℕ). reading b 0 65536) (read ∙ reading_all file n (omega (arith, least, short)))
    | inr long ↦
        let whole : n ≡ 65536 = omega (arith, least, long) in
        ap (λ (b : List ℕ). reading b 0 65536) (read ∙ ap (reading file 0) whole) ∙ reading-reading file 0 65536 0 65536 (omega arith)
  ];
  short = λ below. omega (arith, below, least, long);
  long = λ below. omega (arith, below, least, long);
}
  where
    long : length bytes ≡ n
    long = ap length read ∙ length-reading file 0 n

pub starts_long : {T E : Type 0} {f n m : ℕ} {a b : World} {result : Result T E} → Looks f a b result → Gives (file_of a f) (λ c. n ≡ length c) → m ≡ min n 65536
    → Gives (file_of b f) (λ c. m ≡ min (length c) 65536)
starts_long {n = n} looks long least told = let same = gives_on (λ c. n ≡ length c) looks long told in omega (arith, same, least)

pub starts_as : {T E : Type 0} {f n long : ℕ} {bytes : List ℕ} {a b : World} {result : Result T E} → Looks f a b result → long ≡ n
    → Gives (file_of a f) (λ c. n ≡ min (length c) 65536) → Gives (file_of a f) (λ c. bytes ≡ reading c 0 long) → Gives (file_of b f) (StartsAs bytes)
starts_as {f = f} {n = n} {long = long} {bytes = bytes} {b = b} looks same count read told =
    let counted = gives_on (λ c. n ≡ min (length c) 65536) looks count told in
    let given = gives_on (λ c. bytes ≡ reading c 0 long) looks read told in
    starts (file_of b f).bytes bytes n counted (given ∙ ap (reading (file_of b f).bytes 0) same)

-- ---- the header

-- what begins with these bytes is read as they are
begins : (f : ℕ) (a b : World) (bytes : List ℕ) → Gives (file_of b f) (StartsAs bytes) → file_of b f ≡ file_of a f → IsTrue a.tells → StartsAs bytes (a.seen f)
begins f a b bytes start same told = given a f (StartsAs bytes) (subst (λ (file : File). Gives file (StartsAs bytes)) same start) told

pub headed : (f : ℕ) (a b : World) (bytes : List ℕ) (part : Part) (h : Header) → FromStart → Gives (file_of b f) (StartsAs bytes) → file_of b f ≡ file_of a f
    → IsHeaderOf part bytes h → IsTrue a.tells → IsHeaderOf part (a.seen f) h
headed f a b bytes part h law start same header told = (law part 65536 bytes (a.seen f) (begins f a b bytes start same told)).0 h header

refused : (f : ℕ) (a b : World) (bytes : List ℕ) (part : Part) (fault : HeaderFault) → FromStart → Gives (file_of b f) (StartsAs bytes) → file_of b f ≡ file_of a f
    → IsFault part bytes fault → IsTrue a.tells → IsFault part (a.seen f) fault
refused f a b bytes part fault law start same is told = (law part 65536 bytes (a.seen f) (begins f a b bytes start same told)).1 fault is

pub read_on : (f : ℕ) (w : World) (bytes : List ℕ) (part : Part) (h : Header) → FromStart → Gives (file_of w f) (StartsAs bytes) → IsHeaderOf part bytes h → IsRead h f w
read_on f w bytes part h law start header = elim (cases_Bool w.tells) [
  | inl told ↦ record { bytes = w.seen f; part = part; spells = (headed f w w bytes part h law start refl header told).spells; told = λ same. refl }
  | inr silent ↦ record { bytes = bytes; part = part; spells = header.spells; told = λ told. absurd (silent_told w.tells silent told) }
]
  where
    silent_told : (t : Bool) → t ≡ false → IsTrue t → ⊥
    silent_told t silent told = true≢false (sym told ∙ silent)

-- why there is none, as the reader of these bytes said it
pub told_refusal : (f : ℕ) (a b : World) (bytes : List ℕ) (part : Part) (fault : HeaderFault) (why : NoHeader) → FromStart → Gives (file_of b f) (StartsAs bytes) → file_of b f ≡ file_of a f
    → (fault ≢ header_faults.Memory → IsFault part bytes fault) → (why ≡ refusals.Memory) ⊎ ((fault ≢ header_faults.Memory) × (why ≡ refusals.Fault fault)) → IsTrue a.tells → IsRefused part (a.seen f) why
told_refusal f a b bytes part fault why law start same is (inl memory) told = subst (IsRefused part (a.seen f)) (sym memory) tt
told_refusal f a b bytes part fault why law start same is (inr other) told = subst (IsRefused part (a.seen f)) (sym other.1) (other.0, refused f a b bytes part fault law start same (is other.0) told)
