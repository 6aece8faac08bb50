-- An opening of a source refuses something exactly where there is a cause, and nothing exactly where its clusters and its bitmaps pass.
use Rattle.std.proofs.lemmas.Grind.{common_steps}
use Rattle.std.proofs.Common.{◌≡◌, ℕ, ◌%◌, ◌^◌, ◌<◌, ◌↔◌, List, [], ◌∷◌, true, false, ◌⊎◌, inl, inr, Option, Some, None, refl, sym, ap, ◌∙◌, arith}
use Rattle.std.specs.Prelude.{◌==◌, option_map}
use Rattle.std.specs.List.{list_any}
use Rattle.std.specs.Option.{option_or}
use Rattle.std.proofs.lemmas.Bool.{or_cases, eqb-true, eq-eqb}
use Rattle.qc_layout.specs.declared.extension.Extension.{Extension}
use Rattle.qc_layout.specs.declared.faults.ImageFault.{ImageFault}
use Rattle.qc_layout.specs.declared.faults.ImageFault.TheVariants.{PastLimit, Overlap, Uncounted}
use Rattle.qc_layout.specs.declared.header.DirPlace.{DirPlace}
use Rattle.qc_layout.specs.declared.header.Header.{Header}
use Rattle.qc_layout.specs.declared.header.Part.TheVariants as parts
use Rattle.qc_layout.specs.Header.{fields_of}
use Rattle.qc_layout.specs.Extensions.{bitmaps_in, bitmaps_kind, extension_rules, first_of_kind, is_bad_bitmaps}
use Rattle.qc_layout.specs.Spelling.{Spells}
use Rattle.qc_layout.specs.Disks.{bits_of, refcount, reach_of}
use Rattle.qc_layout.specs.Directory.{directory_in, directory_fault, listed_in}
use Rattle.qc_layout.specs.Owners.{Who, Refers, Held, Holds, Owner, Image, Bitmaps, Owns, Counted}
use Rattle.qc_layout.specs.Opening.{Check, image_checks, cluster_fault, IsCause}
use Rattle.qc_layout.specs.Opening.Check.{Refused, Reached, Claim}
use Rattle.qc_layout.specs.Room.{TablesPass}
use Rattle.qc_layout.specs.Loading.{LoadFault, Cluster, Listed, bitmaps_refused_after, directory_checks, claimed_in, image_fault}
use Rattle.qc_layout.specs.Laws.{IsLoadable, IsOwnerCause, IsLoadCause, LoadingIsExact}
use Rattle.qc_layout.proofs.Passing.{all_pass}
use Rattle.qc_layout.proofs.Directories.{found_in}
use Rattle.qc_layout.proofs.Checking.{Has, all_fine}
use Rattle.qc_layout.proofs.Claims.{IsSized, IsClean, sized, has_claim}
use Rattle.qc_layout.proofs.Orderly.{image_orderly}
use Rattle.qc_layout.proofs.Opening.{tables_pass, fault_cause, no_cause}
use Rattle.qc_layout.proofs.Holding.{GoesThrough, goes_through, first_cause, holder, Claims, Others}
use Rattle.qc_layout.proofs.DirectoryChecks.{none_first, claims_directory, directory_rules}

-- ---- what the header says of the directory

place_whole : (bits : ℕ) (file : List ℕ) (found : Option Extension) (place : DirPlace) → is_bad_bitmaps bits file found ≡ false
    → bitmaps_in file found ≡ Some place → place.offset % 2 ^ bits ≡ 0
place_whole bits file found place good is = grind (arith, common_steps)

pub directory_claims : (file : List ℕ) (h : Header) → Spells parts.Source file h → Claims (Holds file (listed_in file)) (directory_checks file (directory_in file))
directory_claims file h spelled =
    let es : List Extension = spelled.extensions in
    let bits : ℕ = bits_of file in
    let good : is_bad_bitmaps bits file (first_of_kind bitmaps_kind es) ≡ false =
    (all_pass (extension_rules parts.Source file (fields_of file) es) spelled.rules).1.1.0 in
    let found : directory_in file ≡ bitmaps_in file (first_of_kind bitmaps_kind es) =
    ap (λ (l : List Extension). bitmaps_in file (first_of_kind bitmaps_kind l)) (found_in file es spelled.listed) in
    claims_directory file (directory_in file) (sized parts.Source file spelled.numbers).some refl
    (λ place is. place_whole bits file (first_of_kind bitmaps_kind es) place good (sym found ∙ is))

-- ---- what was claimed before

pub has_claimed : (checks : List Check) (owner : Who) (k : ℕ) → Has checks (Claim owner k) → list_any (λ other. other == k) (claimed_in checks) ≡ true
has_claimed [] owner k has = absurd has
has_claimed (c ∷ cs) owner k has = let rest = has_claimed cs owner k in grind (arith, common_steps, eq-eqb)

pub claimed_has : (checks : List Check) (k : ℕ) → list_any (λ other. other == k) (claimed_in checks) ≡ true → (owner : Who) × Has checks (Claim owner k)
claimed_has [] k found = absurd (cc)
claimed_has (Refused fault ∷ cs) k found = let rest = claimed_has cs k found in (rest.0, inr rest.1)
claimed_has (Reached j ∷ cs) k found = let rest = claimed_has cs k found in (rest.0, inr rest.1)
claimed_has (Claim owner j ∷ cs) k found = elim (or_cases (j == k) (list_any (λ other. other == k) (claimed_in cs)) found) [
  | inl here ↦ (owner, inl (ap (Claim owner) (eqb-true j k here)))
  | inr later ↦ let rest = claimed_has cs k later in (rest.0, inr rest.1)
]

-- the image's own clusters were, each for its owner
image_others : (file : List ℕ) → IsSized file → Others (Holds file (listed_in file)) file (claimed_in (image_checks file))
image_others file size held k holds before =
    let claim = claimed_has (image_checks file) k before in
    (Image claim.0, ((image_orderly file size).meant (Claim claim.0 k) claim.1).0, λ same. absurd (cc))

-- ---- what is refused

owner_cause : (file : List ℕ) (fault : ImageFault) → IsCause file fault → IsOwnerCause file fault
owner_cause file (PastLimit offset) is = (is.0, Image is.1, is.2, is.3, is.4)
owner_cause file (Overlap offset) is = (is.0, Image is.1, Image is.2, is.3, is.4, is.5, λ same. is.6 (cc))
owner_cause file (Uncounted offset) is = (is.0, Image is.1, is.2, is.3, is.4)
owner_cause file fault is = is

either_fault : (first : Option ImageFault) (rest : Option LoadFault) (fault : LoadFault)
    → option_or (option_map (λ found. Cluster found) first) rest ≡ Some fault
    → ((found : ImageFault) × (first ≡ Some found) × (fault ≡ Cluster found)) ⊎ (rest ≡ Some fault)
either_fault first rest fault is = grind (arith, common_steps)

pub load_cause : (file : List ℕ) (h : Header) (fault : LoadFault) → Spells parts.Source file h → image_fault file ≡ Some fault → IsLoadCause file fault
unfolding image_fault directory_fault
load_cause file h fault spelled found =
    let checks = directory_checks file (directory_in file) in
    let claimed : List ℕ = claimed_in (image_checks file) in
    elim (either_fault (cluster_fault file) (bitmaps_refused_after file claimed checks) fault found) [
      | inl this ↦ rw this.2 (owner_cause file this.0 (fault_cause parts.Source file this.0 spelled.numbers this.1))
      | inr later ↦
          first_cause (Holds file (listed_in file)) file claimed checks fault (directory_claims file h spelled) (λ held k holds. holds)
          (image_others file (sized parts.Source file spelled.numbers)) (sym (directory_rules file (directory_in file))) later
    ]

-- where the image passes there is no cause
no_owner_cause : (file : List ℕ) (fault : ImageFault) → IsLoadable file → IsOwnerCause file fault → ⊥
no_owner_cause file (PastLimit offset) load is = absurd (omega (arith, is.4, load.counted.below is.1 is.0 is.3))
no_owner_cause file (Overlap offset) load is = is.6 (load.counted.once is.1 is.2 is.0 is.4 is.5)
no_owner_cause file (Uncounted offset) load is = absurd (omega (arith, is.4, load.counted.counted is.1 is.0 is.3))
no_owner_cause file fault load is = no_cause file fault load.passes is

no_load_cause : (file : List ℕ) (fault : LoadFault) → IsLoadable file → IsLoadCause file fault → ⊥
no_load_cause file (Cluster fault) load is = no_owner_cause file fault load is
no_load_cause file (Listed refused) load is = let none = load.directory in absurd (cc)

none_or_cause : (file : List ℕ) (r : Option LoadFault) → IsLoadable file → ((fault : LoadFault) → r ≡ Some fault → IsLoadCause file fault) → r ≡ None
none_or_cause file None load cause = refl
none_or_cause file (Some fault) load cause = absurd (no_load_cause file fault load (cause fault refl))

none_refused : (file : List ℕ) (h : Header) → Spells parts.Source file h → IsLoadable file → image_fault file ≡ None
none_refused file h spelled load = none_or_cause file (image_fault file) load (λ fault is. load_cause file h fault spelled is)

-- ---- what an opening that refuses nothing has found

-- the image's owners and those of its bitmaps together
counted_together : (file : List ℕ) → TablesPass file
    → ((owner : Who) (k : ℕ) → Refers file owner k → list_any (λ other. other == k) (claimed_in (image_checks file)) ≡ true)
    → GoesThrough (Holds file (listed_in file)) file (claimed_in (image_checks file)) (directory_checks file (directory_in file)) → Counted file
counted_together file pass claimed through = record { once = once; below = below; counted = counted }
  where
    new : (owner : Who) (held : Held) (k : ℕ) → Refers file owner k → Holds file (listed_in file) held k → ⊥
    new owner held k refers holds = let before = claimed owner k refers in let after = (through.clear held k holds).is_new in absurd (cc)

    once : (a b : Owner) (k : ℕ) → Owns file a k → Owns file b k → a ≡ b
    once (Image a) (Image b) k this that = ap (λ (w : Who). Image w) (pass.counted.once a b k this that)
    once (Image a) (Bitmaps held) k this that = absurd (new a held k this that)
    once (Bitmaps held) (Image b) k this that = absurd (new b held k that this)
    once (Bitmaps a) (Bitmaps b) k this that = ap (λ (h : Held). Bitmaps h) (through.once a b k this that)

    below : (a : Owner) (k : ℕ) → Owns file a k → k < reach_of file
    below (Image a) k owns = pass.counted.below a k owns
    below (Bitmaps held) k owns = (through.clear held k owns).below

    counted : (a : Owner) (k : ℕ) → Owns file a k → 0 < refcount file k
    counted (Image a) k owns = pass.counted.counted a k owns
    counted (Bitmaps held) k owns = (through.clear held k owns).counted

is_loadable : (file : List ℕ) (h : Header) → Spells parts.Source file h → image_fault file ≡ None → IsLoadable file
unfolding image_fault directory_fault cluster_fault
is_loadable file h spelled none =
    let checks = directory_checks file (directory_in file) in
    let claimed : List ℕ = claimed_in (image_checks file) in
    let both = none_first (cluster_fault file) (λ found. Cluster found) (bitmaps_refused_after file claimed checks) none in
    let pass = tables_pass parts.Source file spelled.numbers both.0 in
    let clean : IsClean file = λ fault has. all_fine file [] (image_checks file) both.0 (Refused fault) has in
    let size : IsSized file = sized parts.Source file spelled.numbers in
    let through = goes_through (Holds file (listed_in file)) file claimed checks (directory_claims file h spelled) both.1 in
    record {
      passes = pass;
      directory = sym (directory_rules file (directory_in file)) ∙ through.rules;
      counted = counted_together file pass (λ owner k refers. has_claimed (image_checks file) owner k (has_claim file owner k size clean refers)) through;
    }

-- an opening refuses nothing exactly where the image passes
pub loading_is_exact : LoadingIsExact
loading_is_exact file h spelled = (is_loadable file h spelled, none_refused file h spelled)

-- what holds a cluster for bitmaps, if anything does
pub holder_of : (file : List ℕ) (h : Header) (k : ℕ) → Spells parts.Source file h → IsLoadable file
    → (o : Option Held) × ((held : Held) → (o ≡ Some held) ↔ Holds file (listed_in file) held k)
unfolding directory_fault
holder_of file h k spelled load =
    holder (Holds file (listed_in file)) (directory_checks file (directory_in file)) k (directory_claims file h spelled)
    (directory_rules file (directory_in file) ∙ load.directory) (λ a b x y. let e = load.counted.once (Bitmaps a) (Bitmaps b) k x y in cc)
