-- What an opening claims is just what something refers to.
use Rattle.std.proofs.lemmas.Grind.{common_steps}
use Rattle.std.proofs.Common.{◌≡◌, ℕ, ◌↔◌, List, [], ◌∷◌, ◌++◌, length, true, inl, inr, Some, None, refl, sym, ◌∙◌, subst, arith}
use Rattle.std.specs.Prelude.{◌==◌, ◌||◌}
use Rattle.std.specs.List.{list_any}
use Rattle.std.proofs.lemmas.Bool.{or_left, or_right, or_cases, eqb-true, eq-eqb, cases_eq}
use Rattle.std.proofs.lemmas.List.Folds.{list_any-append}
use Rattle.qc_layout.specs.declared.header.Header.{Header}
use Rattle.qc_layout.specs.declared.header.Part.{Part}
use Rattle.qc_layout.specs.declared.header.Part.TheVariants as parts
use Rattle.qc_layout.specs.Header.{fields_of, number_fault}
use Rattle.qc_layout.specs.Spelling.{Spells}
use Rattle.qc_layout.specs.Directory.{directory_in, directory_fault, listed_in}
use Rattle.qc_layout.specs.Owners.{Who, Refers, Held, Holds, Owner, Image, Bitmaps, Owns}
use Rattle.qc_layout.specs.Opening.{image_checks, cluster_fault}
use Rattle.qc_layout.specs.Opening.Check.{Refused, Claim}
use Rattle.qc_layout.specs.Room.{TablesPass}
use Rattle.qc_layout.specs.Loading.{BitmapCheck, Rule, Hold, directory_checks, claimed_in, held_in}
use Rattle.qc_layout.specs.Laws.{IsLoadable}
use Rattle.qc_layout.proofs.Checking.{all_fine}
use Rattle.qc_layout.proofs.Claims.{sized, has_claim}
use Rattle.qc_layout.proofs.Orderly.{image_orderly}
use Rattle.qc_layout.proofs.Opening.{none_refused}
use Rattle.qc_layout.proofs.Holding.{Holders, Claims, first_rule}
use Rattle.qc_layout.proofs.DirectoryChecks.{directory_rules}
use Rattle.qc_layout.proofs.Loading.{directory_claims, has_claimed, claimed_has}

-- a number is one of these
abbrev pub IsIn : List ℕ → ℕ → Type 0
IsIn ks k = list_any (λ other. other == k) ks ≡ true

-- ---- where the rules of a list of holds pass

held_back : (Q : Holders) (cs : List BitmapCheck) (k : ℕ) → Claims Q cs → first_rule cs ≡ None → IsIn (held_in cs) k → (held : Held) × Q held k
held_back Q [] k claims none found = absurd (cc)
held_back Q (Rule (Some refused) ∷ cs) k claims none found = absurd (cc)
held_back Q (Rule None ∷ cs) k claims none found = held_back Q cs k (claims refl) none found
held_back Q (Hold held j ∷ cs) k claims none found = elim (or_cases (j == k) (list_any (λ other. other == k) (held_in cs)) found) [
  | inl here ↦ (held, subst (Q held) (eqb-true j k here) claims.0)
  | inr later ↦ let rest = held_back _ cs k claims.1 none later in (rest.0, rest.1.0)
]

held_found : (Q : Holders) (cs : List BitmapCheck) (held : Held) (k : ℕ) → Claims Q cs → first_rule cs ≡ None → Q held k → IsIn (held_in cs) k
held_found Q [] held k claims none is = absurd (claims held k is)
held_found Q (Rule (Some refused) ∷ cs) held k claims none is = absurd (cc)
held_found Q (Rule None ∷ cs) held k claims none is = held_found Q cs held k (claims refl) none is
held_found Q (Hold other j ∷ cs) held k claims none is = elim (cases_eq j k) [
  | inl here ↦ grind (arith, common_steps, eq-eqb)
  | inr differ ↦ let rest = held_found _ cs held k claims.1 none (is, λ same there. differ (sym there)) in grind (arith, common_steps)
]

-- ---- the laws

pub image_claims : (part : Part) (file : List ℕ) (k : ℕ) → number_fault part (length file) (fields_of file) ≡ None → TablesPass file
    → IsIn (claimed_in (image_checks file)) k ↔ ((who : Who) × Refers file who k)
unfolding cluster_fault
image_claims part file k numbers pass =
    let size = sized part file numbers in
    let none = none_refused part file numbers pass in (
      λ found. let claim = claimed_has (image_checks file) k found in (claim.0, ((image_orderly file size).meant (Claim claim.0 k) claim.1).0),
      λ r. has_claimed (image_checks file) r.0 k (has_claim file r.0 k size (λ fault has. all_fine file [] (image_checks file) none (Refused fault) has) r.1),
    )

module _ (file : List ℕ) (h : Header) (spelled : Spells parts.Source file h) (load : IsLoadable file) where
  abbrev claimed : List ℕ
  claimed = claimed_in (image_checks file)

  abbrev held : List ℕ
  held = held_in (directory_checks file (directory_in file))

  either : (k : ℕ) → (list_any (λ other. other == k) (claimed ++ held)) ≡ (list_any (λ other. other == k) claimed || list_any (λ other. other == k) held)
  either k = list_any-append (λ (other : ℕ). other == k) claimed held

  rules : first_rule (directory_checks file (directory_in file)) ≡ None
  unfolding directory_fault
  rules = directory_rules file (directory_in file) ∙ load.directory

  pub source_back : (k : ℕ) → IsIn (claimed ++ held) k → (owner : Owner) × Owns file owner k
  source_back k found = elim (or_cases _ _ (sym (either k) ∙ found)) [
    | inl is ↦ let r = (image_claims parts.Source file k spelled.numbers load.passes).0 is in (Image r.0, r.1)
    | inr is ↦ let r = held_back (Holds file (listed_in file)) (directory_checks file (directory_in file)) k (directory_claims file h spelled) rules is in (Bitmaps r.0, r.1)
  ]

  pub source_found : (owner : Owner) (k : ℕ) → Owns file owner k → IsIn (claimed ++ held) k
  source_found (Image who) k refers = either k ∙ or_left _ _ ((image_claims parts.Source file k spelled.numbers load.passes).1 (who, refers))
  source_found (Bitmaps other) k holds = either k ∙ or_right _ _ (held_found (Holds file (listed_in file)) (directory_checks file (directory_in file)) other k (directory_claims file h spelled) rules holds)
