-- The steps of an opening over a directory: which clusters they claim and for what, and what they refuse first.
use Rattle.std.proofs.lemmas.Grind.{common_steps}
use Rattle.std.proofs.Common.{rules, ◌≡◌, ◌≢◌, ℕ, zero, suc, ◌+◌, ◌<◌, ◌≤◌, ◌↔◌, List, [], ◌∷◌, ◌++◌, map, true, false, ◌⊎◌, inl, inr, Option, Some, None, refl, sym, ap, subst, arith}
use Rattle.std.specs.Prelude.{◌==◌, bytes_eq}
use Rattle.std.specs.List.{list_any, range_with_len}
use Rattle.std.specs.Option.{option_or}
use Rattle.std.proofs.lemmas.Option.{same_Some}
use Rattle.std.proofs.lemmas.Bool.{or_parts, or_cases, eqb-true, eq-eqb, cases_eq, cases_Bool}
use Rattle.bitmap_model.proofs.Lists.{same_bytes, same_bytes-itself}
use Rattle.qc_layout.specs.Disks.{bits_of, place_of, refcount, reach_of}
use Rattle.qc_layout.specs.Directory.{RefusedEntry, directory_fault}
use Rattle.qc_layout.specs.Owners.{Held, Directory, BitsTable, Bits, Spans, Owner, Bitmaps, Owns}
use Rattle.qc_layout.specs.declared.faults.ImageFault.{ImageFault}
use Rattle.qc_layout.specs.declared.faults.ImageFault.TheVariants.{PastLimit, Overlap, Uncounted}
use Rattle.qc_layout.specs.Opening.{claim_fault}
use Rattle.qc_layout.specs.Loading.{LoadFault, Cluster, Listed, BitmapCheck, Rule, Hold, bitmaps_refused_after}
use Rattle.qc_layout.specs.Laws.{IsOwnerCause, IsLoadCause}

-- ---- which claims a list makes

-- what is held, in which clusters
abbrev pub Holders : Type 1
Holders = Held → ℕ → Type 0

abbrev Without : Holders → Held → ℕ → Holders
Without Q held k other j = Q other j × (other ≡ held → j ≡ k → ⊥)

-- As far as its rules pass, the list claims a cluster once for each of these, and no other.
abbrev pub Claims : Holders → List BitmapCheck → Type 0
Claims Q [] = (held : Held) (k : ℕ) → Q held k → ⊥
Claims Q (Rule refused ∷ cs) = refused ≡ None → Claims Q cs
Claims Q (Hold held k ∷ cs) = Q held k × Claims (Without Q held k) cs

pub record Same (Q R : Holders) : Type 0 where
  pub to : (held : Held) (k : ℕ) → Q held k → R held k
  pub back : (held : Held) (k : ℕ) → R held k → Q held k

pub claims_same : (Q R : Holders) (cs : List BitmapCheck) → Same Q R → Claims Q cs → Claims R cs
claims_same Q R [] same claims = λ held k is. claims held k (same.back held k is)
claims_same Q R (Rule refused ∷ cs) same claims = λ passed. claims_same Q R cs same (claims passed)
claims_same Q R (Hold held k ∷ cs) same claims = (
  same.to held k claims.0,
  claims_same _ _ cs (record { to = λ other j is. (same.to other j is.0, is.1); back = λ other j is. (same.back other j is.0, is.1) }) claims.1,
)

-- two that have nothing in common, and both together
pub record Parts (Q R S : Holders) : Type 0 where
  pub left : (held : Held) (k : ℕ) → Q held k → S held k
  pub right : (held : Held) (k : ℕ) → R held k → S held k
  pub either : (held : Held) (k : ℕ) → S held k → Q held k ⊎ R held k
  pub apart : (held : Held) (k : ℕ) → Q held k → R held k → ⊥

pub claims_append : (Q R S : Holders) (xs ys : List BitmapCheck) → Parts Q R S → Claims Q xs → Claims R ys → Claims S (xs ++ ys)
claims_append Q R S [] ys parts one other =
    let back : (held : Held) (k : ℕ) → S held k → R held k =
    λ held k is. elim (parts.either held k is) [ inl this ↦ absurd (one held k this) | inr that ↦ that ] in
    claims_same R S ys (record { to = parts.right; back = back }) other
claims_append Q R S (Rule refused ∷ xs) ys parts one other = λ passed. claims_append Q R S xs ys parts (one passed) other
claims_append Q R S (Hold held k ∷ xs) ys parts one other = (
  parts.left held k one.0,
  claims_append (Without Q held k) R (Without S held k) xs ys
      (record {
        left = λ a j is. (parts.left a j is.0, is.1);
        right = λ a j is. (parts.right a j is, λ same here. parts.apart held k one.0 (rw (← same, ← here) is));
        either = λ a j is. elim (parts.either a j is.0) [ inl this ↦ inl (this, is.1) | inr that ↦ inr that ];
        apart = λ a j this that. parts.apart a j this.0 that;
      }) one.1 other,
)

-- a range of clusters, all held alike
abbrev pub InRange : Held → ℕ → ℕ → Holders
InRange held from n other k = (other ≡ held) × (from ≤ k) × (k < from + n)

pub claims_range : (held : Held) (from n : ℕ) → Claims (InRange held from n) (map (Hold held) (range_with_len from n))
claims_range held from zero = λ other k is. absurd (omega (arith, is.1, is.2))
claims_range held from (suc n) = (
  (refl, omega arith, omega arith),
  claims_same (InRange held (from + 1) n) (Without (InRange held from (suc n)) held from) (map (Hold held) (range_with_len (from + 1) n))
      (record {
        to = λ other k is. ((is.0, omega (arith, is.1), omega (arith, is.2)), λ same here. omega (arith, is.1));
        back = λ other k is. let later : k ≢ from = is.1 is.0.0 in (is.0.0, omega (arith, is.0.1), omega (arith, is.0.2));
      })
      (claims_range held (from + 1) n),
)

-- ---- the rules of a list

-- what the first rule that fails refuses
abbrev pub first_rule : List BitmapCheck → Option RefusedEntry
first_rule [] = None
first_rule (Rule refused ∷ cs) = option_or refused (first_rule cs)
first_rule (Hold held k ∷ cs) = first_rule cs

pub rules_append : (xs ys : List BitmapCheck) → first_rule (xs ++ ys) ≡ option_or (first_rule xs) (first_rule ys)
rules_append [] ys = refl
rules_append (x ∷ xs) ys = grind (arith, common_steps, rules_append xs ys)

pub rules_held : (held : Held) (ks : List ℕ) → first_rule (map (Hold held) ks) ≡ None
rules_held held [] = refl
rules_held held (k ∷ ks) = rules_held held ks

-- where its rules pass, what holds a cluster is found among its claims
pub holder : (Q : Holders) (cs : List BitmapCheck) (k : ℕ) → Claims Q cs → first_rule cs ≡ None → ((a b : Held) → Q a k → Q b k → a ≡ b)
    → (o : Option Held) × ((held : Held) → (o ≡ Some held) ↔ Q held k)
holder Q [] k claims none one = (None, λ held. (λ e. absurd (cc), λ is. absurd (claims held k is)))
holder Q (Rule (Some refused) ∷ cs) k claims none one = absurd (cc)
holder Q (Rule None ∷ cs) k claims none one = holder Q cs k (claims refl) none one
holder Q (Hold held j ∷ cs) k claims none one = elim (cases_eq j k) [
  | inl here ↦
      let this : Q held k = subst (Q held) here claims.0 in
      (Some held, λ other. (λ e. subst (λ (a : Held). Q a k) (same_Some held other e) this, λ is. ap (λ (a : Held). Some a) (one held other this is)))
  | inr differ ↦
      let rest = holder (Without Q held j) cs k claims.1 none (λ a b x y. one a b x.0 y.0) in
      (rest.0, λ other. (λ e. ((rest.1 other).0 e).0, λ is. (rest.1 other).1 (is, λ same there. differ (sym there))))
]

-- ---- a list that goes through

-- what a claim that goes through says
pub record IsClear (file claimed : List ℕ) (k : ℕ) : Type 0 where
  pub below : k < reach_of file
  pub is_new : list_any (λ other. other == k) claimed ≡ false
  pub counted : 0 < refcount file k

clear_before : (file claimed : List ℕ) (j k : ℕ) → IsClear file (j ∷ claimed) k → IsClear file claimed k
clear_before file claimed j k is = grind (arith, common_steps, or_parts)

clear_later : (file claimed : List ℕ) (k : ℕ) → IsClear file (k ∷ claimed) k → ⊥
clear_later file claimed k is = grind (arith, common_steps, or_parts, eq-eqb)

same_name : (x y : List ℕ) → (x ≡ y) ⊎ (x ≢ y)
same_name x y = grind (arith, common_steps, cases_Bool (bytes_eq x y), same_bytes, same_bytes-itself x)

same_held : (a b : Held) → (a ≡ b) ⊎ (a ≢ b)
same_held Directory Directory = inl refl
same_held Spans Spans = inl refl
same_held (BitsTable x) (BitsTable y) = grind (arith, common_steps, same_name x y)
same_held (Bits x i) (Bits y j) = grind (arith, common_steps, same_name x y, cases_eq i j)
same_held a b = inr (λ e. absurd (cc))

-- this one, or another
which : (Q : Holders) (held other : Held) (k j : ℕ) → Q other j → ((other ≡ held) × (j ≡ k)) ⊎ Without Q held k other j
which Q held other k j is = grind (arith, common_steps, same_held other held, cases_eq j k)

-- its rules pass, and each cluster is claimed for one
pub record GoesThrough (Q : Holders) (file claimed : List ℕ) (cs : List BitmapCheck) : Type 0 where
  pub rules : first_rule cs ≡ None
  pub clear : (held : Held) (k : ℕ) → Q held k → IsClear file claimed k
  pub once : (a b : Held) (k : ℕ) → Q a k → Q b k → a ≡ b

first_passes : (file claimed : List ℕ) (refused : Option RefusedEntry) (cs : List BitmapCheck) → bitmaps_refused_after file claimed (Rule refused ∷ cs) ≡ None
    → (refused ≡ None) × (bitmaps_refused_after file claimed cs ≡ None)
first_passes file claimed refused cs none = search rules

first_claims : (file claimed : List ℕ) (held : Held) (k : ℕ) (cs : List BitmapCheck) → bitmaps_refused_after file claimed (Hold held k ∷ cs) ≡ None
    → (claim_fault file claimed k ≡ None) × (bitmaps_refused_after file (k ∷ claimed) cs ≡ None)
first_claims file claimed held k cs none = search rules

pub goes_through : (Q : Holders) (file claimed : List ℕ) (cs : List BitmapCheck) → Claims Q cs → bitmaps_refused_after file claimed cs ≡ None
    → GoesThrough Q file claimed cs
goes_through Q file claimed [] claims none =
    record { rules = refl; clear = λ held k is. absurd (claims held k is); once = λ a b k this that. absurd (claims a k this) }
goes_through Q file claimed (Rule refused ∷ cs) claims none =
    let first = first_passes file claimed refused cs none in
    let rest = goes_through Q file claimed cs (claims first.0) first.1 in
    record { rules = cc (first.0, rest.rules); clear = rest.clear; once = rest.once }
goes_through Q file claimed (Hold held k ∷ cs) claims none =
    let first = first_claims file claimed held k cs none in
    let rest = goes_through (Without Q held k) file (k ∷ claimed) cs claims.1 first.1 in
    let free : IsClear file claimed k = search rules in
    let alone : (other : Held) → Without Q held k other k → ⊥ = λ other is. clear_later file claimed k (rest.clear other k is) in
    record {
      rules = rest.rules;
      clear = λ other j is. grind (arith, common_steps, which Q held other k j is, clear_before file claimed k j, rest.clear other j);
      once = λ a b j this that. grind (arith, common_steps, which Q held a k j this, which Q held b k j that, alone a, alone b, rest.once a b j);
    }

-- ---- what is refused first

-- something else owns the cluster
abbrev HasOther : List ℕ → Owner → ℕ → Type 0
HasOther file owner k = (other : Owner) × Owns file other k × (other ≢ owner)

-- so it is of each that was claimed before
abbrev pub Others : Holders → List ℕ → List ℕ → Type 0
Others Q file claimed = (held : Held) (k : ℕ) → Q held k → list_any (λ other. other == k) claimed ≡ true → HasOther file (Bitmaps held) k

-- what a claim that is refused is refused for
data IsRefusal (file claimed : List ℕ) (k : ℕ) (fault : ImageFault) : Type 0 where
  Past : fault ≡ PastLimit (place_of (bits_of file) k) → reach_of file ≤ k → IsRefusal file claimed k fault
  Again : fault ≡ Overlap (place_of (bits_of file) k) → list_any (λ other. other == k) claimed ≡ true → IsRefusal file claimed k fault
  Free : fault ≡ Uncounted (place_of (bits_of file) k) → refcount file k ≡ 0 → IsRefusal file claimed k fault

refusal : (file claimed : List ℕ) (k : ℕ) (fault : ImageFault) → claim_fault file claimed k ≡ Some fault → IsRefusal file claimed k fault
refusal file claimed k fault found = search (rules, Past, Again, Free)

refusal_cause : (file claimed : List ℕ) (owner : Owner) (k : ℕ) (fault : ImageFault) → Owns file owner k
    → (list_any (λ other. other == k) claimed ≡ true → HasOther file owner k) → IsRefusal file claimed k fault → IsOwnerCause file fault
refusal_cause file claimed owner k fault owns others (Past is past) = rw is (k, owner, refl, owns, past)
refusal_cause file claimed owner k fault owns others (Again is before) =
    let other = others before in
    rw is (k, owner, other.0, refl, owns, other.1, λ same. other.2 (sym same))
refusal_cause file claimed owner k fault owns others (Free is free) = rw is (k, owner, refl, owns, free)

others_on : (Q : Holders) (file claimed : List ℕ) (held : Held) (k : ℕ) → Owns file (Bitmaps held) k → Others Q file claimed
    → Others (Without Q held k) file (k ∷ claimed)
others_on Q file claimed held k owns others = λ other j is before. elim (or_cases (k == j) (list_any (λ c. c == j) claimed) before) [
  | inl here ↦
      let same : k ≡ j = eqb-true k j here in
      (Bitmaps held, rw (← same) owns, λ e. is.1 (cc) (sym same))
  | inr old ↦ others other j is.0 old
]

either_fault : (first : Option ImageFault) (rest : Option LoadFault) (fault : LoadFault)
    → elim first [ Some found ↦ Some (Cluster found) | None ↦ rest ] ≡ Some fault
    → ((found : ImageFault) × (first ≡ Some found) × (fault ≡ Cluster found)) ⊎ (rest ≡ Some fault)
either_fault first rest fault is = grind (arith, common_steps)

pub first_cause : (Q : Holders) (file claimed : List ℕ) (cs : List BitmapCheck) (fault : LoadFault) → Claims Q cs
    → ((held : Held) (k : ℕ) → Q held k → Owns file (Bitmaps held) k) → Others Q file claimed
    → directory_fault file ≡ first_rule cs → bitmaps_refused_after file claimed cs ≡ Some fault → IsLoadCause file fault
first_cause Q file claimed [] fault claims own others first found = absurd (cc)
first_cause Q file claimed (Rule (Some refused) ∷ cs) fault claims own others first found =
    subst (IsLoadCause file) (same_Some (Listed refused) fault found) first
first_cause Q file claimed (Rule None ∷ cs) fault claims own others first found = first_cause Q file claimed cs fault (claims refl) own others first found
first_cause Q file claimed (Hold held k ∷ cs) fault claims own others first found =
    let owns = own held k claims.0 in
    elim (either_fault (claim_fault file claimed k) (bitmaps_refused_after file (k ∷ claimed) cs) fault found) [
      | inl this ↦
          rw this.2 (refusal_cause file claimed (Bitmaps held) k this.0 owns (others held k claims.0) (refusal file claimed k this.0 this.1))
      | inr later ↦
          first_cause (Without Q held k) file (k ∷ claimed) cs fault claims.1 (λ other j is. own other j is.0)
          (others_on Q file claimed held k owns others) first later
    ]
