-- Lists of checks: which of them goes through, and which claims stand in it.
use Rattle.std.proofs.lemmas.Grind.{common_steps}
use Rattle.std.proofs.Common.{rules}
use Rattle.std.proofs.Common.{◌≡◌, ◌≢◌, ℕ, ◌+◌, ◌<◌, ◌≤◌, suc, zero, List, [], ◌∷◌, ◌++◌, map, true, false, ◌⊎◌, inl, inr, Option, Some, None, refl, sym, subst, arith}
use Rattle.std.specs.Prelude.{◌==◌, nat_le, flat_map}
use Rattle.std.specs.List.{list_any, range_with_len}
use Rattle.std.proofs.lemmas.Bool.{or_parts, or_cases, leb-true, eqb-true, eq-eqb, ne_eqb, cases_eq, cases_Bool}
use Rattle.std.proofs.lemmas.Option.{same_Some}
use Rattle.std.proofs.lemmas.List.Concat.{flat_map_single}
use Rattle.qc_layout.specs.Disks.{bits_of, place_of, refcount, reach_of}
use Rattle.qc_layout.specs.Owners.{Who, Refers}
use Rattle.qc_layout.specs.declared.faults.ImageFault.{ImageFault}
use Rattle.qc_layout.specs.Opening.{Check, claim_fault, refused_after, each_below, IsCause}
use Rattle.qc_layout.specs.Opening.Check.{Refused, Reached, Claim}
use Rattle.qc_layout.specs.declared.faults.ImageFault.TheVariants.{PastLimit, Overlap, Uncounted}

-- ---- which checks stand in a list

abbrev pub Has : List Check → Check → Type 0
Has [] c = ⊥
Has (d ∷ ds) c = (d ≡ c) ⊎ Has ds c

pub has_left : (xs ys : List Check) (c : Check) → Has xs c → Has (xs ++ ys) c
has_left [] ys c has = absurd has
has_left (d ∷ xs) ys c (inl e) = inl e
has_left (d ∷ xs) ys c (inr has) = inr (has_left xs ys c has)

pub has_right : (xs ys : List Check) (c : Check) → Has ys c → Has (xs ++ ys) c
has_right [] ys c has = has
has_right (d ∷ xs) ys c has = inr (has_right xs ys c has)

pub has_either : (xs ys : List Check) (c : Check) → Has (xs ++ ys) c → Has xs c ⊎ Has ys c
has_either [] ys c has = inr has
has_either (d ∷ xs) ys c (inl e) = inl (inl e)
has_either (d ∷ xs) ys c (inr has) = elim (has_either xs ys c has) [ inl h ↦ inl (inr h) | inr h ↦ inr h ]

-- among those that each number gives
has_from : (f : ℕ → List Check) (a n i : ℕ) (c : Check) → a ≤ i → i < a + n → Has (f i) c → Has (flat_map f (range_with_len a n)) c
has_from f a zero i c low high has = absurd (omega arith)
has_from f a (suc n) i c low high has =
    elim (cases_eq a i) [
      | inl e ↦ has_left (f a) (flat_map f (range_with_len (a + 1) n)) c (subst (λ (k : ℕ). Has (f k) c) (sym e) has)
      | inr other ↦ has_right (f a) (flat_map f (range_with_len (a + 1) n)) c (has_from f (a + 1) n i c (omega arith) (omega arith) has)
    ]

pub has_each : (f : ℕ → List Check) (n i : ℕ) (c : Check) → i < n → Has (f i) c → Has (each_below n f) c
has_each f n i c below has = has_from f 0 n i c (omega arith) (omega arith) has

pub has_mapped : (f : ℕ → Check) (a n i : ℕ) → a ≤ i → i < a + n → Has (map f (range_with_len a n)) (f i)
has_mapped f a n i low high =
    subst (λ (cs : List Check). Has cs (f i)) (flat_map_single f (range_with_len a n)) (has_from (λ k. f k ∷ []) a n i (f i) low high (inl refl))

-- ---- what a list that goes through says of its checks

abbrev pub IsFine : List ℕ → Check → Type 0
IsFine file (Refused fault) = ⊥
IsFine file (Reached k) = k < reach_of file
IsFine file (Claim owner k) = (k < reach_of file) × (0 < refcount file k)

-- no claim was one of these
abbrev IsNew : List ℕ → Check → Type 0
IsNew claimed (Claim owner k) = list_any (λ other. other == k) claimed ≡ false
IsNew claimed c = Unit {0}

-- what has been claimed after it
abbrev claimed_by : Check → List ℕ → List ℕ
claimed_by (Claim owner k) claimed = k ∷ claimed
claimed_by c claimed = claimed

-- the first goes through, and then the rest
record Begins (file claimed : List ℕ) (c : Check) (checks : List Check) : Type 0 where
  pub fine : IsFine file c
  pub is_new : IsNew claimed c
  pub rest : refused_after file (claimed_by c claimed) checks ≡ None

begins : (file claimed : List ℕ) (c : Check) (checks : List Check) → refused_after file claimed (c ∷ checks) ≡ None → Begins file claimed c checks
begins file claimed (Refused fault) checks none = absurd (cc)
begins file claimed (Reached k) checks none = search rules
begins file claimed (Claim owner k) checks none = search rules

pub all_fine : (file claimed : List ℕ) (checks : List Check) → refused_after file claimed checks ≡ None → (c : Check) → Has checks c → IsFine file c
all_fine file claimed [] none c has = absurd has
all_fine file claimed (d ∷ ds) none c (inl e) = subst (IsFine file) e (begins file claimed d ds none).fine
all_fine file claimed (d ∷ ds) none c (inr has) = all_fine file (claimed_by d claimed) ds (begins file claimed d ds none).rest c has

still_new : (claimed : List ℕ) (d c : Check) → IsNew (claimed_by d claimed) c → IsNew claimed c
still_new claimed d c new = grind (arith, common_steps, or_parts)

-- what was claimed before isn't so later
all_new : (file claimed : List ℕ) (checks : List Check) → refused_after file claimed checks ≡ None → (c : Check) → Has checks c → IsNew claimed c
all_new file claimed [] none c has = absurd has
all_new file claimed (d ∷ ds) none c (inl e) = subst (IsNew claimed) e (begins file claimed d ds none).is_new
all_new file claimed (d ∷ ds) none c (inr has) = still_new claimed d c (all_new file (claimed_by d claimed) ds (begins file claimed d ds none).rest c has)

taken : (claimed : List ℕ) (d : Check) (a b : Who) (k : ℕ) → d ≡ Claim a k → IsNew (claimed_by d claimed) (Claim b k) → ⊥
taken claimed d a b k e new = let same : (k == k) ≡ true = eq-eqb k k refl in grind (arith, common_steps, or_parts)

-- a cluster has one claim
pub one_owner : (file claimed : List ℕ) (checks : List Check) → refused_after file claimed checks ≡ None
    → (a b : Who) (k : ℕ) → Has checks (Claim a k) → Has checks (Claim b k) → a ≡ b
one_owner file claimed [] none a b k this that = absurd this
one_owner file claimed (d ∷ ds) none a b k (inl e) (inl f) = cc
one_owner file claimed (d ∷ ds) none a b k (inl e) (inr that) =
    absurd (taken claimed d a b k e (all_new file (claimed_by d claimed) ds (begins file claimed d ds none).rest (Claim b k) that))
one_owner file claimed (d ∷ ds) none a b k (inr this) (inl f) =
    absurd (taken claimed d b a k f (all_new file (claimed_by d claimed) ds (begins file claimed d ds none).rest (Claim a k) this))
one_owner file claimed (d ∷ ds) none a b k (inr this) (inr that) = one_owner file (claimed_by d claimed) ds (begins file claimed d ds none).rest a b k this that

-- ---- what is refused first

-- no claim stands twice
abbrev NoneTwice : List Check → Type 0
NoneTwice [] = Unit {0}
NoneTwice (c ∷ cs) = ((owner : Who) (k : ℕ) → c ≡ Claim owner k → Has cs c → ⊥) × NoneTwice cs

-- which owners, of which clusters
abbrev pub Owners : Type 1
Owners = Who → ℕ → Type 0

abbrev pub Within : Owners → Owners → Type 0
Within Q R = (owner : Who) (k : ℕ) → Q owner k → R owner k

abbrev pub Apart : Owners → Owners → Type 0
Apart Q R = (owner : Who) (k : ℕ) → Q owner k → R owner k → ⊥

-- There is a cause to refuse the entry, and what is reached or claimed is referred to, by one of these owners where it is claimed.
abbrev pub IsMeant : List ℕ → Owners → Check → Type 0
IsMeant file Q (Refused fault) = IsCause file fault
IsMeant file Q (Reached k) = (owner : Who) × Refers file owner k
IsMeant file Q (Claim owner k) = Refers file owner k × Q owner k

pub record IsOrderly (file : List ℕ) (Q : Owners) (checks : List Check) : Type 0 where
  pub meant : (c : Check) → Has checks c → IsMeant file Q c
  pub apart : NoneTwice checks

-- something else refers to the cluster
abbrev HasOther : List ℕ → Who → ℕ → Type 0
HasOther file owner k = (other : Who) × Refers file other k × (other ≢ owner)

-- so it is of each that was claimed before
abbrev Others : List ℕ → List ℕ → List Check → Type 0
Others file claimed checks = (owner : Who) (k : ℕ) → Has checks (Claim owner k) → list_any (λ other. other == k) claimed ≡ true → HasOther file owner k

claim_cause : (file claimed : List ℕ) (owner : Who) (k : ℕ) (fault : ImageFault) → Refers file owner k
    → (list_any (λ other. other == k) claimed ≡ true → HasOther file owner k) → claim_fault file claimed k ≡ Some fault → IsCause file fault
claim_cause file claimed owner k fault is others found = let place : ℕ = place_of (bits_of file) k in elim (cases_Bool (nat_le (reach_of file) k)) [
  | inl past ↦ subst (IsCause file) (same_Some (PastLimit place) fault (rw past at found)) (k, owner, refl, is, leb-true (reach_of file) k past)
  | inr within ↦ elim (cases_Bool (list_any (λ other. other == k) claimed)) [
    | inl before ↦
        let o = others before in
        subst (IsCause file) (same_Some (Overlap place) fault (rw (within, before) at found)) (k, owner, o.0, refl, is, o.1, λ e. o.2 (sym e))
    | inr new ↦ elim (cases_eq (refcount file k) 0) [
      | inl none ↦
          let same = same_Some (Uncounted place) fault (rw (within, new, eq-eqb (refcount file k) 0 none) at found) in
          subst (IsCause file) same (k, owner, refl, is, none)
      | inr some ↦ let no : None ≡ Some fault = rw (within, new, ne_eqb (refcount file k) 0 some) at found in absurd (cc)
    ]
  ]
]

others_on : (file claimed : List ℕ) (Q : Owners) (c : Check) (cs : List Check) → IsOrderly file Q (c ∷ cs) → Others file claimed (c ∷ cs)
    → Others file (claimed_by c claimed) cs
others_on file claimed Q (Refused fault) cs are others = λ owner k has before. others owner k (inr has) before
others_on file claimed Q (Reached j) cs are others = λ owner k has before. others owner k (inr has) before
others_on file claimed Q (Claim a j) cs are others = λ owner k has before. elim (or_cases (j == k) (list_any (λ other. other == k) claimed) before) [
  | inl here ↦
      let same : j ≡ k = eqb-true j k here in
      (a, subst (Refers file a) same (are.meant (Claim a j) (inl refl)).0, λ is. are.apart.0 a j refl (rw (is, same) has))
  | inr old ↦ others owner k (inr has) old
]

rest_orderly : (file : List ℕ) (Q : Owners) (c : Check) (cs : List Check) → IsOrderly file Q (c ∷ cs) → IsOrderly file Q cs
rest_orderly file Q c cs are = record { meant = λ d has. are.meant d (inr has); apart = are.apart.1 }

either_fault : (first rest : Option ImageFault) (fault : ImageFault) → elim first [ Some found ↦ Some found | None ↦ rest ] ≡ Some fault
    → (first ≡ Some fault) ⊎ (rest ≡ Some fault)
either_fault (Some found) rest fault is = inl is
either_fault None rest fault is = inr is

pub first_cause : (file claimed : List ℕ) (Q : Owners) (checks : List Check) (fault : ImageFault) → IsOrderly file Q checks
    → Others file claimed checks → refused_after file claimed checks ≡ Some fault → IsCause file fault
first_cause file claimed Q [] fault are others found = absurd (cc)
first_cause file claimed Q (Refused this ∷ cs) fault are others found =
    subst (IsCause file) (same_Some this fault found) (are.meant (Refused this) (inl refl))
first_cause file claimed Q (Reached k ∷ cs) fault are others found = elim (cases_Bool (nat_le (reach_of file) k)) [
  | inl past ↦
      let m = are.meant (Reached k) (inl refl) in
      subst (IsCause file) (same_Some (PastLimit (place_of (bits_of file) k)) fault (rw past at found)) (k, m.0, refl, m.1, leb-true (reach_of file) k past)
  | inr within ↦
      let rest = rest_orderly file Q (Reached k) cs are in
      first_cause file claimed Q cs fault rest (others_on file claimed Q (Reached k) cs are others) (rw within at found)
]
first_cause file claimed Q (Claim owner k ∷ cs) fault are others found =
    elim (either_fault (claim_fault file claimed k) (refused_after file (k ∷ claimed) cs) fault found) [
      | inl this ↦ claim_cause file claimed owner k fault (are.meant (Claim owner k) (inl refl)).0 (others owner k (inl refl)) this
      | inr later ↦
          let rest = rest_orderly file Q (Claim owner k) cs are in
          first_cause file (k ∷ claimed) Q cs fault rest (others_on file claimed Q (Claim owner k) cs are others) later
    ]

-- ---- lists one behind another

none_twice : (xs ys : List Check) → NoneTwice xs → NoneTwice ys
    → ((owner : Who) (k : ℕ) → Has xs (Claim owner k) → Has ys (Claim owner k) → ⊥) → NoneTwice (xs ++ ys)
none_twice [] ys one other apart = other
none_twice (x ∷ xs) ys one other apart = (
  λ owner k e has. elim (has_either xs ys x has) [
    | inl this ↦ one.0 owner k e this
    | inr that ↦ apart owner k (inl e) (subst (Has ys) e that)
  ],
  none_twice xs ys one.1 other (λ owner k this that. apart owner k (inr this) that),
)

weaker : (file : List ℕ) (Q R : Owners) → Within Q R → (c : Check) → IsMeant file Q c → IsMeant file R c
weaker file Q R so (Refused fault) is = is
weaker file Q R so (Reached k) is = is
weaker file Q R so (Claim owner k) is = (is.0, so owner k is.1)

pub orderly_none : {file : List ℕ} {Q : Owners} → IsOrderly file Q []
orderly_none = record { meant = λ c has. absurd has; apart = tt }

pub orderly_one : {file : List ℕ} {Q : Owners} {c : Check} → IsMeant file Q c → IsOrderly file Q (c ∷ [])
orderly_one {file} {Q} is = record {
  meant = λ d has. elim has [ inl e ↦ subst (IsMeant file Q) e is | inr later ↦ absurd later ];
  apart = (λ owner k e has. absurd has, tt);
}

-- with claims of others
pub orderly_append : {file : List ℕ} {Q R S : Owners} {xs ys : List Check} → IsOrderly file Q xs → IsOrderly file R ys
    → Within Q S → Within R S → Apart Q R → IsOrderly file S (xs ++ ys)
orderly_append {file} {Q} {R} {S} {xs} {ys} one other left right apart = record {
  meant = λ c has. elim (has_either xs ys c has) [
    | inl this ↦ weaker file Q S left c (one.meant c this)
    | inr that ↦ weaker file R S right c (other.meant c that)
  ];
  apart = none_twice xs ys one.apart other.apart (λ owner k this that. apart owner k (one.meant (Claim owner k) this).1 (other.meant (Claim owner k) that).1);
}

-- one for each number, which a key of its claims tells
orderly_from : (file : List ℕ) (R : Owners) (key : Who → ℕ → ℕ) (f : ℕ → List Check) (a n : ℕ)
    → ((i : ℕ) → a ≤ i → i < a + n → IsOrderly file (λ owner k. R owner k × (key owner k ≡ i)) (f i))
    → IsOrderly file (λ owner k. R owner k × (a ≤ key owner k)) (flat_map f (range_with_len a n))
orderly_from file R key f a zero each = orderly_none
orderly_from file R key f a (suc n) each =
    orderly_append (each a (omega arith) (omega arith)) (orderly_from file R key f (a + 1) n (λ i low high. each i (omega arith) (omega arith)))
    (λ owner k is. (is.0, omega (arith, is.1))) (λ owner k is. (is.0, omega (arith, is.1))) (λ owner k this that. absurd (omega (arith, this.1, that.1)))

orderly_as : {file : List ℕ} {Q R : Owners} {checks : List Check} → IsOrderly file Q checks → Within Q R → IsOrderly file R checks
orderly_as {file} {Q} {R} are so = record { meant = λ c has. weaker file Q R so c (are.meant c has); apart = are.apart }

pub orderly_each : (file : List ℕ) (R : Owners) (key : Who → ℕ → ℕ) (f : ℕ → List Check) (n : ℕ)
    → ((i : ℕ) → i < n → IsOrderly file (λ owner k. R owner k × (key owner k ≡ i)) (f i)) → IsOrderly file R (each_below n f)
orderly_each file R key f n each = orderly_as (orderly_from file R key f 0 n (λ i low high. each i (omega arith))) (λ owner k is. is.0)

-- and for each cluster of a range
pub orderly_range : (file : List ℕ) (check : ℕ → Check) (R : Owners) (from n : ℕ)
    → ((k : ℕ) → from ≤ k → k < from + n → IsMeant file (λ owner j. R owner j × (j ≡ k)) (check k)) → IsOrderly file R (map check (range_with_len from n))
orderly_range file check R from n each =
    subst (IsOrderly file R) (flat_map_single check (range_with_len from n))
    (orderly_as (orderly_from file R (λ owner k. k) (λ k. check k ∷ []) from n (λ k low high. orderly_one (each k low high))) (λ owner k is. is.0))
