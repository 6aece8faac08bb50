-- Lists of checks that an opening goes through, one behind another.
use Rattle.std.proofs.Common.{◌≡◌, ◌≢◌, ℕ, ◌+◌, ◌-◌, ◌<◌, ◌≤◌, suc, zero, List, [], ◌∷◌, ◌++◌, map, Bool, true, false, Option, Some, None, refl, sym, ap, subst, ◌∙◌, arith, max}
use Rattle.std.specs.Prelude.{◌==◌, ◌||◌, if◌then◌else◌, nat_le, flat_map}
use Rattle.std.specs.List.{list_any, range_with_len}
use Rattle.std.proofs.lemmas.Grind.{flat_map-append}
use Rattle.std.proofs.Math.Bool.{or-false}
use Rattle.std.proofs.lemmas.List.{append_assoc, append-nil, map-append}
use Rattle.std.proofs.lemmas.Bool.{lt-leb, le-leb}
use Rattle.qc_layout.specs.Disks.{bits_of, place_of, reach_of, refcount}
use Rattle.qc_layout.specs.declared.faults.ImageFault.{ImageFault}
use Rattle.qc_layout.specs.declared.faults.ImageFault.TheVariants.{PastLimit, Overlap, Uncounted}
use Rattle.qc_layout.specs.Loading.{claimed_in}
use Rattle.qc_layout.specs.Opening.{Check, claim_fault, refused_after, each_below}
use Rattle.qc_layout.specs.Opening.Check.{Refused, Reached, Claim}
use Rattle.qc_layout.specs.Owners.{Who}
use Rattle.qc_alloc.specs.Tables.{claimed_after, Passes, Stops}

-- ---- one list behind another

pub claimed_after-append : (claimed : List ℕ) (xs ys : List Check) → claimed_after claimed (xs ++ ys) ≡ claimed_after (claimed_after claimed xs) ys
claimed_after-append claimed [] ys = refl
claimed_after-append claimed (Refused fault ∷ xs) ys = claimed_after-append claimed xs ys
claimed_after-append claimed (Reached k ∷ xs) ys = claimed_after-append claimed xs ys
claimed_after-append claimed (Claim owner k ∷ xs) ys = claimed_after-append (k ∷ claimed) xs ys

pub passes_none : (file claimed : List ℕ) → Passes file claimed []
passes_none file claimed = record { on = λ rest. refl }

pub passes_on : (file claimed : List ℕ) (xs ys : List Check) → Passes file claimed xs → Passes file (claimed_after claimed xs) ys → Passes file claimed (xs ++ ys)
passes_on file claimed xs ys one other = record {
  on = λ rest.
      ap (λ (cs : List Check). refused_after file claimed cs) (append_assoc xs ys rest)
      ∙ (one.on (ys ++ rest) ∙ (other.on rest ∙ ap (λ (after : List ℕ). refused_after file after rest) (sym (claimed_after-append claimed xs ys))));
}

pub stops_on : (file claimed : List ℕ) (xs ys : List Check) (fault : Option ImageFault) → Passes file claimed xs → Stops file (claimed_after claimed xs) ys fault → Stops file claimed (xs ++ ys) fault
stops_on file claimed xs ys fault one other = record {
  on = λ rest. ap (λ (cs : List Check). refused_after file claimed cs) (append_assoc xs ys rest) ∙ (one.on (ys ++ rest) ∙ other.on rest);
}

pub stops_more : (file claimed : List ℕ) (xs ys : List Check) (fault : Option ImageFault) → Stops file claimed xs fault → Stops file claimed (xs ++ ys) fault
stops_more file claimed xs ys fault stops = record {
  on = λ rest. ap (λ (cs : List Check). refused_after file claimed cs) (append_assoc xs ys rest) ∙ stops.on (ys ++ rest);
}

-- the same list, by another name
pub passes_as : (file claimed : List ℕ) (xs ys : List Check) → xs ≡ ys → Passes file claimed xs → Passes file claimed ys
passes_as file claimed xs ys e is = subst (Passes file claimed) e is

pub stops_as : (file claimed : List ℕ) (xs ys : List Check) (fault : Option ImageFault) → xs ≡ ys → Stops file claimed xs fault → Stops file claimed ys fault
stops_as file claimed xs ys fault e is = let P : List Check → Type 0 = λ cs. Stops file claimed cs fault in subst P e is

-- what a whole list comes to
pub stops_all : (file claimed : List ℕ) (xs : List Check) (fault : Option ImageFault) → Stops file claimed xs fault → refused_after file claimed xs ≡ fault
stops_all file claimed xs fault stops = ap (λ (cs : List Check). refused_after file claimed cs) (sym (append-nil xs)) ∙ stops.on []

-- ---- numbers in a row

pub range-append : (a m n : ℕ) → range_with_len a (m + n) ≡ range_with_len a m ++ range_with_len (a + m) n
range-append a zero n = let e : zero + n ≡ n = omega arith in let f : a + zero ≡ a = omega arith in rw (e, f) refl
range-append a (suc m) n =
    let e : suc m + n ≡ suc (m + n) = omega arith in
    let f : a + suc m ≡ (a + 1) + m = omega arith in
    rw (e, f) (ap (λ (ks : List ℕ). a ∷ ks) (range-append (a + 1) m n))

-- the first of them, and the one behind
pub range_at : (a n i : ℕ) → i < n → range_with_len a n ≡ (range_with_len a i ++ (a + i) ∷ []) ++ range_with_len (a + i + 1) (n - (i + 1))
range_at a n i below =
    let e : n ≡ (i + 1) + (n - (i + 1)) = omega arith in
    let f : a + (i + 1) ≡ a + i + 1 = omega arith in
    let g : range_with_len a ((i + 1) + (n - (i + 1))) ≡ range_with_len a (i + 1) ++ range_with_len (a + (i + 1)) (n - (i + 1)) = range-append a (i + 1) (n - (i + 1)) in
    let h : range_with_len a (i + 1) ≡ range_with_len a i ++ (a + i) ∷ [] = range-append a i 1 in
    ap (λ (m : ℕ). range_with_len a m) e ∙ (g ∙ (ap (λ (ks : List ℕ). ks ++ range_with_len (a + (i + 1)) (n - (i + 1))) h
    ∙ ap (λ (b : ℕ). (range_with_len a i ++ (a + i) ∷ []) ++ range_with_len b (n - (i + 1))) f))

pub each_more : (f : ℕ → List Check) (n : ℕ) → each_below (n + 1) f ≡ each_below n f ++ f n
each_more f n =
    let e : flat_map f (n ∷ []) ≡ f n = append-nil (f n) in
    ap (λ (ks : List ℕ). flat_map f ks) (range-append 0 n 1) ∙ (flat_map-append f (range_with_len 0 n) (range_with_len (0 + n) 1)
    ∙ (ap (λ (k : ℕ). flat_map f (range_with_len 0 n) ++ flat_map f (k ∷ [])) (let z : 0 + n ≡ n = omega arith in z) ∙ ap (λ (cs : List Check). flat_map f (range_with_len 0 n) ++ cs) e))

pub each_at : (f : ℕ → List Check) (n i : ℕ) → i < n → (rest : List Check) × (each_below n f ≡ (each_below i f ++ f i) ++ rest)
each_at f n i below =
    let rest : List Check = flat_map f (range_with_len (0 + (i + 1)) (n - (i + 1))) in
    let e : n ≡ (i + 1) + (n - (i + 1)) = omega arith in (
      rest,
      ap (λ (m : ℕ). each_below m f) e ∙ (ap (λ (ks : List ℕ). flat_map f ks) (range-append 0 (i + 1) (n - (i + 1)))
          ∙ (flat_map-append f (range_with_len 0 (i + 1)) (range_with_len (0 + (i + 1)) (n - (i + 1))) ∙ ap (λ (cs : List Check). cs ++ rest) (each_more f i))),
    )

pub mapped_more : (f : ℕ → Check) (a n : ℕ) → map f (range_with_len a (n + 1)) ≡ map f (range_with_len a n) ++ f (a + n) ∷ []
mapped_more f a n = ap (λ (ks : List ℕ). map f ks) (range-append a n 1) ∙ map-append f (range_with_len a n) (range_with_len (a + n) 1)

pub mapped_at : (f : ℕ → Check) (a n i : ℕ) → i < n → (rest : List Check) × (map f (range_with_len a n) ≡ (map f (range_with_len a i) ++ f (a + i) ∷ []) ++ rest)
mapped_at f a n i below =
    let rest : List Check = map f (range_with_len (a + (i + 1)) (n - (i + 1))) in
    let e : n ≡ (i + 1) + (n - (i + 1)) = omega arith in (
      rest,
      ap (λ (m : ℕ). map f (range_with_len a m)) e ∙ (ap (λ (ks : List ℕ). map f ks) (range-append a (i + 1) (n - (i + 1)))
          ∙ (map-append f (range_with_len a (i + 1)) (range_with_len (a + (i + 1)) (n - (i + 1))) ∙ ap (λ (cs : List Check). cs ++ rest) (mapped_more f a i))),
    )

-- ---- tests

pub passes_reached : (file claimed : List ℕ) (k : ℕ) → k < reach_of file → Passes file claimed (Reached k ∷ [])
passes_reached file claimed k below = record { on = λ rest. rw (lt-leb (reach_of file) k below) refl }

pub stops_reached : (file claimed : List ℕ) (k : ℕ) → reach_of file ≤ k → Stops file claimed (Reached k ∷ []) (Some (PastLimit (place_of (bits_of file) k)))
stops_reached file claimed k past = let e : nat_le (reach_of file) k ≡ true = le-leb (reach_of file) k past in record { on = λ rest. rw e refl }

pub reached_pass : (file claimed : List ℕ) (a n : ℕ) → a + n ≤ reach_of file → Passes file claimed (map Reached (range_with_len a n))
reached_pass file claimed a zero inside = passes_none file claimed
reached_pass file claimed a (suc n) inside =
    passes_on file claimed (Reached a ∷ []) (map Reached (range_with_len (a + 1) n)) (passes_reached file claimed a (omega arith)) (reached_pass file claimed (a + 1) n (omega arith))

pub reached_claims : (claimed : List ℕ) (ks : List ℕ) → claimed_after claimed (map Reached ks) ≡ claimed
reached_claims claimed [] = refl
reached_claims claimed (k ∷ ks) = reached_claims claimed ks

-- the first cluster past the reach is refused
pub reached_stop : (file claimed : List ℕ) (a n : ℕ) → 0 < n → reach_of file < a + n → Stops file claimed (map Reached (range_with_len a n)) (Some (PastLimit (place_of (bits_of file) (max a (reach_of file)))))
reached_stop file claimed a n some past =
    let i : ℕ = max a (reach_of file) - a in
    let at = mapped_at Reached a n i (omega arith) in
    let e : a + i ≡ max a (reach_of file) = omega arith in
    let low : a + i ≤ max a (reach_of file) = omega arith in
    let before : Passes file claimed (map Reached (range_with_len a i)) = by_room i (omega arith) in
    let here = stops_reached file (claimed_after claimed (map Reached (range_with_len a i))) (a + i) (omega arith) in
    let stops = stops_on file claimed (map Reached (range_with_len a i)) (Reached (a + i) ∷ []) _ before here in
    let all = stops_as file claimed _ _ _ (sym at.1) (stops_more file claimed (map Reached (range_with_len a i) ++ Reached (a + i) ∷ []) at.0 _ stops) in
    let P : ℕ → Type 0 = λ k. Stops file claimed (map Reached (range_with_len a n)) (Some (PastLimit (place_of (bits_of file) k))) in
    subst P e all
  where
    by_room : (i : ℕ) → i ≡ max a (reach_of file) - a → Passes file claimed (map Reached (range_with_len a i))
    by_room zero e = passes_none file claimed
    by_room (suc j) e = reached_pass file claimed a (suc j) (omega arith)

-- ---- claims

pub none_goes : (first rest : Option ImageFault) → first ≡ None → elim first [ Some found ↦ Some found | None ↦ rest ] ≡ rest
none_goes first rest e = rw e refl

pub some_stops : (first rest : Option ImageFault) (fault : ImageFault) → first ≡ Some fault → elim first [ Some found ↦ Some found | None ↦ rest ] ≡ Some fault
some_stops first rest fault e = rw e refl

pub passes_claim : (file claimed : List ℕ) (owner : Who) (k : ℕ) → claim_fault file claimed k ≡ None → Passes file claimed (Claim owner k ∷ [])
passes_claim file claimed owner k none = record { on = λ rest. none_goes (claim_fault file claimed k) (refused_after file (k ∷ claimed) rest) none }

pub stops_claim : (file claimed : List ℕ) (owner : Who) (k : ℕ) (fault : Option ImageFault) → fault ≢ None → claim_fault file claimed k ≡ fault → Stops file claimed (Claim owner k ∷ []) fault
stops_claim file claimed owner k None some is = absurd (some refl)
stops_claim file claimed owner k (Some fault) some is = record { on = λ rest. some_stops (claim_fault file claimed k) (refused_after file (k ∷ claimed) rest) fault is }

-- what was claimed, in whatever order
pub claimed_any : (k : ℕ) (claimed : List ℕ) (checks : List Check)
    → list_any (λ other. other == k) (claimed_after claimed checks) ≡ (list_any (λ other. other == k) (claimed_in checks) || list_any (λ other. other == k) claimed)
claimed_any k claimed [] = refl
claimed_any k claimed (Refused fault ∷ checks) = claimed_any k claimed checks
claimed_any k claimed (Reached j ∷ checks) = claimed_any k claimed checks
claimed_any k claimed (Claim owner j ∷ checks) = claimed_any k (j ∷ claimed) checks ∙ or_swap (list_any (λ other. other == k) (claimed_in checks)) (j == k) (list_any (λ other. other == k) claimed)
  where
    or_swap : (a b c : Bool) → (a || (b || c)) ≡ ((b || a) || c)
    or_swap true true c = refl
    or_swap true false c = refl
    or_swap false true c = refl
    or_swap false false c = refl

pub claimed_in-append : (xs ys : List Check) → claimed_in (xs ++ ys) ≡ claimed_in xs ++ claimed_in ys
claimed_in-append [] ys = refl
claimed_in-append (Refused fault ∷ xs) ys = claimed_in-append xs ys
claimed_in-append (Reached j ∷ xs) ys = claimed_in-append xs ys
claimed_in-append (Claim owner j ∷ xs) ys = ap (λ (ks : List ℕ). j ∷ ks) (claimed_in-append xs ys)

claim_same : (file xs ys : List ℕ) (k : ℕ) → list_any (λ other. other == k) xs ≡ list_any (λ other. other == k) ys → claim_fault file xs k ≡ claim_fault file ys k
claim_same file xs ys k e =
    ap (λ (b : Bool). if nat_le (reach_of file) k then Some (PastLimit (place_of (bits_of file) k)) else if b then Some (Overlap (place_of (bits_of file) k))
    else if refcount file k == 0 then Some (Uncounted (place_of (bits_of file) k)) else None) e

abbrev first_or : Option ImageFault → Option ImageFault → Option ImageFault
first_or first rest = elim first [ Some found ↦ Some found | None ↦ rest ]

-- a list of checks goes by which clusters have been claimed, in whatever order
same_claims : (file xs ys : List ℕ) (checks : List Check) → ((k : ℕ) → list_any (λ other. other == k) xs ≡ list_any (λ other. other == k) ys) → refused_after file xs checks ≡ refused_after file ys checks
same_claims file xs ys [] same = refl
same_claims file xs ys (Refused fault ∷ checks) same = refl
same_claims file xs ys (Reached k ∷ checks) same = rw (same_claims file xs ys checks same) refl
same_claims file xs ys (Claim owner k ∷ checks) same =
    let next = same_claims file (k ∷ xs) (k ∷ ys) checks (λ m. ap (λ (b : Bool). (k == m) || b) (same m)) in
    ap (λ (f : Option ImageFault). first_or f (refused_after file (k ∷ xs) checks)) (claim_same file xs ys k (same k)) ∙ ap (first_or (claim_fault file ys k)) next

pub passes_claimed : (file : List ℕ) (checks rest : List Check) → Passes file [] checks → refused_after file [] (checks ++ rest) ≡ refused_after file (claimed_in checks) rest
passes_claimed file checks rest passes =
    passes.on rest ∙ same_claims file (claimed_after [] checks) (claimed_in checks) rest (λ k. claimed_any k [] checks ∙ or-false (list_any (λ other. other == k) (claimed_in checks)))
