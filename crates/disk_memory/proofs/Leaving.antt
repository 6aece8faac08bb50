-- What a crash leaves, file by file.
use Rattle.std.proofs.Common.{◌≡◌, inl, inr, ℕ, ◌+◌, ◌<◌, ◌≤◌, true, Bool, List, [], ◌∷◌, ◌++◌, length, get_or, take, drop, Some, None, refl, sym, ◌∙◌, ap, subst, arith}
use Rattle.std.specs.Prelude.{Option, if◌then◌else◌}
use Rattle.std.proofs.lemmas.Bool.{cases_lt, cases_eq, lt-ltb, le-ltb}
use Rattle.std.proofs.lemmas.List.{get_or_push, length_push, take-append-drop}
use Rattle.std.proofs.lemmas.Grind.{common_steps}
use Rattle.disk_memory.specs.Held.{Change, FilePut, replay, upto, Held, number_of, world_of, IsKept}
use Rattle.disk_memory.specs.Steps.{noted, with_file, with_some}
use Rattle.disk_memory.specs.Laws.{number_found, all_of}
use Rattle.disk_memory.specs.Outcomes.{IsPick, IsPicked, IsUnfailed, IsLeft, files_of, below}
use Rattle.disk_memory.proofs.Names.{push_before, number_or_none}
use Rattle.disk_memory.proofs.Changes.{replay-append, here, elsewhere, replay_some, upto_now}

-- a host has what a crash at change k leaves of the first i files of another
pub record IsLeaving (choice k : ℕ) (old : Held) (i : ℕ) (new : Held) : Type 0 where
  pub many : length new.names ≤ i
  pub named : (f : ℕ) → f < length new.names → get_or new.names f [] ≡ get_or old.names f []
  pub picked : (f : ℕ) → f < length new.names → IsPick choice (upto old.changes k f) (get_or new.contents f [])
  pub absent : (f : ℕ) → length new.names ≤ f → f < i → upto old.changes k f ≡ []
  pub settled : (f : ℕ) → f < length new.names → upto new.changes (length new.changes) f ≡ get_or new.contents f [] ∷ []
  pub keeps : new.keep ≡ true
  pub printed : new.printed ≡ []
  pub unfailed : IsUnfailed (world_of new).faults

-- a pick is of a file that is there
picked_some : (choice : ℕ) (versions : List (List ℕ)) (file : List ℕ) → IsPick choice versions file → versions ≡ [] → ⊥
picked_some choice [] file pick none = pick.outcome.sectors 0
picked_some choice (v ∷ vs) file pick none = cc

-- of what is below the end of a list with one more: it is the last, or was there before
below_push : {A : Type 0} (P : ℕ → Type 0) (xs : List A) (x : A) → ((f : ℕ) → f < length xs → P f) → P (length xs) → (f : ℕ) → f < length (xs ++ x ∷ []) → P f
below_push P xs x before last f inside = grind (arith, common_steps)

module _ (choice k : ℕ) (old new : Held) (i : ℕ) (kept : IsKept old) (told : old.keep ≡ true) (kept_new : IsKept new) (was : IsLeaving choice k old i new) (inside : i < length old.names) where
  abbrev name : List ℕ
  name = get_or old.names i []

  pub is_new : number_of new.names name ≡ None
  is_new = number_or_none new.names name (λ g found.
      let at = number_found new.names name g found in
      let same : Some g ≡ Some i = sym (kept.found g (omega (arith, at.0, was.many, inside))) ∙ ap (number_of old.names) (sym (was.named g at.0) ∙ at.1) ∙ kept.found i inside in
      let is : g ≡ i = cc in
      omega (arith, is, at.0, was.many))

  -- a file that is there is the next by number
  is_next : (bytes : List ℕ) → IsPick choice (upto old.changes k i) bytes → length new.names ≡ i
  is_next bytes pick = elim (cases_lt (length new.names) i) [
    | inl less ↦ absurd (picked_some choice (upto old.changes k i) bytes pick ((kept.replayed told).ordered k (length new.names) i (omega arith) (was.absent (length new.names) (omega arith) less)))
    | inr all ↦ omega (arith, all, was.many)
  ]

  leaving_some : (bytes : List ℕ) → IsPick choice (upto old.changes k i) bytes → IsLeaving choice k old (i + 1) (with_file name bytes new)
  leaving_some bytes pick =
      let next = is_next bytes pick in
      let end = length new.names in
      let long = length_push new.names name in
      let counts : (xs : List ℕ) → length xs ≡ end → ((g : ℕ) → get_or xs g 0 ≡ 0) → (g : ℕ) → get_or (xs ++ 0 ∷ []) g 0 ≡ 0 = λ xs same zero g. elim (cases_eq g end) [
        | inl last ↦ get_or_push xs 0 0 g (same ∙ sym last)
        | inr apart ↦ (push_before xs 0 0 end g same apart).0 ∙ zero g
      ] in
      let before : (f : ℕ) → f < end → get_or (new.contents ++ bytes ∷ []) f [] ≡ get_or new.contents f [] = λ f low. (push_before new.contents bytes [] end f kept_new.contents (λ same. omega arith)).0 in
      let last : get_or (new.contents ++ bytes ∷ []) end [] ≡ bytes = get_or_push new.contents bytes [] end kept_new.contents in
      record {
        many = omega (arith, long, next);
        named = below_push (λ f. get_or (new.names ++ name ∷ []) f [] ≡ get_or old.names f []) new.names name (λ f low. (push_before new.names name [] end f refl (λ same. omega arith)).0 ∙ was.named f low)
            (get_or_push new.names name [] end refl ∙ ap (λ (n : ℕ). get_or old.names n []) (sym next));
        picked = below_push (λ f. IsPick choice (upto old.changes k f) (get_or (new.contents ++ bytes ∷ []) f [])) new.names name
            (λ f low. subst (IsPick choice (upto old.changes k f)) (sym (before f low)) (was.picked f low))
            (subst (IsPick choice (upto old.changes k end)) (sym last) (subst (λ (n : ℕ). IsPick choice (upto old.changes k n) bytes) (sym next) pick));
        absent = λ f low high. absurd (omega (arith, long, next));
        settled = below_push (λ f. upto (with_file name bytes new).changes (length (with_file name bytes new).changes) f ≡ get_or (new.contents ++ bytes ∷ []) f [] ∷ []) new.names name
            (λ f low. now f ∙ elsewhere end f (bytes ∷ []) (upto new.changes (length new.changes) f) (λ same. omega arith) ∙ was.settled f low ∙ ap (λ (l : List ℕ). l ∷ []) (sym (before f low)))
            (now end ∙ here end (bytes ∷ []) (upto new.changes (length new.changes) end) ∙ ap (λ (l : List ℕ). l ∷ []) (sym last));
        keeps = was.keeps;
        printed = was.printed;
        unfailed = record {
          shared = was.unfailed.shared;
          reads = counts new.reads kept_new.reads was.unfailed.reads;
          writes = counts new.writes kept_new.writes was.unfailed.writes;
          prints = was.unfailed.prints;
        };
      }
    where
      now : (f : ℕ) → upto (with_file name bytes new).changes (length (with_file name bytes new).changes) f ≡ replay (FilePut (length new.names) bytes ∷ []) f (upto new.changes (length new.changes) f)
      now f =
          ap (λ (b : Bool). upto (new.changes ++ noted b (FilePut (length new.names) bytes ∷ [])) (length (new.changes ++ noted b (FilePut (length new.names) bytes ∷ []))) f) was.keeps
          ∙ upto_now new.changes (FilePut (length new.names) bytes ∷ []) f

  leaving_none : upto old.changes k i ≡ [] → IsLeaving choice k old (i + 1) new
  leaving_none none = record {
    many = omega (arith, was.many);
    named = was.named;
    picked = was.picked;
    absent = λ f low high. elim (cases_lt f i) [ inl before ↦ was.absent f low before | inr past ↦ let same : f ≡ i = omega arith in ap (upto old.changes k) same ∙ none ];
    settled = was.settled;
    keeps = was.keeps;
    printed = was.printed;
    unfailed = was.unfailed;
  }

  pub leaving_next : (next : Held) (bytes : Option (List ℕ)) → IsPicked choice (upto old.changes k i) bytes → next ≡ with_some name bytes new → IsLeaving choice k old (i + 1) next
  leaving_next next None none is = subst (IsLeaving choice k old (i + 1)) (sym is) (leaving_none none)
  leaving_next next (Some bytes) pick is = subst (IsLeaving choice k old (i + 1)) (sym is) (leaving_some bytes pick)

-- ---- at the end

-- a file that is not there was not there before
absent_before : (changes : List Change) (k f : ℕ) → replay changes f [] ≡ [] → upto changes k f ≡ []
absent_before changes k f none = by_cases (upto changes k f) refl
  where
    by_cases : (vs : List (List ℕ)) → upto changes k f ≡ vs → upto changes k f ≡ []
    by_cases [] is = is
    by_cases (v ∷ vs) is =
        let whole : replay changes f [] ≡ replay (drop k changes) f (upto changes k f) = ap (λ (l : List Change). replay l f []) (sym (take-append-drop k changes)) ∙ replay-append (take k changes) (drop k changes) f [] in
        absurd (omega (arith, replay_some (drop k changes) f (upto changes k f) (omega (arith, ap length is)), ap length (sym whole ∙ none)))

module _ (choice k : ℕ) (old new : Held) (kept : IsKept old) (kept_new : IsKept new) (told : old.keep ≡ true) (was : IsLeaving choice k old (length old.names) new) where
  abbrev end : ℕ
  end = length new.names

  -- the files that it has are those below the end
  file_at : (f : ℕ) (file : List ℕ) → files_of (world_of new) f ≡ Some file → (f < end) × (get_or new.contents f [] ≡ file)
  file_at f file is = grind (arith, common_steps)

  past_end : (f : ℕ) → files_of (world_of new) f ≡ None → end ≤ f
  past_end f none = elim (cases_lt f end) [
    | inl low ↦ let some : Some (get_or new.contents f []) ≡ None = ap (λ (b : Bool). if b then Some (get_or new.contents f []) else None) (sym (lt-ltb f end low)) ∙ none in absurd (cc)
    | inr past ↦ past
  ]

  absent_of : (f : ℕ) → files_of (world_of new) f ≡ None → upto old.changes k f ≡ []
  absent_of f is = elim (cases_lt f (length old.names)) [
    | inl there ↦ was.absent f (past_end f is) there
    | inr out ↦ absent_before old.changes k f (((kept.replayed told).files f).absent (omega (arith, kept.contents, out)))
  ]

  found_of : (name : List ℕ) (a b : Option ℕ) → number_of new.names name ≡ a → number_of old.names name ≡ b → a ≡ below end b
  found_of name a b in_new in_old = by_cases a b in_new in_old
    where
      number_new : (g : ℕ) → number_of new.names name ≡ Some g → (g < end) × (number_of old.names name ≡ Some g)
      number_new g found =
          let at = number_found new.names name g found in
          (at.0, ap (number_of old.names) (sym (sym (was.named g at.0) ∙ at.1)) ∙ kept.found g (omega (arith, at.0, was.many)))

      number_old : (f : ℕ) → number_of old.names name ≡ Some f → f < end → number_of new.names name ≡ Some f
      number_old f found low = ap (number_of new.names) (sym (was.named f low ∙ (number_found old.names name f found).1)) ∙ kept_new.found f low

      by_cases : (a b : Option ℕ) → number_of new.names name ≡ a → number_of old.names name ≡ b → a ≡ below end b
      by_cases None None here there = refl
      by_cases None (Some f) here there = elim (cases_lt f end) [
        | inl low ↦ let is = number_old f there low in absurd (cc)
        | inr past ↦ sym (ap (λ (t : Bool). if t then Some f else None) (le-ltb f end past))
      ]
      by_cases (Some g) None here there = let is = (number_new g here).1 in absurd (cc)
      by_cases (Some g) (Some f) here there =
          let is = number_new g here in
          let same : g ≡ f = let both : Some g ≡ Some f = sym is.1 ∙ there in cc in
          ap (λ (n : ℕ). Some n) same ∙ sym (ap (λ (t : Bool). if t then Some f else None) (lt-ltb f end (omega (arith, is.0, same))))

  pub is_left : IsLeft choice k (world_of old) (world_of new)
  is_left = record {
    left = record { there = λ f file is. let at = file_at f file is in (subst (IsPick choice (upto old.changes k f)) at.1 (was.picked f at.0)).outcome; absent = λ f is. absent_of f is };
    begins = record {
      seen = λ f file told is. (file_at f file is).1;
      settled = λ f file is. let at = file_at f file is in
          was.settled f at.0 ∙ ap (λ (l : List ℕ). l ∷ []) at.1 ∙ sym (ap (λ (b : Bool). if b then file ∷ [] else []) was.keeps);
      absent = λ f none. all_of new.changes f ∙ ((kept_new.replayed was.keeps).files f).absent (omega (arith, kept_new.contents, past_end f none));
      found = λ name f file told is in_old. found_of name (number_of new.names name) (number_of old.names name) refl refl
          ∙ ap (below end) in_old ∙ ap (λ (t : Bool). if t then Some f else None) (lt-ltb f end (file_at f file is).0);
    };
    first = λ zero f low. (was.picked f low).first zero;
    last = λ one f low. (was.picked f low).last one;
    named = λ f low. (omega (arith, low, was.many), was.named f low);
    found = λ name. found_of name (number_of new.names name) (number_of old.names name) refl refl;
    outcomes = was.keeps;
    settled = was.settled;
    printed = was.printed;
    unfailed = was.unfailed;
  }
