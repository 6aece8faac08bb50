-- What is true of each host stays true at each call.
use Rattle.std.proofs.Common.{◌≡◌, lit<, inl, inr, ℕ, ◌+◌, ◌<◌, ◌≤◌, ◌^◌, true, false, Bool, List, [], ◌∷◌, ◌++◌, length, get_or, set, take, map, None, refl, sym, ◌∙◌, ap, subst, arith, length-set, get_or-set_same}
use Rattle.std.proofs.lemmas.Bool.{cases_lt, cases_eq}
use Rattle.std.proofs.lemmas.List.{take_more, map-append, append-nil, length_push, get_or_push}
use Rattle.std.proofs.lemmas.Grind.{common_steps}
use Rattle.disk_model.specs.Files.{overlay, after_write, after_sync, latest}
use Rattle.disk_memory.specs.declared.log.Call.{Call}
use Rattle.disk_memory.specs.Held.{change_of, Change, FilePut, BytesWritten, UnderWay, FileSynced, step, replay, upto, Held, number_of, IsContent, IsReplayed, IsKept}
use Rattle.disk_memory.specs.Steps.{noted, with_content, with_file, with_bytes, with_sync, failed_read, failed_write}
use Rattle.disk_memory.specs.Laws.{all_of}
use Rattle.disk_memory.proofs.Names.{found_push, push_before}
use Rattle.disk_memory.proofs.Changes.{replay-append, here, elsewhere, Spares, spared_all, upto_before, upto_spared, upto_lasts}

-- ---- files and changes together

latest_write : (at : ℕ) (bytes : List ℕ) (vs : List (List ℕ)) → 0 < length vs → (overlay (latest vs) at bytes ≡ latest (after_write at bytes vs)) × (0 < length (after_write at bytes vs))
latest_write at bytes [] some = absurd (omega arith)
latest_write at bytes (v ∷ vs) some = (refl, omega arith)

latest_sync : (vs : List (List ℕ)) → 0 < length vs → (latest vs ≡ latest (after_sync vs)) × (0 < length (after_sync vs))
latest_sync [] some = absurd (omega arith)
latest_sync (v ∷ vs) some = (refl, omega arith)

module _ (contents new : List (List ℕ)) (changes cs : List Change) (n : ℕ) (longer : length contents ≤ length new) (there : n < length new) (first : n ≤ length contents)
    (others : (f : ℕ) → (f ≡ n → ⊥) → (get_or new f [] ≡ get_or contents f []) × (f < length new → f < length contents))
    (at : (get_or new n [] ≡ latest (replay cs n (replay changes n []))) × (0 < length (replay cs n (replay changes n []))))
    (spares : (f : ℕ) → (f ≡ n → ⊥) → Spares cs f) (old : IsReplayed contents changes) where
  -- what is not there after the changes was not there before, nor is what has a greater number
  later_absent : (k f g : ℕ) → length changes ≤ k → f ≤ g → upto (changes ++ cs) k f ≡ [] → upto (changes ++ cs) k g ≡ []
  later_absent k f g low le none =
      let past : length contents ≤ f = elim (cases_lt f (length contents)) [
        | inl below ↦ absurd (omega (arith, upto_lasts changes cs k f low (subst (λ (vs : List (List ℕ)). 0 < length vs) (sym (all_of changes f)) ((old.files f).there below)), ap length none))
        | inr past ↦ past
      ] in
      elim (cases_eq g n) [
        | inl same ↦ let is : f ≡ g = omega arith in ap (upto (changes ++ cs) k) (sym is) ∙ none
        | inr apart ↦ upto_spared changes cs k g (spares g apart) low ∙ all_of changes g ∙ (old.files g).absent (omega arith)
      ]

  -- changes of file n alone, which is there now
  replayed_on : IsReplayed new (changes ++ cs)
  replayed_on = record {
    files = λ f. subst (IsContent new f) (sym (replay-append changes cs f [])) (elim (cases_eq f n) [
      | inl same ↦ subst (λ (g : ℕ). IsContent new g (replay cs g (replay changes g []))) (sym same) (record { same = at.0; there = λ below. at.1; absent = λ past. absurd (omega arith) })
      | inr apart ↦ subst (IsContent new f) (sym (spared_all cs f (replay changes f []) (spares f apart))) (record {
        same = (others f apart).0 ∙ (old.files f).same;
        there = λ below. (old.files f).there ((others f apart).1 below);
        absent = λ past. (old.files f).absent (omega arith);
      })
    ]);
    ordered = λ k f g le none. elim (cases_lt (length changes) k) [
      | inl after ↦ later_absent k f g (omega arith) le none
      | inr before ↦ upto_before changes cs k g before ∙ old.ordered k f g le (sym (upto_before changes cs k f before) ∙ none)
    ];
  }

module _ (contents : List (List ℕ)) (changes : List Change) (old : IsReplayed contents changes) (n : ℕ) where
  set_others : (bytes : List ℕ) (f : ℕ) → (f ≡ n → ⊥) → (get_or (set contents n bytes) f [] ≡ get_or contents f []) × (f < length (set contents n bytes) → f < length contents)
  set_others bytes f apart = grind (arith, common_steps)

  replayed_write : (at : ℕ) (bytes : List ℕ) → n < length contents → IsReplayed (set contents n (overlay (get_or contents n []) at bytes)) (changes ++ BytesWritten n at bytes ∷ UnderWay ∷ [])
  replayed_write at bytes there =
      let vs = replay changes n [] in
      let new = overlay (get_or contents n []) at bytes in
      let is = here n (after_write at bytes vs) vs in
      let now = latest_write at bytes vs ((old.files n).there there) in
      replayed_on contents (set contents n new) changes (BytesWritten n at bytes ∷ UnderWay ∷ []) n (omega (arith, length-set contents n new)) (omega (arith, there, length-set contents n new)) (omega arith) (set_others new)
      (get_or-set_same contents n new [] there ∙ ap (λ (file : List ℕ). overlay file at bytes) (old.files n).same ∙ now.0 ∙ ap latest (sym is), subst (λ (l : List (List ℕ)). 0 < length l) (sym is) now.1)
      (λ f apart. (λ l. elsewhere n f (after_write at bytes l) l apart, (λ l. refl, tt))) old

  replayed_sync : n < length contents → IsReplayed contents (changes ++ FileSynced n ∷ [])
  replayed_sync there =
      let vs = replay changes n [] in
      let is = here n (after_sync vs) vs in
      let now = latest_sync vs ((old.files n).there there) in
      replayed_on contents contents changes (FileSynced n ∷ []) n (omega arith) there (omega arith) (λ f apart. (refl, λ below. below))
      ((old.files n).same ∙ now.0 ∙ ap latest (sym is), subst (λ (l : List (List ℕ)). 0 < length l) (sym is) now.1)
      (λ f apart. (λ l. elsewhere n f (after_sync l) l apart, tt)) old

  replayed_put : (new : List (List ℕ)) (bytes : List ℕ) → length contents ≤ length new → n < length new → n ≤ length contents → get_or new n [] ≡ bytes → ((f : ℕ) → (f ≡ n → ⊥) → (get_or new f [] ≡ get_or contents f []) × (f < length new → f < length contents))
      → IsReplayed new (changes ++ FilePut n bytes ∷ [])
  replayed_put new bytes longer there first at others =
      let is = here n (bytes ∷ []) (replay changes n []) in
      replayed_on contents new changes (FilePut n bytes ∷ []) n longer there first others (at ∙ ap latest (sym is), subst (λ (l : List (List ℕ)). 0 < length l) (sym is) (lit< tt))
      (λ f apart. (λ l. elsewhere n f (bytes ∷ []) l apart, tt)) old

-- ---- each step

-- what was kept, or nothing
noted_kept : (keep : Bool) (contents made : List (List ℕ)) (changes cs : List Change) → (keep ≡ true → IsReplayed contents changes) → (IsReplayed contents changes → IsReplayed made (changes ++ cs)) → keep ≡ true → IsReplayed made (changes ++ noted keep cs)
noted_kept true contents made changes cs old more told = more (old refl)
noted_kept false contents made changes cs old more told = absurd (cc told)

noted_none : (keep : Bool) (changes cs : List Change) → (keep ≡ false → changes ≡ []) → keep ≡ false → changes ++ noted keep cs ≡ []
noted_none true changes cs none untold = absurd (cc untold)
noted_none false changes cs none untold = append-nil changes ∙ none refl

pub kept_failed_read : (f : ℕ) (h : Held) → IsKept h → IsKept (failed_read f h)
kept_failed_read f h k = record { few = k.few; contents = k.contents; reads = length-set h.reads f _ ∙ k.reads; writes = k.writes; found = k.found; replayed = k.replayed; none = k.none }

pub kept_failed_write : (f : ℕ) (h : Held) → IsKept h → IsKept (failed_write f h)
kept_failed_write f h k = record { few = k.few; contents = k.contents; reads = k.reads; writes = length-set h.writes f _ ∙ k.writes; found = k.found; replayed = k.replayed; none = k.none }

pub kept_with_sync : (f : ℕ) (h : Held) → f < length h.names → IsKept h → IsKept (with_sync f h)
kept_with_sync f h there k = record {
  few = k.few;
  contents = k.contents;
  reads = k.reads;
  writes = k.writes;
  found = k.found;
  replayed = noted_kept h.keep h.contents h.contents h.changes (FileSynced f ∷ []) k.replayed (λ old. replayed_sync h.contents h.changes old f (omega (arith, there, k.contents)));
  none = noted_none h.keep h.changes (FileSynced f ∷ []) k.none;
}

pub kept_with_bytes : (f at : ℕ) (bytes : List ℕ) (h : Held) → f < length h.names → IsKept h → IsKept (with_bytes f at bytes h)
kept_with_bytes f at bytes h there k = record {
  few = k.few;
  contents = length-set h.contents f _ ∙ k.contents;
  reads = k.reads;
  writes = k.writes;
  found = k.found;
  replayed = noted_kept h.keep h.contents (with_bytes f at bytes h).contents h.changes (BytesWritten f at bytes ∷ UnderWay ∷ []) k.replayed (λ old. replayed_write h.contents h.changes old f at bytes (omega (arith, there, k.contents)));
  none = noted_none h.keep h.changes (BytesWritten f at bytes ∷ UnderWay ∷ []) k.none;
}

pub kept_with_file : (name bytes : List ℕ) (h : Held) → length h.names + 1 < 2 ^ 32 → number_of h.names name ≡ None → IsKept h → IsKept (with_file name bytes h)
kept_with_file name bytes h few new k = record {
  few = omega (arith, few, length_push h.names name);
  contents = omega (arith, k.contents, length_push h.names name, length_push h.contents bytes);
  reads = omega (arith, k.reads, length_push h.names name, length_push h.reads 0);
  writes = omega (arith, k.writes, length_push h.names name, length_push h.writes 0);
  found = found_push h.names name new k.found;
  replayed = noted_kept h.keep h.contents (h.contents ++ bytes ∷ []) h.changes (FilePut (length h.names) bytes ∷ []) k.replayed (λ old. replayed_put h.contents h.changes old (length h.names) (h.contents ++ bytes ∷ []) bytes (omega (arith, length_push h.contents bytes)) (omega (arith, k.contents, length_push h.contents bytes)) (omega (arith, k.contents)) (get_or_push h.contents bytes [] (length h.names) k.contents) (λ g apart. push_before h.contents bytes [] (length h.names) g k.contents apart));
  none = noted_none h.keep h.changes (FilePut (length h.names) bytes ∷ []) k.none;
}

pub kept_with_content : (f : ℕ) (bytes : List ℕ) (h : Held) → f < length h.names → IsKept h → IsKept (with_content f bytes h)
kept_with_content f bytes h there k = record {
  few = k.few;
  contents = length-set h.contents f _ ∙ k.contents;
  reads = k.reads;
  writes = k.writes;
  found = k.found;
  replayed = noted_kept h.keep h.contents (set h.contents f bytes) h.changes (FilePut f bytes ∷ []) k.replayed (λ old. replayed_put h.contents h.changes old f (set h.contents f bytes) bytes (omega (arith, length-set h.contents f bytes)) (omega (arith, there, k.contents, length-set h.contents f bytes)) (omega (arith, there, k.contents)) (get_or-set_same h.contents f bytes [] (omega (arith, there, k.contents))) (set_others h.contents h.changes old f bytes));
  none = noted_none h.keep h.changes (FilePut f bytes ∷ []) k.none;
}

-- the versions after one call more, of those of the code
pub replay_next : (log : List Call) (n f : ℕ) (call : Call) → n < length log → call ≡ get_or log n call → replay (map change_of (take (n + 1) log)) f [] ≡ step (change_of call) f (replay (map change_of (take n log)) f [])
replay_next log n f call below is =
    ap (λ (l : List Call). replay (map change_of l) f []) (take_more log n call below)
    ∙ ap (λ (c : Call). replay (map change_of (take n log ++ c ∷ [])) f []) (sym is)
    ∙ ap (λ (l : List Change). replay l f []) (map-append change_of (take n log) (call ∷ []))
    ∙ replay-append (map change_of (take n log)) (change_of call ∷ []) f []
