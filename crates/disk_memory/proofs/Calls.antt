-- What each call tells: h is what the host held at the start, k what it holds at the end.
use Rattle.std.proofs.Common.{◌≡◌, ◌⊎◌, inl, inr, ℕ, ◌<◌, ◌≤◌, true, false, Bool, List, [], ◌∷◌, ◌++◌, length, get_or, set, Some, None, refl, sym, ◌∙◌, ap, subst, arith, length-append, get_or-set_same, get_or-set_other}
use Rattle.std.specs.Prelude.{if◌then◌else◌}
use Rattle.std.proofs.lemmas.List.{append-nil, length_push, get_or_append_left, get_or_push, get_or_past}
use Rattle.std.proofs.lemmas.Grind.{common_steps}
use Rattle.disk_model.specs.Files.{overlay, after_write, after_sync, MayWrite, IsTorn}
use Rattle.disk_model.specs.World.{Faults, versions, IsNameless, Parts, nothing, writes_of, making, Counts, GoesOn, SameFile, SameText, Runs, Writes, HasWritten, Syncs, HasSynced, MayMake, HasMade}
use Rattle.disk_model.proofs.Laws.{whole_torn, untorn, wrote, run_more, nothing_within}
use Rattle.disk_memory.specs.Held.{Change, FilePut, BytesWritten, UnderWay, FileSynced, step, upto, Held, number_of, world_of, IsReplayed, IsKept}
use Rattle.disk_memory.specs.Steps.{raised, noted, with_content, HasPut, with_file, with_bytes, with_sync, failed_find, failed_write}
use Rattle.disk_memory.specs.Laws.{number_found, all_of, none_upto}
use Rattle.disk_memory.proofs.Names.{number_push_apart, number_push_new, push_before}
use Rattle.disk_memory.proofs.Changes.{here, elsewhere, Spares, spares_noted, upto_before, upto_spared, upto_lasts, versions_noted, versions_put, before_noted, within_noted}

-- ---- counts

-- one count of a list rose
counted_more : (counts : List ℕ) (f g : ℕ) → get_or counts g 0 ≤ get_or (set counts f (raised (get_or counts f 0))) g 0
counted_more counts f g = grind (arith, common_steps)

stay_counts : (c : Faults) → Counts c c
stay_counts c = record { shared = omega arith; reads = λ f. omega arith; writes = λ f. omega arith; prints = omega arith }

-- ---- runs

module _ (h k : Held) (cs : List Change) (keep : k.keep ≡ h.keep) (is : k.changes ≡ h.changes ++ cs) where
  goes_on : (more : List (List ℕ)) → k.names ≡ h.names ++ more → Counts (world_of h).faults (world_of k).faults → GoesOn (world_of h) (world_of k)
  goes_on more names counts = record {
    later = omega (arith, ap length is, length-append h.changes cs);
    kept = λ m f le. ap (λ (l : List Change). upto l m f) is ∙ upto_before h.changes cs m f le;
    lasts = λ m f low high some. subst (λ (l : List Change). 0 < length (upto l m f)) (sym is) (upto_lasts h.changes cs m f low some);
    tells = refl;
    outcomes = keep;
    prints = refl;
    given = omega (arith, ap length names, length-append h.names more);
    named = λ f below. ap (λ (l : List (List ℕ)). get_or l f []) names ∙ get_or_append_left h.names more [] f below;
    counts = counts;
    send_faults = omega arith;
  }

  same_file : (g : ℕ) → Spares cs g → get_or k.contents g [] ≡ get_or h.contents g [] → get_or k.writes g 0 ≡ get_or h.writes g 0 → SameFile g (world_of h) (world_of k)
  same_file g spares seen unwritten = record { seen = seen; moments = λ m low high. ap (λ (l : List Change). upto l m g) is ∙ upto_spared h.changes cs m g spares low; unwritten = unwritten }

-- a call that changed no file
run_without : (parts : Parts) (h k : Held) → k.keep ≡ h.keep → k.changes ≡ h.changes → k.names ≡ h.names → k.contents ≡ h.contents → Counts (world_of h).faults (world_of k).faults
    → ((g : ℕ) → (parts.files g → ⊥) → get_or k.writes g 0 ≡ get_or h.writes g 0) → ((g : ℕ) → (parts.reads g → ⊥) → get_or k.reads g 0 ≡ get_or h.reads g 0) → ((parts.text → ⊥) → SameText (world_of h) (world_of k))
    → Runs parts (world_of h) (world_of k)
run_without parts h k keep changes names contents counts writes reads text =
    let is : k.changes ≡ h.changes ++ [] = changes ∙ sym (append-nil h.changes) in
    record {
      goes = goes_on h k [] keep is [] (names ∙ sym (append-nil h.names)) counts;
      files = λ g none. same_file h k [] keep is g tt (ap (λ (l : List (List ℕ)). get_or l g []) contents) (writes g none);
      unread = reads;
      found = λ name none. ap (λ (l : List (List ℕ)). number_of l name) names;
      text = text;
      wire = λ none. refl;
    }

pub run_failed_find : (h : Held) → Runs nothing (world_of h) (world_of (failed_find h))
run_failed_find h =
    run_without nothing h (failed_find h) refl refl refl refl (record { shared = omega arith; reads = λ f. omega arith; writes = λ f. omega arith; prints = omega arith }) (λ g none. refl) (λ g none. refl)
    (λ none. record { printed = refl; unprinted = refl })

run_failed_write : (f : ℕ) (h : Held) → Runs (writes_of f) (world_of h) (world_of (failed_write f h))
run_failed_write f h =
    run_without (writes_of f) h (failed_write f h) refl refl refl refl (record { shared = omega arith; reads = λ f. omega arith; writes = λ g. counted_more h.writes f g; prints = omega arith })
    (λ g none. get_or-set_other h.writes f g (raised (get_or h.writes f 0)) 0 none) (λ g none. refl) (λ none. record { printed = refl; unprinted = refl })

-- a call that noted changes of file f alone
run_noted : (parts : Parts) (f : ℕ) (h k : Held) (cs : List Change) → k.keep ≡ h.keep → k.changes ≡ h.changes ++ noted h.keep cs → k.names ≡ h.names → k.reads ≡ h.reads → k.writes ≡ h.writes → k.printed ≡ h.printed → (world_of k).faults ≡ (world_of h).faults
    → ((g : ℕ) → (parts.files g → ⊥) → Spares cs g × (get_or k.contents g [] ≡ get_or h.contents g [])) → Runs parts (world_of h) (world_of k)
run_noted parts f h k cs keep is names reads writes printed faults files = record {
  goes = goes_on h k (noted h.keep cs) keep is [] (names ∙ sym (append-nil h.names)) (subst (Counts (world_of h).faults) (sym faults) (stay_counts (world_of h).faults));
  files = λ g none. same_file h k (noted h.keep cs) keep is g (spares_noted h.keep cs g (files g none).0) (files g none).1 (ap (λ (l : List ℕ). get_or l g 0) writes);
  unread = λ g none. ap (λ (l : List ℕ). get_or l g 0) reads;
  found = λ name none. ap (λ (l : List (List ℕ)). number_of l name) names;
  text = λ none. record { printed = printed; unprinted = ap (λ (c : Faults). c.prints) faults };
  wire = λ none. refl;
}

-- ---- writes and syncs

same_versions : (at : ℕ) (bytes : List ℕ) (vs : List (List ℕ)) → MayWrite at bytes vs vs
same_versions at bytes [] = refl
same_versions at bytes (v ∷ vs) = inl refl

pub unwritten : (f at : ℕ) (bytes : List ℕ) (h : Held) → Writes f at bytes (world_of h) (world_of (failed_write f h))
unwritten f at bytes h = record {
  run = run_failed_write f h;
  steps = λ k low high. absurd (omega arith);
  may = same_versions at bytes (upto h.changes (length h.changes) f);
  torn = λ told. untorn at bytes (get_or h.contents f []);
}

module _ (f : ℕ) (h : Held) (kept : IsKept h) where
  pub has_written : (at : ℕ) (bytes : List ℕ) → f < length h.names → HasWritten f at bytes (world_of h) (world_of (with_bytes f at bytes h))
  has_written at bytes there = record {
    seen = λ told. get_or-set_same h.contents f (overlay (get_or h.contents f []) at bytes) [] (omega (arith, kept.contents, there));
    versions = versions_noted h.keep h.changes (BytesWritten f at bytes ∷ UnderWay ∷ []) f (after_write at bytes) kept.none refl (λ vs. here f (after_write at bytes vs) vs);
  }

  pub writes : (at : ℕ) (bytes : List ℕ) → f < length h.names → Writes f at bytes (world_of h) (world_of (with_bytes f at bytes h))
  writes at bytes there =
      let done = has_written at bytes there in
      let new = overlay (get_or h.contents f []) at bytes in
      record {
        run = run_noted (writes_of f) f h (with_bytes f at bytes h) (BytesWritten f at bytes ∷ UnderWay ∷ []) refl refl refl refl refl refl refl
            (λ g none. ((λ vs. elsewhere f g (after_write at bytes vs) vs none, (λ vs. refl, tt)), get_or-set_other h.contents f g new [] none));
        steps = λ k low high. within_noted h.keep h.changes (BytesWritten f at bytes) f k low high;
        may = wrote at bytes (upto h.changes (length h.changes) f) (versions (world_of (with_bytes f at bytes h)) f) done.versions;
        torn = λ told. subst (IsTorn at bytes (get_or h.contents f [])) (sym (done.seen told)) (whole_torn at bytes (get_or h.contents f []));
      }

  pub has_synced : HasSynced f (world_of h) (world_of (with_sync f h))
  has_synced = record { versions = versions_noted h.keep h.changes (FileSynced f ∷ []) f after_sync kept.none refl (λ vs. here f (after_sync vs) vs) }

  pub syncs : Syncs f (world_of h) (world_of (with_sync f h))
  syncs = record {
    run = run_noted (writes_of f) f h (with_sync f h) (FileSynced f ∷ []) refl refl refl refl refl refl refl (λ g none. ((λ vs. elsewhere f g (after_sync vs) vs none, tt), refl));
    steps = λ k low high. before_noted h.keep h.changes (FileSynced f) f k low high;
    may = inr has_synced.versions;
    seen = refl;
  }

-- ---- files made and put

-- past the last number there is no file
absent_upto : (keep : Bool) (contents : List (List ℕ)) (changes : List Change) (f : ℕ) → (keep ≡ true → IsReplayed contents changes) → (keep ≡ false → changes ≡ []) → length contents ≤ f → upto changes (length changes) f ≡ []
absent_upto true contents changes f replayed none past = all_of changes f ∙ ((replayed refl).files f).absent past
absent_upto false contents changes f replayed none past = none_upto changes (length changes) f (none refl)

module _ (name : List ℕ) (h : Held) (kept : IsKept h) where
  abbrev end : ℕ
  end = length h.names

  none_before : upto h.changes (length h.changes) end ≡ []
  none_before = absent_upto h.keep h.contents h.changes end kept.replayed kept.none (omega (arith, kept.contents))

  nameless : IsNameless (world_of h) end
  nameless other found = let below = (number_found h.names other end found).0 in absurd (omega arith)

  pub unmade : (f : ℕ) × MayMake name f (world_of h) (world_of (failed_find h))
  unmade = (
    end,
    record {
      run = run_more (nothing_within (making name end)) (run_failed_find h);
      named = λ given. absurd (omega arith);
      nameless = λ told. nameless;
      absent = λ k low high. absurd (omega arith);
      empty = λ told. get_or_past h.contents end [] (omega (arith, kept.contents));
      versions = inl none_before;
      found = λ told. inl refl;
    },
  )

  module _ (bytes : List ℕ) (new : number_of h.names name ≡ None) where
    -- the counts of a list with one more, which is zero
    zero_more : (counts : List ℕ) (g : ℕ) → get_or (counts ++ 0 ∷ []) g 0 ≡ get_or counts g 0
    zero_more counts g = grind (arith, common_steps)

    pub has_put_new : HasPut name bytes end (world_of h) (world_of (with_file name bytes h))
    has_put_new = record {
      run = record {
        goes = goes_on h (with_file name bytes h) (noted h.keep (FilePut end bytes ∷ [])) refl refl (name ∷ []) refl
            (record { shared = omega arith; reads = λ g. omega (arith, zero_more h.reads g); writes = λ g. omega (arith, zero_more h.writes g); prints = omega arith });
        files = λ g none. same_file h (with_file name bytes h) (noted h.keep (FilePut end bytes ∷ [])) refl refl g (spares_noted h.keep (FilePut end bytes ∷ []) g (λ vs. elsewhere end g (bytes ∷ []) vs none, tt))
            (push_before h.contents bytes [] end g kept.contents none).0 (zero_more h.writes g);
        unread = λ g none. zero_more h.reads g;
        found = λ other none. number_push_apart h.names name other none;
        text = λ none. record { printed = refl; unprinted = refl };
        wire = λ none. refl;
      };
      steps = λ k low high. before_noted h.keep h.changes (FilePut end bytes) end k low high;
      number = inr (new, refl);
      found = number_push_new h.names name new;
      seen = get_or_push h.contents bytes [] end kept.contents;
      versions = versions_put h.keep h.changes end bytes kept.none;
      quiet = record { shared = refl; reads = zero_more h.reads; writes = zero_more h.writes; prints = refl };
    }

  one_or_none : (keep : Bool) (vs : List (List ℕ)) → vs ≡ (if keep then [] ∷ [] else []) → (vs ≡ []) ⊎ (vs ≡ [] ∷ [])
  one_or_none true vs is = inr is
  one_or_none false vs is = inl is

  -- an empty file was made
  pub has_made : (f : ℕ) → f ≡ end → number_of h.names name ≡ None → HasMade name f (world_of h) (world_of (with_file name [] h))
  has_made f last new =
      let put = has_put_new [] new in
      subst (λ (n : ℕ). HasMade name n (world_of h) (world_of (with_file name [] h))) (sym last) (record {
        call = record {
          run = put.run;
          named = λ given. absurd (omega arith);
          nameless = λ told. nameless;
          absent = λ k low high. put.steps k low high ∙ none_before;
          empty = λ told. put.seen;
          versions = one_or_none h.keep (versions (world_of (with_file name [] h)) end) put.versions;
          found = λ told. inr (new, put.found);
        };
        given = record { below = omega (arith, length_push h.names name); named = get_or_push h.names name [] end refl };
        was_free = λ told. new;
        is_found = λ told. put.found;
        versions = put.versions;
      })

-- another content of a file that was there
pub has_put_old : (name bytes : List ℕ) (f : ℕ) (h : Held) → IsKept h → number_of h.names name ≡ Some f → HasPut name bytes f (world_of h) (world_of (with_content f bytes h))
has_put_old name bytes f h kept old = record {
  run = run_noted (making name f) f h (with_content f bytes h) (FilePut f bytes ∷ []) refl refl refl refl refl refl refl
      (λ g none. ((λ vs. elsewhere f g (bytes ∷ []) vs none, tt), get_or-set_other h.contents f g bytes [] none));
  steps = λ k low high. before_noted h.keep h.changes (FilePut f bytes) f k low high;
  number = inl old;
  found = old;
  seen = get_or-set_same h.contents f bytes [] (omega (arith, kept.contents, (number_found h.names name f old).0));
  versions = versions_put h.keep h.changes f bytes kept.none;
  quiet = record { shared = refl; reads = λ g. refl; writes = λ g. refl; prints = refl };
}

-- ---- in two steps: g is what it held when the call was counted

pub stepped : (P : Held → Type 0) (step : Held → Held) (h g k : Held) → g ≡ h → k ≡ step g → P (step h) → P k
stepped P step h g k same is stands = subst P (sym (is ∙ ap step same)) stands
