-- Data over stored clusters next to one another.
use Rattle.std.proofs.Common.{◌≡◌, ◌⊎◌, inl, inr, ⊎_elim, ℕ, zero, suc, ◌+◌, ◌-◌, ◌*◌, ◌<◌, ◌≤◌, IsTrue, List, ◌∷◌, length, sym, ◌∙◌, ap, arith}
use Rattle.std.proofs.lemmas.Bool.{cases_lt}
use Rattle.disk_model.specs.Files.{byte, reading, overlay, AgreesAt, IsTorn}
use Rattle.disk_model.specs.World.{World, IsSound, Writes, HasWritten, EachSince, Leads}
use Rattle.disk_model.proofs.Laws.{IsMixed, write_leads, length-overlay_inside, byte-overlay_in, byte-overlay_outside, length-reading, byte-reading}
use Rattle.image_model.specs.Clusters.{Shape, size, per, place, Block, Guest, Use, Of, SameIn, IsShape, Lies, Forms, host, guest, word_of, ShowsAs, IsKept, IsGood, IsSafe, Standing}
use Rattle.image_model.specs.Calls.{Shows, IsPartly}
use Rattle.image_model.specs.Runs.{LeavesRest}
use Rattle.image_model.specs.Rows.{IsOverwriting}
use Rattle.image_steps.proofs.Places.{Spares, Elsewhere, within, torn_spares, spares_more, place_next, place_more, place_step, sector_at}
use Rattle.image_steps.proofs.Steps.{taken_of, data_keeps, quiet_forms, zeros_on}
use Rattle.image_steps.proofs.Good.{safe, more_safe, more_good, is_shown}
use Rattle.image_steps.proofs.Calls.{mixed_now}
use Rattle.image_steps.proofs.Standing.{places, still_linked, leads_stand}
use Rattle.image_steps.proofs.Kept.{locate, both_none, both_some, both_same, shown, guest_some}
use Rattle.image_steps.proofs.Links.{SameWords, words_by, words_on, keeps_words}
use Rattle.image_steps.proofs.Naming.{quiet_entry, same_host}
use Rattle.image_steps.proofs.Neighbours.{In, Out, where_is}

-- ---- roles and entries

-- a change that leaves the roles and all words of tables
pub record Stays (s : Shape) (role : ℕ → Use) (old new : List ℕ) : Type 0 where
  pub lies : Lies s role new
  pub forms : Forms s new
  pub words : SameWords s old new
  pub entries : (x y : ℕ) → x < s.tables → y < per s → word_of s new x y ≡ word_of s old x y

-- one in the clusters of a guest's
stays_by : (s : Shape) → 0 < s.sectors → (role : ℕ → Use) (old new : List ℕ) → Lies s role old → Forms s old → (i j : ℕ) → Elsewhere s role (Of (Guest i j)) old new → Stays s role old new
stays_by s some role old new lies forms i j elsewhere = record {
  lies = data_keeps s some role old new lies (Of (Guest i j)) elsewhere tt (λ i e. cc) (zeros_on s some role old new lies (Of (Guest i j)) elsewhere (λ x. x));
  forms = quiet_forms s some role old new lies (Of (Guest i j)) elsewhere tt forms;
  words = words_by s some role old new lies (Of (Guest i j)) elsewhere (λ e. cc) (λ e. cc);
  entries = quiet_entry s some role old new lies forms (Of (Guest i j)) elsewhere (λ e. cc) (λ n e. cc);
}

-- a file between: cluster q as it was, and the rest as it is
record Middle (s : Shape) (q : ℕ) (old new mid : List ℕ) : Type 0 where
  pub long : length mid ≡ length new
  pub here : SameIn s q old mid
  pub beside : (x : ℕ) → (x < place s q) ⊎ (place s q + size s ≤ x) → byte mid x ≡ byte new x

middle : (s : Shape) (q : ℕ) (old new : List ℕ) → place s q + size s ≤ length new → Middle s q old new (overlay new (place s q) (reading old (place s q) (size s)))
middle s q old new inside =
    let part = reading old (place s q) (size s) in
    let long : length (reading old (place s q) (size s)) ≡ size s = length-reading old (place s q) (size s) in
    record {
      long = length-overlay_inside new (place s q) part (omega (arith, long, inside));
      here = λ x low high.
          let back : place s q + (x - place s q) ≡ x = omega (arith, low) in
          byte-overlay_in new (place s q) part x low (omega (arith, long, high)) ∙ byte-reading old (place s q) (size s) (x - place s q) (omega (arith, low, high)) ∙ ap (byte old) back;
      beside = λ x out. byte-overlay_outside new (place s q) part x (⊎_elim (λ below. inl below) (λ past. inr (omega (arith, long, past))) out);
    }

-- in clusters k to k + n, those of guest clusters (i, j) to (i, j + n)
row_stays : (s : Shape) → 0 < s.sectors → (role : ℕ → Use) (old new : List ℕ) → Lies s role old → Forms s old → (k i j n : ℕ) → ((m : ℕ) → m < n → role (k + m) ≡ Of (Guest i (j + m)))
    → Spares (place s k) (place s (k + n) - place s k) old new → Stays s role old new
row_stays s some role old new lies forms k i j zero owners spares =
    let none : place s (k + 0) ≡ place s k = (let e : k + 0 ≡ k = omega arith in ap (place s) e) in
    stays_by s some role old new lies forms i j (record { longer = spares.longer; same = λ q differ x low high. spares.bytes x (elim (cases_lt x (place s k)) [ inl below ↦ inl below | inr past ↦ inr (omega (arith, past, none)) ]) })
row_stays s some role old new lies forms k i j (suc n) owners spares =
    let q = k + n in
    let mid = overlay new (place s q) (reading old (place s q) (size s)) in
    let step : place s (k + suc n) ≡ place s q + size s = (let e : k + suc n ≡ q + 1 = omega arith in ap (place s) e ∙ place_next s q) in
    let more : place s k ≤ place s q = place_more s k q (omega arith) in
    let owner : role q ≡ Of (Guest i (j + n)) = owners n (omega arith) in
    let long = (lies.used q (taken_of role q (Guest i (j + n)) owner) (λ b e. absurd (not_block (role q) b owner e))).inside in
    let at = middle s q old new (omega (arith, long, spares.longer)) in
    let first : Stays s role old mid = row_stays s some role old mid lies forms k i j n (λ m m_in. owners m (omega (arith, m_in))) (record {
      longer = omega (arith, spares.longer, at.long);
      bytes = λ x out. elim (cases_lt x (place s q)) [
        | inl below ↦ at.beside x (inl below) ∙ spares.bytes x (⊎_elim (λ low. inl low) (λ past. absurd (omega (arith, past, below, more))) out)
        | inr from ↦ elim (cases_lt x (place s q + size s)) [
          | inl to ↦ at.here x (omega (arith, from)) to
          | inr past ↦ at.beside x (inr (omega (arith, past))) ∙ spares.bytes x (inr (omega (arith, past, step, more)))
        ]
      ];
    }) in
    let second : Stays s role mid new = stays_by s some role mid new first.lies first.forms i (j + n) (within s role (Of (Guest i (j + n))) q mid new owner (record {
      longer = omega (arith, at.long);
      bytes = λ x out. sym (at.beside x out);
    })) in
    record {
      lies = second.lies;
      forms = second.forms;
      words = words_on s old mid new first.words second.words;
      entries = λ x y x_in y_in. second.entries x y x_in y_in ∙ first.entries x y x_in y_in;
    }
  where
    not_block : (u : Use) (b : ℕ) → u ≡ Of (Guest i (j + n)) → u ≡ Of (Block b) → ⊥
    not_block u b x y = cc

-- ---- what the disk shows

module _ (s : Shape) (shape : IsShape s) (role : ℕ → Use) (k i0 j0 n at : ℕ) (bytes : List ℕ) (first : 0 < k) (low : place s k ≤ at) (high : at + length bytes ≤ place s (k + n)) (owners : (m : ℕ) → m < n → role (k + m) ≡ Of (Guest i0 (j0 + m))) where
  spares : (old new : List ℕ) → IsTorn at bytes old new → Spares (place s k) (place s (k + n) - place s k) old new
  spares old new torn = spares_more at (length bytes) (place s k) (place s (k + n) - place s k) old new low (omega (arith, high, place_more s k (k + n) (omega arith))) (torn_spares at bytes old new torn)

  pub run_stays : (old new : List ℕ) → Lies s role old → Forms s old → IsTorn at bytes old new → Stays s role old new
  run_stays old new lies forms torn = row_stays s shape.some role old new lies forms k i0 j0 n owners (spares old new torn)

  pub run_host : (old new : List ℕ) → Lies s role old → Forms s old → IsTorn at bytes old new → (x y : ℕ) → x < s.tables → y < per s → host s new x y ≡ host s old x y
  run_host old new lies forms torn x y x_in y_in = same_host s old new x y ((run_stays old new lies forms torn).entries x y x_in y_in)

  pub run_inside : (old : List ℕ) → Lies s role old → (m : ℕ) → m < n → place s (k + m) + size s ≤ length old
  run_inside old lies m m_in = (lies.used (k + m) (taken_of role (k + m) (Guest i0 (j0 + m)) (owners m m_in)) (λ b e. absurd (not_block (role (k + m)) b (j0 + m) (owners m m_in) e))).inside
    where
      not_block : (u : Use) (b y : ℕ) → u ≡ Of (Guest i0 y) → u ≡ Of (Block b) → ⊥
      not_block u b y x z = cc

  out_same : (old new : List ℕ) → IsTorn at bytes old new → (c : ℕ) → (c < k) ⊎ (k + n ≤ c) → SameIn s c old new
  out_same old new torn c out x from to = (spares old new torn).bytes x (⊎_elim
      (λ (below : c < k). inl (omega (arith, place_step s c k below, to)))
      (λ (past : k + n ≤ c). inr (omega (arith, place_more s (k + n) c past, place_more s k (k + n) (omega arith), from)))
      out)

  -- guest cluster (x, y) is one of those, in a file
  record Here (old : List ℕ) (x y : ℕ) : Type 0 where
    pub m : ℕ
    pub inside : m < n
    pub row : x ≡ i0
    pub slot : y ≡ j0 + m
    pub is : host s old x y ≡ place s (k + m)

  -- or it shows what it showed
  here : (old new : List ℕ) → Lies s role old → Forms s old → IsTorn at bytes old new → (x y : ℕ) → x < s.tables → y < per s → ((o : ℕ) → o < s.sectors → ShowsAs s x y o new old) ⊎ Here old x y
  here old new lies forms torn x y x_in y_in = elim (locate s old x y shape.some forms x_in y_in) [
    | inl none ↦ inl (λ o o_in. both_none s x y o new old (run_host old new lies forms torn x y x_in y_in ∙ none) none)
    | inr there ↦ elim (where_is k n there.cluster) [
      | Out out ↦ inl (λ o o_in.
          both_same s x y o there.cluster new old shape.some there.is.some o_in (out_same old new torn there.cluster out) (run_host old new lies forms torn x y x_in y_in ∙ there.at) there.at)
      | In m m_in is ↦
          let owner : Of (Guest x y) ≡ Of (Guest i0 (j0 + m)) = sym (lies.refs (Guest x y) there.cluster there.is) ∙ ap role is ∙ owners m m_in in
          inr (record { m = m; inside = m_in; row = row_of x y (j0 + m) owner; slot = slot_of x y (j0 + m) owner; is = there.at ∙ ap (place s) is })
    ]
  ]
    where
      row_of : (x y z : ℕ) → Of (Guest x y) ≡ Of (Guest i0 z) → x ≡ i0
      row_of x y z e = cc

      slot_of : (x y z : ℕ) → Of (Guest x y) ≡ Of (Guest i0 z) → y ≡ z
      slot_of x y z e = cc

  pub run_others : (old new : List ℕ) → Lies s role old → Forms s old → IsTorn at bytes old new → (x y o : ℕ) → x < s.tables → y < per s → o < s.sectors → (x ≡ i0 → j0 ≤ y → y < j0 + n → ⊥) → ShowsAs s x y o new old
  run_others old new lies forms torn x y o x_in y_in o_in other = ⊎_elim
      (λ (same : (o : ℕ) → o < s.sectors → ShowsAs s x y o new old). same o o_in)
      (λ (h : Here old x y). absurd (other h.row (omega (arith, h.slot)) (omega (arith, h.slot, h.inside))))
      (here old new lies forms torn x y x_in y_in)

  run_kept : (kept : List (List ℕ)) (now old new : List ℕ) → Lies s role old → Forms s old → IsTorn at bytes old new → IsMixed old now new → ((m : ℕ) → m < n → host s now i0 (j0 + m) ≡ place s (k + m)) → IsKept s kept old → IsKept s kept now → IsKept s kept new
  run_kept kept now old new lies forms torn mixed at_now was is_now x y o x_in y_in o_in = ⊎_elim
      (λ (same : (o : ℕ) → o < s.sectors → ShowsAs s x y o new old). shown s x y o new old kept (same o o_in) (was x y o x_in y_in o_in))
      (λ (h : Here old x y).
      let more : 0 < k + h.m = omega (arith, first) in
      let inside : place s (k + h.m) + size s ≤ length new = omega (arith, run_inside old lies h.m h.inside, torn.no_shorter) in
      let is_new : host s new x y ≡ place s (k + h.m) = run_host old new lies forms torn x y x_in y_in ∙ h.is in
      let of_now : host s now x y ≡ place s (k + h.m) = ap (λ (v : ℕ). host s now v y) h.row ∙ ap (host s now i0) h.slot ∙ at_now h.m h.inside in
      ⊎_elim
      (λ (as_old : AgreesAt (s.sectors * (k + h.m) + o) new old). shown s x y o new old kept (both_some s x y o (k + h.m) new old shape.some more o_in inside is_new h.is as_old) (was x y o x_in y_in o_in))
      (λ (as_now : AgreesAt (s.sectors * (k + h.m) + o) new now). shown s x y o new now kept (both_some s x y o (k + h.m) new now shape.some more o_in inside is_new of_now as_now) (is_now x y o x_in y_in o_in))
      (mixed (s.sectors * (k + h.m) + o)))
      (here old new lies forms torn x y x_in y_in)

  pub run_good : (disks : List (List ℕ)) → i0 < s.tables → j0 + n ≤ per s → (before now old new : List ℕ) → IsGood s role disks before → ((m : ℕ) → m < n → host s before i0 (j0 + m) ≡ place s (k + m)) → IsTorn at bytes before now
      → IsGood s role disks old → IsTorn at bytes old new → IsMixed old now new → IsGood s role (now ∷ disks) new
  run_good disks i_in slots before now old new is there torn_now good torn mixed = record {
    lies = (run_stays old new good.lies good.forms torn).lies;
    forms = (run_stays old new good.lies good.forms torn).forms;
    kept = run_kept (now ∷ disks) now old new good.lies good.forms torn mixed
        (λ m m_in. run_host before now is.lies is.forms torn_now i0 (j0 + m) i_in (omega (arith, slots, m_in)) ∙ there m m_in)
        (more_good s role disks now old good).kept (is_shown s disks now);
  }

-- ---- the call

module _ {s : Shape} {disks : List (List ℕ)} {first last k n i j at f : ℕ} {bytes : List ℕ} {a b : World} (is : IsOverwriting s k n i j at (length bytes) f a) (sound : IsSound a) (sound_b : IsSound b) (call : Writes f at bytes a b)
    (told : IsTrue a.tells) (st : Standing s disks first last f a) where
  data_owners : (m : ℕ) → m < n → st.role (k + m) ≡ Of (Guest i (j + m))
  data_owners m m_in = st.seen.lies.refs (Guest i (j + m)) (k + m) (is.there told m m_in).is

  in_table : (m : ℕ) → m < n → j + m < per s
  in_table m m_in = omega (arith, is.slots, m_in)

  all_stays : Stays s st.role (a.seen f) (b.seen f)
  all_stays = run_stays s is.shape st.role k i j n at bytes is.some is.low is.high data_owners (a.seen f) (b.seen f) st.seen.lies st.seen.forms (call.torn told)

  pub run_words : SameWords s (a.seen f) (b.seen f)
  run_words = all_stays.words

  pub run_entries : (m : ℕ) → m < n → word_of s (b.seen f) i (j + m) ≡ word_of s (a.seen f) i (j + m)
  run_entries m m_in = all_stays.entries i (j + m) is.index (in_table m m_in)

  pub run_leaves : LeavesRest s i j n (a.seen f) (b.seen f)
  run_leaves = record {
    keeps = keeps_words s (a.seen f) (b.seen f) run_words;
    entries = λ x y x_in y_in other. all_stays.entries x y x_in y_in;
    disk = run_others s is.shape st.role k i j n at bytes is.some is.low is.high data_owners (a.seen f) (b.seen f) st.seen.lies st.seen.forms (call.torn told);
  }

  run_leads : Leads f (IsGood s st.role disks) (IsGood s st.role disks) (IsSafe s (b.seen f ∷ disks)) (IsGood s st.role (b.seen f ∷ disks)) (IsGood s st.role (b.seen f ∷ disks)) a b
  run_leads =
      write_leads (IsGood s st.role disks) (IsGood s st.role disks) (IsSafe s (b.seen f ∷ disks)) (IsGood s st.role (b.seen f ∷ disks)) (IsGood s st.role (b.seen f ∷ disks)) sound sound_b call
      (λ c good. more_safe s disks (b.seen f) c (safe s st.role disks c good)) (λ c good. safe s st.role (b.seen f ∷ disks) c good)
      (λ good torn. (
        step (a.seen f) (b.seen f) torn good torn (mixed_now (a.seen f) (b.seen f)),
        λ old new old_good old_torn mixed. step old new torn old_good old_torn mixed,
      ))
    where
      step : (old new : List ℕ) → IsTorn at bytes (a.seen f) (b.seen f) → IsGood s st.role disks old → IsTorn at bytes old new → IsMixed old (b.seen f) new → IsGood s st.role (b.seen f ∷ disks) new
      step old new torn good old_torn mixed =
          run_good s is.shape st.role k i j n at bytes is.some is.low is.high data_owners disks is.index is.slots (a.seen f) (b.seen f) old new st.seen (λ m m_in. (is.there told m m_in).at) torn good old_torn mixed

  pub run_overwritten : EachSince b a.now f (IsSafe s (b.seen f ∷ disks)) × Standing s (b.seen f ∷ disks) first last f b
  run_overwritten = leads_stand st st.role (places st) call.run told (still_linked st (b.seen f) run_leaves.keeps.blocks) run_leads

  more : (m : ℕ) → 0 < k + m
  more m = omega (arith, is.some)

  host_new : (m : ℕ) → m < n → host s (b.seen f) i (j + m) ≡ place s (k + m)
  host_new m m_in = same_host s (a.seen f) (b.seen f) i (j + m) (run_entries m m_in) ∙ (is.there told m m_in).at

  pub run_shows : HasWritten f at bytes a b → (m : ℕ) → m < n → Shows s i (j + m) (k + m) at bytes (guest s (a.seen f) i (j + m)) (b.seen f)
  run_shows wrote m m_in = record {
    inside = λ t t_in low high.
        guest_some s (b.seen f) i (j + m) t (k + m) is.shape.some (more m) (host_new m m_in) ∙ ap (λ (c : List ℕ). byte c (place s (k + m) + t)) (wrote.seen told)
        ∙ byte-overlay_in (a.seen f) at bytes (place s (k + m) + t) low high;
    outside = λ t t_in out.
        guest_some s (b.seen f) i (j + m) t (k + m) is.shape.some (more m) (host_new m m_in) ∙ ap (λ (c : List ℕ). byte c (place s (k + m) + t)) (wrote.seen told)
        ∙ byte-overlay_outside (a.seen f) at bytes (place s (k + m) + t) out
        ∙ sym (guest_some s (a.seen f) i (j + m) t (k + m) is.shape.some (more m) (is.there told m m_in).at);
  }

  pub run_partly : (m : ℕ) → m < n → IsPartly s i (j + m) (k + m) at bytes (a.seen f) (b.seen f)
  run_partly m m_in o o_in =
      let long : place s (k + m) + size s ≤ length (a.seen f) = run_inside s is.shape st.role k i j n at bytes is.some is.low is.high data_owners (a.seen f) st.seen.lies m m_in in
      ⊎_elim
      (λ (as_old : AgreesAt (s.sectors * (k + m) + o) (b.seen f) (a.seen f)). inl (λ t low high.
      guest_some s (b.seen f) i (j + m) t (k + m) is.shape.some (more m) (host_new m m_in)
      ∙ as_old (place s (k + m) + t) (omega (arith, sector_at s (k + m) o, low)) (omega (arith, sector_at s (k + m) o, high)) (omega (arith, long, (call.torn told).no_shorter, o_in, high))
      ∙ sym (guest_some s (a.seen f) i (j + m) t (k + m) is.shape.some (more m) (is.there told m m_in).at)))
      (λ (as_new : AgreesAt (s.sectors * (k + m) + o) (b.seen f) (overlay (a.seen f) at bytes)). inr (λ t low high.
      guest_some s (b.seen f) i (j + m) t (k + m) is.shape.some (more m) (host_new m m_in)
      ∙ as_new (place s (k + m) + t) (omega (arith, sector_at s (k + m) o, low)) (omega (arith, sector_at s (k + m) o, high)) (omega (arith, long, (call.torn told).no_shorter, o_in, high))))
      ((call.torn told).sectors (s.sectors * (k + m) + o))
