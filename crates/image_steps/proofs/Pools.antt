-- Calls on counts.
use Rattle.std.proofs.Common.{◌≡◌, ◌≢◌, ◌⊎◌, inl, inr, ⊎_elim, ℕ, ◌+◌, ◌-◌, ◌*◌, ◌/◌, ◌<◌, ◌≤◌, IsTrue, Bool, List, [], ◌∷◌, length, Result, Ok, Err, IsErr, OnOk, refl, sym, ◌∙◌, ap, subst, arith}
use Rattle.std.proofs.lemmas.Bool.{cases_eq, cases_lt}
use Rattle.std.specs.Int.{from_be_bytes, w16, w64}
use Rattle.disk_model.specs.Files.{u16_at, u64_at, overlay, IsTorn}
use Rattle.disk_model.specs.World.{World, Runs, writes_of, IsSound, Writes, HasWritten, Syncs, HasSynced, EachSince, Leads, Holds}
use Rattle.disk_model.proofs.Laws.{write_leads, sector_leads, sync_leads, synced_exact, lead_on, lead_from, run_on, since_on, torn_length, number-overlay_same, number-overlay_part, one_sector_write}
use Rattle.image_model.specs.Clusters.{Shape, size, each, place, Block, IsBlock, IsCounted, Use, Fresh, Ready, Of, IsTaken, IsShape, IsGood, IsSafe, IsOwn, Standing, IsStanding, Moves, IsOwnCount}
use Rattle.image_model.specs.Calls.{IsToppingUp, IsAddingBlock, IsSettling, AreNamed, Keeps, Resting, Rests, last_after}
use Rattle.image_steps.proofs.Places.{Spares, Elsewhere, spares_more, torn_ends, place_next, torn_spares, within, place_same, place_some, sector_at}
use Rattle.image_steps.proofs.Frame as frame
use Rattle.image_steps.proofs.Links.{SameWords, keeps_on, words_on, keeps_words, words_by, words_block}
use Rattle.image_steps.proofs.Steps.{spared_counts}
use Rattle.image_steps.proofs.Good.{safe, recast, is_shown}
use Rattle.image_model.specs.Calls.{SameGuest, SameTables, SameBlocksBut, LeavesGuest, HasCounts, LeavesCounts, IsBareBlock, CountsNoOther, EndsBy}
use Rattle.image_steps.proofs.Naming.{quiet_alike, alike_on, alike_self}
use Rattle.image_steps.proofs.Calls.{count_inside}
use Rattle.image_steps.proofs.Standing.{put, put_here, put_other, Places, AreLinked, places, same_index, same_own, still_linked, holds_of, stand_on, leads_stand}
use Rattle.image_steps.proofs.Blocks.{topped_counts, topped_growth, topped_up, end_low, end_high, block_row_keeps, block_row_alike, block_growth, block_count, IsPrepared, prepared, block_linked, block_row_counts, block_row_half, growth_bare, count_bare, block_inside, counted_apart, own_change, counted_out, settled_good, keep, kept_taken, kept_none, kept_fresh, kept_block, kept_back, rested}

-- a write that keeps what is good
pub good_leads : (s : Shape) (role : ℕ → Use) (disks : List (List ℕ)) {f at : ℕ} {bytes : List ℕ} {a b : World} → IsSound a → IsSound b → Writes f at bytes a b
    → ((old new : List ℕ) → IsGood s role disks old → IsTorn at bytes old new → IsGood s role disks new) → Leads f (IsGood s role disks) (IsGood s role disks) (IsSafe s disks) (IsGood s role disks) (IsGood s role disks) a b
good_leads s role disks {f} {at} {bytes} {a} {b} sound sound_b call keeps =
    write_leads (IsGood s role disks) (IsGood s role disks) (IsSafe s disks) (IsGood s role disks) (IsGood s role disks) sound sound_b call (safe s role disks) (safe s role disks)
    (λ good torn. (keeps (a.seen f) (b.seen f) good torn, λ old new old_good old_torn mixed. keeps old new old_good old_torn))

pub good_sync : (s : Shape) (role : ℕ → Use) (disks : List (List ℕ)) {f : ℕ} {a b : World} → IsSound a → Syncs f a b → Leads f (IsGood s role disks) (IsGood s role disks) (IsSafe s disks) (IsGood s role disks) (IsGood s role disks) a b
good_sync s role disks sound call = sync_leads (IsGood s role disks) (IsGood s role disks) (IsSafe s disks) sound call (safe s role disks)

-- ---- fresh clusters become ready

module _ {s : Shape} {disks : List (List ℕ)} {first last q i low n spot finish f : ℕ} {counts : List ℕ} {a b : World} (is : IsToppingUp s last q i low n spot finish f counts a) (sound : IsSound a) (sound_b : IsSound b) (grows : Writes f finish (0 ∷ []) a b)
    (told : IsTrue a.tells) (st : Standing s disks first last f a) where
  block_role : st.role q ≡ Of (Block i)
  block_role = st.seen.lies.refs (Block i) q (is.block told)

  fresh_here : (m : ℕ) → last ≤ m → m < last + n → st.role m ≡ Fresh
  fresh_here m from to = elim (cases_eq m last) [
    | inr differ ↦ st.fresh m (omega (arith, from, differ))
    | inl same ↦ ⊎_elim
        (λ (fresh : st.role last ≡ Fresh). ap st.role same ∙ fresh)
        (λ (own : IsOwn s st.role last).
        let count : IsOwnCount s i last = record { slot = low; inside = omega (arith, is.call.within, is.call.some); is = is.call.from } in
        let index : own.0 ≡ i = same_own s own.0 i last own.1 count in
        let same_block : last ≡ q = st.one i last q (subst (λ (x : ℕ). st.role last ≡ Of (Block x)) index own.2) block_role in
        absurd (⊎_elim (λ before. omega (arith, same_block, before)) (λ behind. omega (arith, same_block, is.call.some, behind)) is.call.apart))
        st.edge
  ]

  growth : Leads f (IsGood s st.role disks) (IsGood s st.role disks) (IsSafe s disks) (IsGood s st.role disks) (IsGood s st.role disks) a b
  growth = good_leads s st.role disks sound sound_b grows (λ old new good torn. topped_growth is.call is.shape.some st.role block_role disks counts is.long fresh_here (0 ∷ []) old new refl refl good torn)

  told_here : IsTrue b.tells
  told_here = subst IsTrue (sym grows.run.goes.tells) told

  good_here : IsGood s st.role disks (b.seen f)
  good_here = (growth.after (holds_of st)).seen told_here

  growth_apart : Elsewhere s st.role Fresh (a.seen f) (b.seen f)
  growth_apart =
      within s st.role Fresh (last + n - 1) (a.seen f) (b.seen f) (fresh_here (last + n - 1) (omega (arith, is.call.some)) (omega (arith, is.call.some)))
      (spares_more finish 1 (place s (last + n - 1)) (size s) (a.seen f) (b.seen f) (end_low is.call is.shape.some st.role block_role disks counts is.long fresh_here) (end_high is.call is.shape.some st.role block_role disks counts is.long fresh_here)
      (torn_spares finish (0 ∷ []) (a.seen f) (b.seen f) (grows.torn told)))

  pub top_growth_words : SameWords s (a.seen f) (b.seen f)
  top_growth_words = words_by s is.shape.some st.role (a.seen f) (b.seen f) st.seen.lies Fresh growth_apart (λ e. cc) (λ e. cc)

  top_growth_keeps : Keeps s (a.seen f) (b.seen f)
  top_growth_keeps = keeps_words s (a.seen f) (b.seen f) top_growth_words

  top_growth_alike : SameGuest s (a.seen f) (b.seen f)
  top_growth_alike = quiet_alike s is.shape.some st.role (a.seen f) (b.seen f) st.seen.lies st.seen.forms Fresh growth_apart (λ e. cc) (λ x e. cc) (λ x y e. cc)

  pub top_growth_others : LeavesCounts s last n (a.seen f) (b.seen f)
  top_growth_others k many c out = spared_counts s is.shape.some st.role (a.seen f) (b.seen f) st.seen.lies Fresh growth_apart (λ e. cc) (λ x e. cc) k many c

  pub top_growth_ends : EndsBy finish (a.seen f) (b.seen f)
  top_growth_ends = torn_ends finish (0 ∷ []) (a.seen f) (b.seen f) (omega arith) (grows.torn told)

  pub top_growth_leaves : LeavesGuest s (a.seen f) (b.seen f)
  top_growth_leaves = record { keeps = top_growth_keeps; alike = top_growth_alike }

  pub top_growth : EachSince b a.now f (IsSafe s disks) × Standing s disks first last f b
  top_growth = leads_stand st st.role (places st) grows.run told (still_linked st (b.seen f) top_growth_keeps.blocks) growth

  module _ {d : World} (sound_d : IsSound d) (counted : Writes f spot counts b d) where
    counts_torn : IsTorn spot counts (b.seen f) (d.seen f)
    counts_torn = counted.torn told_here

    counts_narrow : Spares (place s q + 2 * low) (2 * n) (b.seen f) (d.seen f)
    counts_narrow = spares_more spot (length counts) (place s q + 2 * low) (2 * n) (b.seen f) (d.seen f) (omega (arith, is.call.spot_is)) (omega (arith, is.call.spot_is, is.long)) (torn_spares spot counts (b.seen f) (d.seen f) counts_torn)

    counts_around : Spares (place s q) (size s) (b.seen f) (d.seen f)
    counts_around = spares_more (place s q + 2 * low) (2 * n) (place s q) (size s) (b.seen f) (d.seen f) (omega arith) (omega (arith, is.call.within)) counts_narrow

    counts_apart : Elsewhere s st.role (Of (Block i)) (b.seen f) (d.seen f)
    counts_apart = within s st.role (Of (Block i)) q (b.seen f) (d.seen f) block_role counts_around

    pub top_counts_words : SameWords s (a.seen f) (d.seen f)
    top_counts_words =
        words_on s (a.seen f) (b.seen f) (d.seen f) top_growth_words
        (words_by s is.shape.some st.role (b.seen f) (d.seen f) good_here.lies (Of (Block i)) counts_apart (λ e. cc) (λ e. cc))

    top_counts_keep : Keeps s (a.seen f) (d.seen f)
    top_counts_keep = keeps_words s (a.seen f) (d.seen f) top_counts_words

    top_counts_alike : SameGuest s (a.seen f) (d.seen f)
    top_counts_alike =
        alike_on s (a.seen f) (b.seen f) (d.seen f) top_growth_alike
        (quiet_alike s is.shape.some st.role (b.seen f) (d.seen f) good_here.lies good_here.forms (Of (Block i)) counts_apart (λ e. cc) (λ x e. cc) (λ x y e. cc))

    pub top_counts_others : LeavesCounts s last n (a.seen f) (d.seen f)
    top_counts_others k many c out =
        counted_out s is.shape.some st.role (b.seen f) (d.seen f) good_here.lies q i block_role counts_around low n counts_narrow k many (top_growth_others k many c out)
        (subst (λ (l : ℕ). (k < l) ⊎ (l + n ≤ k)) is.call.from out)

    -- the block lies in the file
    pub top_counts_ends : EndsBy finish (a.seen f) (d.seen f)
    top_counts_ends =
        let linked : IsBlock s (b.seen f) i q = top_growth_keeps.blocks i q (is.block told) in
        omega (
          arith,
          top_growth_ends,
          torn_length spot counts (b.seen f) (d.seen f) counts_torn
              (omega (arith, is.call.spot_is, is.call.within, is.long, block_inside s st.role q i (b.seen f) block_role linked good_here.lies)),
        )

    pub top_counts_leave : LeavesGuest s (a.seen f) (d.seen f)
    top_counts_leave = record { keeps = top_counts_keep; alike = top_counts_alike }

    counting : Leads f (IsGood s st.role disks) (IsGood s st.role disks) (IsSafe s disks) (IsGood s st.role disks) (IsGood s st.role disks) a d
    counting = lead_on grows.run counted.run growth
        (good_leads s st.role disks sound_b sound_d counted (λ old new good torn. topped_counts is.call is.shape.some st.role block_role disks counts is.long fresh_here old new good torn))

    pub top_counts : EachSince d a.now f (IsSafe s disks) × Standing s disks first last f d
    top_counts = leads_stand st st.role (places st) (run_on grows.run counted.run) told (still_linked st (d.seen f) top_counts_keep.blocks) counting

    module _ {e : World} (sound_e : IsSound e) (syncs : Syncs f d e) where
      all_run : Runs (writes_of f) a e
      all_run = run_on (run_on grows.run counted.run) syncs.run

      syncing : Leads f (IsGood s st.role disks) (IsGood s st.role disks) (IsSafe s disks) (IsGood s st.role disks) (IsGood s st.role disks) a e
      syncing = lead_on (run_on grows.run counted.run) syncs.run counting (good_sync s st.role disks sound_d syncs)

      top_sync_keeps : (x y : ℕ) → IsBlock s (a.seen f) x y → IsBlock s (e.seen f) x y
      top_sync_keeps x y was = subst (λ (c : List ℕ). IsBlock s c x y) (sym syncs.seen) (top_counts_keep.blocks x y was)

      pub top_sync : EachSince e a.now f (IsSafe s disks) × Standing s disks first last f e
      top_sync = leads_stand st st.role (places st) all_run told (still_linked st (e.seen f) top_sync_keeps) syncing

      role_on : ℕ → Use
      role_on m = ⊎_elim (λ before. st.role m) (λ from. ⊎_elim (λ to. Ready) (λ past. st.role m) (cases_lt m (last + n))) (cases_lt m last)

      role_ready : (m : ℕ) → last ≤ m → m < last + n → role_on m ≡ Ready
      unfolding role_on
      role_ready m from to = elim (cases_lt m last) as (λ side. ⊎_elim (λ before. st.role m) (λ from. ⊎_elim (λ to. Ready) (λ past. st.role m) (cases_lt m (last + n))) side ≡ Ready) [
        | inl before ↦ absurd (omega arith)
        | inr from ↦ elim (cases_lt m (last + n)) as (λ side. ⊎_elim (λ to. Ready) (λ past. st.role m) side ≡ Ready) [ inl to ↦ refl | inr past ↦ absurd (omega arith) ]
      ]

      role_other : (m : ℕ) → (m < last) ⊎ (last + n ≤ m) → role_on m ≡ st.role m
      unfolding role_on
      role_other m out = elim (cases_lt m last) as (λ side. ⊎_elim (λ before. st.role m) (λ from. ⊎_elim (λ to. Ready) (λ past. st.role m) (cases_lt m (last + n))) side ≡ st.role m) [
        | inl before ↦ refl
        | inr from ↦ elim (cases_lt m (last + n)) as (λ side. ⊎_elim (λ to. Ready) (λ past. st.role m) side ≡ st.role m) [ inl to ↦ absurd (⊎_elim (λ x. omega arith) (λ x. omega arith) out) | inr past ↦ refl ]
      ]

      role_block : (x m : ℕ) → role_on m ≡ Of (Block x) → st.role m ≡ Of (Block x)
      role_block x m e = elim (cases_lt m last) [
        | inl before ↦ sym (role_other m (inl before)) ∙ e
        | inr from ↦ elim (cases_lt m (last + n)) [
          | inr past ↦ sym (role_other m (inr past)) ∙ e
          | inl to ↦ absurd (ready_block (role_on m) (role_ready m from to) e)
        ]
      ]
        where
          ready_block : (u : Use) → u ≡ Ready → u ≡ Of (Block x) → ⊥
          ready_block u g h = cc

      not_both : (u : Use) (x : ℕ) → u ≡ Ready → u ≡ Of (Block x) → ⊥
      not_both u x g h = cc

      role_places : Places s role_on first (last + n)
      role_places = record {
        order = omega (arith, st.order);
        ready = λ m low_m high. elim (cases_lt m last) [
          | inr from ↦ inl (role_ready m from high)
          | inl before ↦ ⊎_elim (λ (r : st.role m ≡ Ready). inl (role_other m (inl before) ∙ r)) (λ (own : IsOwn s st.role m). inr (own.0, own.1, role_other m (inl before) ∙ own.2)) (st.ready m low_m before)
        ];
        edge = inl (role_other (last + n) (inr (omega arith)) ∙ st.fresh (last + n) (omega (arith, is.call.some)));
        fresh = λ m from. role_other m (inr (omega (arith, from))) ∙ st.fresh m (omega (arith, from));
        one = λ x g h is_g is_h. st.one x g h (role_block x g is_g) (role_block x h is_h);
      }

      pub top_done : HasWritten f finish (0 ∷ []) a b → HasWritten f spot counts b d → HasSynced f d e → EachSince e a.now f (IsSafe s disks) × Standing s disks first (last + n) f e
      top_done wrote_b wrote_d synced =
          let told_b : IsTrue b.tells = subst IsTrue (sym grows.run.goes.tells) told in
          let new : e.seen f ≡ overlay (overlay (a.seen f) finish (0 ∷ [])) spot counts = syncs.seen ∙ wrote_d.seen told_b ∙ ap (λ (c : List ℕ). overlay c spot counts) (wrote_b.seen told) in
          let good : IsGood s role_on disks (e.seen f) = subst (IsGood s role_on disks) (sym new)
          (topped_up is.call is.shape.some st.role block_role disks counts is.long fresh_here role_on role_other role_ready is.ones (0 ∷ []) refl refl (a.seen f) st.seen (is.block told)) in (
            syncing.since (holds_of st),
            record {
              role = role_on;
              order = role_places.order;
              ready = role_places.ready;
              edge = role_places.edge;
              fresh = role_places.fresh;
              one = role_places.one;
              linked = λ x m of low_m. top_sync_keeps x m (st.linked x m (role_block x m of) (elim (cases_lt m last) [ inl before ↦ before | inr from ↦ absurd (not_both (role_on m) x (role_ready m from low_m) of) ]));
              seen = good;
              now = λ c left. subst (IsGood s role_on disks) (sym (synced_exact sound_d syncs synced c left)) good;
            },
          )

-- what the end of a call says, by what it answered
pub by_answer : {T E : Type 0} {s : Shape} {disks : List (List ℕ)} {f : ℕ} {a b : World} (I : World → Type 0) (first last n : ℕ) (result : Result T E) (X : Type 0) → OnOk result X
    → Moves f (IsSafe s disks) I (IsStanding s disks first last f) a b → (X → Moves f (IsSafe s disks) I (IsStanding s disks first (last + n) f) a b) → Moves f (IsSafe s disks) I (IsStanding s disks first (last_after result last n) f) a b
by_answer I first last n (Ok value) X done failed made = made done
by_answer I first last n (Err error) X done failed made = failed

pub by_error : {T E : Type 0} {s : Shape} {disks : List (List ℕ)} {f : ℕ} {a b : World} (I : World → Type 0) (first last n : ℕ) (result : Result T E) → IsErr result
    → Moves f (IsSafe s disks) I (IsStanding s disks first last f) a b → Moves f (IsSafe s disks) I (IsStanding s disks first (last_after result last n) f) a b
by_error I first last n (Ok value) error failed = cc
by_error I first last n (Err other) error failed = failed

-- ---- a block of counts

module _ {s : Shape} {disks : List (List ℕ)} {first i last slot spot finish end at word f : ℕ} {a b : World} (is : IsAddingBlock s i last slot spot finish end at word f a) (sound : IsSound a) (sound_b : IsSound b) (grows : Writes f finish (end ∷ []) a b)
    (told : IsTrue a.tells) (st : Standing s disks first last f a) where
  pub role_block_on : ℕ → Use
  role_block_on = put st.role last (Of (Block i))

  here : role_block_on last ≡ Of (Block i)
  unfolding role_block_on
  here = put_here st.role last (Of (Block i))

  other : (m : ℕ) → m ≢ last → role_block_on m ≡ st.role m
  unfolding role_block_on
  other m differ = put_other st.role last (Of (Block i)) m differ

  counts_itself : IsOwnCount s i last
  counts_itself = record { slot = slot; inside = is.call.slot_in; is = is.call.is }

  fresh_block : (u : Use) (x : ℕ) → u ≡ Fresh → u ≡ Of (Block x) → ⊥
  fresh_block u x g h = cc

  -- by what reads give no other cluster is this block
  only_was : (q : ℕ) → st.role q ≡ Of (Block i) → q ≡ last
  only_was q e = elim (cases_eq q last) [
    | inl same ↦ same
    | inr differ ↦ elim (cases_lt q last) [
      | inr past ↦ absurd (fresh_block (st.role q) i (st.fresh q (omega (arith, past, differ))) e)
      | inl before ↦
          let b = st.linked i q e before in
          ⊎_elim
          (λ (none : u64_at (a.seen f) (s.counts + 8 * i) ≡ 0). absurd (omega (arith, b.at, none, place_some s q is.shape.some b.some)))
          (λ (names : u64_at (a.seen f) (s.counts + 8 * i) ≡ place s last). place_same s q last is.shape.some (sym b.at ∙ names))
          (is.missing told)
    ]
  ]

  only : (q : ℕ) → role_block_on q ≡ Of (Block i) → q ≡ last
  only q e = elim (cases_eq q last) [ inl same ↦ same | inr differ ↦ only_was q (sym (other q differ) ∙ e) ]

  -- its cluster is fresh, or has its role
  was : (st.role last ≡ Fresh) ⊎ (st.role last ≡ Of (Block i))
  was = ⊎_elim
      (λ (fresh : st.role last ≡ Fresh). inl fresh)
      (λ (own : IsOwn s st.role last). inr (subst (λ (x : ℕ). st.role last ≡ Of (Block x)) (same_own s own.0 i last own.1 counts_itself) own.2))
      st.edge

  block_good : (c : List ℕ) → IsGood s st.role disks c → IsGood s role_block_on disks c
  block_good c good = record {
    lies = ⊎_elim
        (λ (fresh : st.role last ≡ Fresh). own_change s st.role role_block_on i last c counts_itself fresh here other good.lies)
        (λ (of : st.role last ≡ Of (Block i)). recast s st.role role_block_on c good.lies (λ m. elim (cases_eq m last) [
          | inl same ↦ inl (ap role_block_on same ∙ here ∙ sym of ∙ ap st.role (sym same))
          | inr differ ↦ inl (other m differ)
        ]))
        was;
    forms = good.forms;
    kept = good.kept;
  }

  -- the clusters behind it are fresh
  fresh_behind : (t : ℕ) → slot < t → t < each s → role_block_on (each s * i + t) ≡ Fresh
  fresh_behind t more t_in =
      other (each s * i + t) (λ same. absurd (omega (arith, same, is.call.is, more))) ∙ st.fresh (each s * i + t) (omega (arith, is.call.is, more))

  not_last : (x g : ℕ) → x ≢ i → role_block_on g ≡ Of (Block x) → g ≢ last
  not_last x g differ e same = differ (index_of x (sym e ∙ ap role_block_on same ∙ here))
    where
      index_of : (x : ℕ) → Of (Block x) ≡ Of (Block i) → x ≡ i
      index_of x e = cc

  one_on : (x g h : ℕ) → role_block_on g ≡ Of (Block x) → role_block_on h ≡ Of (Block x) → g ≡ h
  one_on x g h is_g is_h = elim (cases_eq x i) [
    | inl same ↦ only g (is_g ∙ ap (λ (y : ℕ). Of (Block y)) same) ∙ sym (only h (is_h ∙ ap (λ (y : ℕ). Of (Block y)) same))
    | inr differ ↦ st.one x g h (sym (other g (not_last x g differ is_g)) ∙ is_g) (sym (other h (not_last x h differ is_h)) ∙ is_h)
  ]

  own_last : IsOwn s role_block_on last
  own_last = (i, counts_itself, here)

  places_before : Places s role_block_on first last
  places_before = record {
    order = st.order;
    ready = λ m low high. let differ : m ≢ last = (λ same. absurd (omega (arith, same, high))) in
        ⊎_elim (λ (r : st.role m ≡ Ready). inl (other m differ ∙ r)) (λ (own : IsOwn s st.role m). inr (own.0, own.1, other m differ ∙ own.2)) (st.ready m low high);
    edge = inr own_last;
    fresh = λ m from. other m (λ same. absurd (omega (arith, same, from))) ∙ st.fresh m from;
    one = one_on;
  }

  -- blocks before it that were linked are so still
  linked_before : (new : List ℕ) → ((x y : ℕ) → IsBlock s (a.seen f) x y → IsBlock s new x y) → AreLinked s role_block_on last new
  linked_before new keeps x m e low = keeps x m (st.linked x m (sym (other m (λ same. absurd (omega (arith, same, low)))) ∙ e) low)

  places_after : Places s role_block_on first (last + 1)
  places_after = record {
    order = omega (arith, st.order);
    ready = λ m low high. elim (cases_eq m last) [
      | inl same ↦ inr (subst (IsOwn s role_block_on) (sym same) own_last)
      | inr differ ↦ places_before.ready m low (omega (arith, high, differ))
    ];
    edge = inl (places_before.fresh (last + 1) (omega arith));
    fresh = λ m from. places_before.fresh m (omega (arith, from));
    one = one_on;
  }

  abbrev Good : List ℕ → Type 0
  Good = IsGood s role_block_on disks

  abbrev Was : List ℕ → Type 0
  Was = IsGood s st.role disks

  growing : Leads f Was Was (IsSafe s disks) Good Good a b
  growing = lead_from Was Was block_good block_good
      (good_leads s role_block_on disks sound sound_b grows (λ old new good torn. block_growth is.call is.shape.some role_block_on here disks fresh_behind (end ∷ []) old new refl refl good torn))

  good_a : IsGood s role_block_on disks (a.seen f)
  good_a = block_good (a.seen f) st.seen

  told_at_b : IsTrue b.tells
  told_at_b = subst IsTrue (sym grows.run.goes.tells) told

  around_at : (p : ℕ) (bytes x y : List ℕ) → place s last ≤ p → p + length bytes ≤ place s last + size s → IsTorn p bytes x y → Elsewhere s role_block_on (Of (Block i)) x y
  around_at p bytes x y low high torn = within s role_block_on (Of (Block i)) last x y here (spares_more p (length bytes) (place s last) (size s) x y low high (torn_spares p bytes x y torn))

  pub block_words_b : SameWords s (a.seen f) (b.seen f)
  block_words_b = words_by s is.shape.some role_block_on (a.seen f) (b.seen f) good_a.lies (Of (Block i))
      (around_at finish (end ∷ []) (a.seen f) (b.seen f) (omega (arith, is.call.finish_is, place_next s last, is.shape.some)) (omega (arith, is.call.finish_is, place_next s last)) (grows.torn told)) (λ e. cc) (λ e. cc)

  -- the word that is to name the block
  word_stays : (c : List ℕ) → SameWords s (a.seen f) c → u64_at c at ≡ u64_at (a.seen f) at
  word_stays c same = subst (λ (p : ℕ). u64_at c p ≡ u64_at (a.seen f) p) (sym is.call.at_is) (same.1 i is.call.inside)

  pub block_word_b : u64_at (b.seen f) at ≡ u64_at (a.seen f) at
  block_word_b = word_stays (b.seen f) block_words_b

  keeps_b : Keeps s (a.seen f) (b.seen f)
  keeps_b = keeps_words s (a.seen f) (b.seen f) block_words_b

  pub block_leaves_b : LeavesGuest s (a.seen f) (b.seen f)
  block_leaves_b = record {
    keeps = keeps_b;
    alike = quiet_alike s is.shape.some role_block_on (a.seen f) (b.seen f) good_a.lies good_a.forms (Of (Block i))
        (around_at finish (end ∷ []) (a.seen f) (b.seen f) (omega (arith, is.call.finish_is, place_next s last, is.shape.some)) (omega (arith, is.call.finish_is, place_next s last)) (grows.torn told)) (λ e. cc) (λ x e. cc) (λ x y e. cc);
  }

  grows_within : Spares (place s last) (size s) (a.seen f) (b.seen f)
  grows_within =
      spares_more finish 1 (place s last) (size s) (a.seen f) (b.seen f) (omega (arith, is.call.finish_is, place_next s last, is.shape.some)) (omega (arith, is.call.finish_is, place_next s last))
      (torn_spares finish (end ∷ []) (a.seen f) (b.seen f) (grows.torn told))

  pub block_others_b : LeavesCounts s (each s * i) (each s) (a.seen f) (b.seen f)
  block_others_b = counted_apart s is.shape.some role_block_on (a.seen f) (b.seen f) good_a.lies last i here grows_within

  pub block_ends_b : EndsBy finish (a.seen f) (b.seen f)
  block_ends_b = torn_ends finish (end ∷ []) (a.seen f) (b.seen f) (omega arith) (grows.torn told)

  pub block_bare_b : CountsNoOther s i last (a.seen f) → CountsNoOther s i last (b.seen f)
  block_bare_b = growth_bare is.call is.shape.some role_block_on here disks fresh_behind (end ∷ []) (a.seen f) (b.seen f) refl refl (grows.torn told)

  pub block_grown : EachSince b a.now f (IsSafe s disks) × Standing s disks first last f b
  block_grown = leads_stand st role_block_on places_before grows.run told (linked_before (b.seen f) keeps_b.blocks) growing

  module _ {d : World} (sound_d : IsSound d) (counts : Writes f spot (0 ∷ 1 ∷ []) b d) where
    run_d : Runs (writes_of f) a d
    run_d = run_on grows.run counts.run

    counting_d : Leads f Was Was (IsSafe s disks) Good Good a d
    counting_d = lead_on grows.run counts.run growing
        (good_leads s role_block_on disks sound_b sound_d counts (λ old new good torn. block_count is.call is.shape.some role_block_on here disks fresh_behind old new good torn))

    pub block_words_d : SameWords s (a.seen f) (d.seen f)
    block_words_d = words_on s (a.seen f) (b.seen f) (d.seen f) block_words_b
        (words_by s is.shape.some role_block_on (b.seen f) (d.seen f) ((growing.after (holds_of st)).seen told_at_b).lies (Of (Block i))
        (around_at spot (0 ∷ 1 ∷ []) (b.seen f) (d.seen f) (omega (arith, is.call.spot_is)) (omega (arith, is.call.spot_is, is.call.slot_in)) (counts.torn told_at_b)) (λ e. cc) (λ e. cc))

    pub block_word_d : u64_at (d.seen f) at ≡ u64_at (a.seen f) at
    block_word_d = word_stays (d.seen f) block_words_d

    keeps_d : Keeps s (a.seen f) (d.seen f)
    keeps_d = keeps_words s (a.seen f) (d.seen f) block_words_d

    good_b : Good (b.seen f)
    good_b = (growing.after (holds_of st)).seen told_at_b

    pub block_leaves_d : LeavesGuest s (a.seen f) (d.seen f)
    block_leaves_d = record {
      keeps = keeps_d;
      alike = alike_on s (a.seen f) (b.seen f) (d.seen f) block_leaves_b.alike
          (quiet_alike s is.shape.some role_block_on (b.seen f) (d.seen f) good_b.lies good_b.forms (Of (Block i))
          (around_at spot (0 ∷ 1 ∷ []) (b.seen f) (d.seen f) (omega (arith, is.call.spot_is)) (omega (arith, is.call.spot_is, is.call.slot_in)) (counts.torn told_at_b)) (λ e. cc) (λ x e. cc) (λ x y e. cc));
    }

    pub block_others_d : LeavesCounts s (each s * i) (each s) (a.seen f) (d.seen f)
    block_others_d k many c out =
        counted_apart s is.shape.some role_block_on (b.seen f) (d.seen f) good_b.lies last i here
        (spares_more spot 2 (place s last) (size s) (b.seen f) (d.seen f) (omega (arith, is.call.spot_is)) (omega (arith, is.call.spot_is, is.call.slot_in)) (torn_spares spot (0 ∷ 1 ∷ []) (b.seen f) (d.seen f) (counts.torn told_at_b)))
        k many (block_others_b k many c out) out

    pub block_ends_d : EndsBy finish (a.seen f) (d.seen f)
    block_ends_d = omega (arith, block_ends_b, torn_ends spot (0 ∷ 1 ∷ []) (b.seen f) (d.seen f) (omega arith) (counts.torn told_at_b), is.call.spot_is, is.call.slot_in, is.call.finish_is, place_next s last)

    pub block_bare_d : CountsNoOther s i last (a.seen f) → CountsNoOther s i last (d.seen f)
    block_bare_d none = count_bare is.call is.shape.some role_block_on here disks fresh_behind (b.seen f) (d.seen f) (counts.torn told_at_b) (block_bare_b none)

    pub block_counted : EachSince d a.now f (IsSafe s disks) × Standing s disks first last f d
    block_counted = leads_stand st role_block_on places_before run_d told (linked_before (d.seen f) keeps_d.blocks) counting_d

    module _ {e : World} (sound_e : IsSound e) (syncs : Syncs f d e) where
      run_e : Runs (writes_of f) a e
      run_e = run_on run_d syncs.run

      syncing_e : Leads f Was Was (IsSafe s disks) Good Good a e
      syncing_e = lead_on run_d syncs.run counting_d (good_sync s role_block_on disks sound_d syncs)

      pub block_words_e : SameWords s (a.seen f) (e.seen f)
      block_words_e = subst (SameWords s (a.seen f)) (sym syncs.seen) block_words_d

      pub block_word_e : u64_at (e.seen f) at ≡ u64_at (a.seen f) at
      block_word_e = word_stays (e.seen f) block_words_e

      keeps_e : Keeps s (a.seen f) (e.seen f)
      keeps_e = subst (Keeps s (a.seen f)) (sym syncs.seen) keeps_d

      pub block_leaves_e : LeavesGuest s (a.seen f) (e.seen f)
      block_leaves_e = subst (LeavesGuest s (a.seen f)) (sym syncs.seen) block_leaves_d

      pub block_others_e : LeavesCounts s (each s * i) (each s) (a.seen f) (e.seen f)
      block_others_e = subst (LeavesCounts s (each s * i) (each s) (a.seen f)) (sym syncs.seen) block_others_d

      pub block_ends_e : EndsBy finish (a.seen f) (e.seen f)
      block_ends_e = subst (EndsBy finish (a.seen f)) (sym syncs.seen) block_ends_d

      pub block_bare_e : CountsNoOther s i last (a.seen f) → CountsNoOther s i last (e.seen f)
      block_bare_e none = subst (CountsNoOther s i last) (sym syncs.seen) (block_bare_d none)

      pub block_synced : EachSince e a.now f (IsSafe s disks) × Standing s disks first last f e
      block_synced = leads_stand st role_block_on places_before run_e told (linked_before (e.seen f) keeps_e.blocks) syncing_e

      module _ (wrote_b : HasWritten f finish (end ∷ []) a b) (wrote_d : HasWritten f spot (0 ∷ 1 ∷ []) b d) (synced : HasSynced f d e) {g : World} {bytes : List ℕ} (sound_g : IsSound g) (link : Writes f at bytes e g) (eight : length bytes ≡ 8) (says : from_be_bytes w64 bytes ≡ word) where
        run_g : Runs (writes_of f) a g
        run_g = run_on run_e link.run

        abbrev Prepared : List ℕ → Type 0
        Prepared c = Good c × IsPrepared is.call is.shape.some role_block_on here disks fresh_behind c

        seen_e : e.seen f ≡ overlay (overlay (a.seen f) finish (end ∷ [])) spot (0 ∷ 1 ∷ [])
        seen_e =
            let told_b : IsTrue b.tells = subst IsTrue (sym grows.run.goes.tells) told in
            syncs.seen ∙ wrote_d.seen told_b ∙ ap (λ (c : List ℕ). overlay c spot (0 ∷ 1 ∷ [])) (wrote_b.seen told)

        told_e : IsTrue e.tells
        told_e = subst IsTrue (sym run_e.goes.tells) told

        prepared_e : Prepared (e.seen f)
        prepared_e = (
          (syncing_e.after (holds_of st)).seen told_e,
          subst (IsPrepared is.call is.shape.some role_block_on here disks fresh_behind) (sym seen_e) (prepared is.call is.shape.some role_block_on here disks fresh_behind (end ∷ []) (a.seen f) refl),
        )

        holds_e : Holds f Prepared Prepared e
        holds_e = record { seen = λ t. prepared_e; each = λ c left. subst Prepared (sym (synced_exact sound_d syncs synced c left)) prepared_e }

        abbrev row_at : ℕ
        row_at = s.counts + 8 * i

        link_at : Writes f row_at bytes e g
        link_at = subst (λ (p : ℕ). Writes f p bytes e g) is.call.at_is link

        linking : Leads f Prepared Prepared (IsSafe s disks) Good Good e g
        linking =
            sector_leads Prepared Prepared (IsSafe s disks) Good Good (row_at / 512) sound_e sound_g link_at
            (omega arith) (omega (arith, eight, is.shape.counts_place.is, sector_at s is.shape.counts_place.cluster 0))
            (λ c has. safe s role_block_on disks c has.0) (λ c has. safe s role_block_on disks c has)
            (λ has. omega (arith, count_inside s role_block_on i (e.seen f) is.shape.some is.call.inside has.0.lies, eight)) (λ c has. omega (arith, count_inside s role_block_on i c is.shape.some is.call.inside has.0.lies, eight))
            (λ same has. (has.0, λ c old. old.0))
            (λ new has. (
              block_linked is.call is.shape.some role_block_on here disks fresh_behind is.shape bytes eight says only (e.seen f) has.0 has.1,
              λ c old. (old.0, block_linked is.call is.shape.some role_block_on here disks fresh_behind is.shape bytes eight says only c old.0 old.1),
            ))

        since_g : EachSince g a.now f (IsSafe s disks)
        since_g = since_on a.now f (IsSafe s disks) link.run (syncing_e.since (holds_of st)) (linking.since holds_e)

        told_g : IsTrue g.tells
        told_g = subst IsTrue (sym run_g.goes.tells) told

        -- the entry is as before, or written
        link_either : (g.seen f ≡ e.seen f) ⊎ (g.seen f ≡ overlay (e.seen f) row_at bytes)
        link_either = one_sector_write row_at bytes (e.seen f) (g.seen f) (row_at / 512) (link_at.torn told_e)
            (omega (arith, count_inside s role_block_on i (e.seen f) is.shape.some is.call.inside prepared_e.0.lies, eight)) (omega arith) (omega (arith, eight, is.shape.counts_place.is, sector_at s is.shape.counts_place.cluster 0))

        keeps_g : Keeps s (a.seen f) (g.seen f)
        keeps_g = keeps_on s (a.seen f) (e.seen f) (g.seen f) keeps_e
            (⊎_elim (λ (same : g.seen f ≡ e.seen f). subst (Keeps s (e.seen f)) (sym same) (record { blocks = λ x y is. is; tables = λ x y is. is }))
            (λ (new : g.seen f ≡ overlay (e.seen f) row_at bytes). subst (Keeps s (e.seen f)) (sym new) (block_row_keeps is.call is.shape.some role_block_on here disks fresh_behind is.shape bytes eight says only (e.seen f) prepared_e.0 prepared_e.1))
            link_either)

        pub block_words_g : SameTables s (a.seen f) (g.seen f) × SameBlocksBut s i (a.seen f) (g.seen f)
        block_words_g =
            let same = words_block s is.shape.some role_block_on (e.seen f) (g.seen f) prepared_e.0.lies i is.call.inside
            (spares_more row_at (length bytes) row_at 8 (e.seen f) (g.seen f) (omega arith) (omega (arith, eight))
            (torn_spares row_at bytes (e.seen f) (g.seen f) (link_at.torn told_e))) in
            (λ m inside. same.0 m inside ∙ block_words_e.0 m inside, λ m inside differ. same.1 m inside differ ∙ block_words_e.1 m inside)

        pub block_leaves_g : LeavesGuest s (a.seen f) (g.seen f)
        block_leaves_g = record {
          keeps = keeps_g;
          alike = alike_on s (a.seen f) (e.seen f) (g.seen f) block_leaves_e.alike
              (⊎_elim (λ (same : g.seen f ≡ e.seen f). subst (SameGuest s (e.seen f)) (sym same) (alike_self s (e.seen f)))
              (λ (new : g.seen f ≡ overlay (e.seen f) row_at bytes). subst (SameGuest s (e.seen f)) (sym new) (block_row_alike is.call is.shape.some role_block_on here disks fresh_behind is.shape bytes eight says only (e.seen f) prepared_e.0 prepared_e.1))
              link_either);
        }

        pub block_others_g : LeavesCounts s (each s * i) (each s) (a.seen f) (g.seen f)
        block_others_g k many c out =
            let was = block_others_e k many c out in
            ⊎_elim
            (λ (same : g.seen f ≡ e.seen f). subst (λ (x : List ℕ). IsCounted s x k many) (sym same) was)
            (λ (new : g.seen f ≡ overlay (e.seen f) row_at bytes). subst (λ (x : List ℕ). IsCounted s x k many) (sym new) (block_row_counts is.call is.shape.some role_block_on here disks fresh_behind is.shape bytes eight says only (e.seen f) prepared_e.0 prepared_e.1 k many was))
            link_either

        pub block_ends_g : EndsBy finish (a.seen f) (g.seen f)
        block_ends_g = omega (arith, block_ends_e, torn_length row_at bytes (e.seen f) (g.seen f) (link_at.torn told_e) (omega (arith, count_inside s role_block_on i (e.seen f) is.shape.some is.call.inside prepared_e.0.lies, eight)))

        -- the counts of the block are the same
        halves_g : (t : ℕ) → t < each s → u16_at (g.seen f) (place s last + 2 * t) ≡ u16_at (e.seen f) (place s last + 2 * t)
        halves_g t t_in = ⊎_elim
            (λ (same : g.seen f ≡ e.seen f). ap (λ (c : List ℕ). u16_at c (place s last + 2 * t)) same)
            (λ (new : g.seen f ≡ overlay (e.seen f) row_at bytes). ap (λ (c : List ℕ). u16_at c (place s last + 2 * t)) new
            ∙ block_row_half is.call is.shape.some role_block_on here disks fresh_behind is.shape bytes eight says only (e.seen f) prepared_e.0 prepared_e.1 t t_in)
            link_either

        pub block_bare_g : CountsNoOther s i last (a.seen f) → CountsNoOther s i last (g.seen f)
        block_bare_g none t t_in other = halves_g t t_in ∙ block_bare_e none t t_in other

        pub block_wrote : EachSince g a.now f (IsSafe s disks) × Standing s disks first last f g
        block_wrote = (since_g, stand_on role_block_on places_before told_g (linked_before (g.seen f) keeps_g.blocks) (linking.after holds_e))

        there : g.seen f ≡ overlay (e.seen f) row_at bytes → IsBlock s (g.seen f) i last
        there new = record {
          inside = is.call.inside;
          some = is.call.some;
          at = ap (λ (c : List ℕ). u64_at c row_at) new ∙ number-overlay_same w64 (e.seen f) row_at bytes eight ∙ says ∙ is.call.word_is;
        }

        pub block_either : (u64_at (g.seen f) at ≡ u64_at (a.seen f) at) ⊎ IsBlock s (g.seen f) i last
        block_either = ⊎_elim
            (λ (same : g.seen f ≡ e.seen f). inl (ap (λ (c : List ℕ). u64_at c at) same ∙ block_word_e))
            (λ (new : g.seen f ≡ overlay (e.seen f) row_at bytes). inr (there new))
            link_either

        module _ (wrote_g : HasWritten f at bytes e g) where
          pub block_there : IsBlock s (g.seen f) i last
          block_there = there (wrote_g.seen told_e ∙ ap (λ (p : ℕ). overlay (e.seen f) p bytes) is.call.at_is)

          pub block_is_bare : CountsNoOther s i last (a.seen f) → IsBareBlock s i last (g.seen f)
          block_is_bare none = record {
            linked = block_there;
            one = record { index = i; slot = slot; block = last; is = is.call.is; inside = is.call.slot_in; linked = block_there; count = halves_g slot is.call.slot_in ∙ prepared_e.1.0 };
            none = λ t t_in other. record { index = i; slot = t; block = last; is = refl; inside = t_in; linked = block_there; count = block_bare_g none t t_in other };
          }

          linked_after : AreLinked s role_block_on (last + 1) (g.seen f)
          linked_after x m e low = elim (cases_eq m last) [
            | inr differ ↦ linked_before (g.seen f) keeps_g.blocks x m e (omega (arith, low, differ))
            | inl same ↦ subst (λ (k : ℕ). IsBlock s (g.seen f) x k) (sym same) (subst (λ (y : ℕ). IsBlock s (g.seen f) y last) (index_is x (sym here ∙ sym (ap role_block_on same) ∙ e)) block_there)
          ]
            where
              index_is : (x : ℕ) → Of (Block i) ≡ Of (Block x) → i ≡ x
              index_is x e = cc

          -- the next sync makes the link last
          pub block_done : EachSince g a.now f (IsSafe s disks) × Standing s disks first (last + 1) f g
          block_done = (since_g, stand_on role_block_on places_after told_g linked_after (linking.after holds_e))

-- ---- settling

module _ {s : Shape} {disks : List (List ℕ)} {taken : ℕ → Bool} {last q i low n spot f : ℕ} {counts : List ℕ} {a b : World} (shape : IsShape s) (is : IsSettling s taken q i low n spot counts) (sound : IsSound a) (sound_b : IsSound b) (call : Writes f spot counts a b)
    (told : IsTrue a.tells) (block : IsBlock s (a.seen f) i q) (rests : Resting s disks taken last f a) where
  q_role : rests.role q ≡ Of (Block i)
  q_role = rests.seen.lies.refs (Block i) q block

  named_in : (t : ℕ) → t < each s → IsTaken (rests.role (each s * i + t)) → IsTrue (taken (each s * i + t))
  named_in t t_in is_taken = ⊎_elim
      (λ (is : IsTrue (taken (each s * i + t))). is)
      (λ (own : IsOwn s rests.role (each s * i + t)).
      let index : i ≡ own.0 = same_index s i own.0 t own.1.slot own.1.is t_in own.1.inside in
      let same : each s * i + t ≡ q = rests.one i (each s * i + t) q (subst (λ (x : ℕ). rests.role (each s * i + t) ≡ Of (Block x)) (sym index) own.2) q_role in
      subst (λ (k : ℕ). IsTrue (taken k)) (sym same) (rests.linked i q block))
      (rests.named (each s * i + t) is_taken)

  settling : Leads f (IsGood s rests.role disks) (IsGood s rests.role disks) (IsSafe s disks) (IsGood s rests.role disks) (IsGood s rests.role disks) a b
  settling = good_leads s rests.role disks sound sound_b call
      (λ old new good torn. settled_good s shape.some rests.role disks taken q i low n spot counts old new q_role named_in rests.none is good torn)

  holds_rest : Holds f (IsGood s rests.role disks) (IsGood s rests.role disks) a
  holds_rest = record { seen = λ t. rests.seen; each = rests.now }

  around : Spares (place s q) (size s) (a.seen f) (b.seen f)
  around = spares_more spot (length counts) (place s q) (size s) (a.seen f) (b.seen f) (omega (arith, is.spot_is)) (omega (arith, is.spot_is, is.long, is.within)) (torn_spares spot counts (a.seen f) (b.seen f) (call.torn told))

  around_block : Elsewhere s rests.role (Of (Block i)) (a.seen f) (b.seen f)
  around_block = within s rests.role (Of (Block i)) q (a.seen f) (b.seen f) q_role around

  pub settled_words : SameWords s (a.seen f) (b.seen f)
  settled_words = words_by s shape.some rests.role (a.seen f) (b.seen f) rests.seen.lies (Of (Block i)) around_block (λ e. cc) (λ e. cc)

  pub settled_leaves : LeavesGuest s (a.seen f) (b.seen f)
  settled_leaves = record {
    keeps = keeps_words s (a.seen f) (b.seen f) settled_words;
    alike = quiet_alike s shape.some rests.role (a.seen f) (b.seen f) rests.seen.lies rests.seen.forms (Of (Block i)) around_block (λ e. cc) (λ x e. cc) (λ x y e. cc);
  }

  pub settled_others : LeavesCounts s (each s * i + low) n (a.seen f) (b.seen f)
  settled_others = counted_out s shape.some rests.role (a.seen f) (b.seen f) rests.seen.lies q i q_role around low n
      (spares_more spot (length counts) (place s q + 2 * low) (2 * n) (a.seen f) (b.seen f) (omega (arith, is.spot_is)) (omega (arith, is.spot_is, is.long)) (torn_spares spot counts (a.seen f) (b.seen f) (call.torn told)))

  pub settled_counts : HasWritten f spot counts a b → HasCounts s (each s * i + low) n counts (b.seen f)
  settled_counts wrote t t_in = record {
    index = i;
    slot = low + t;
    block = q;
    is = omega arith;
    inside = omega (arith, is.within, t_in);
    linked = settled_leaves.keeps.blocks i q block;
    count = let at : place s q + 2 * (low + t) ≡ spot + 2 * t = omega (arith, is.spot_is) in
        ap (λ (p : ℕ). u16_at (b.seen f) p) at ∙ ap (λ (c : List ℕ). u16_at c (spot + 2 * t)) (wrote.seen told) ∙ number-overlay_part w16 (a.seen f) spot counts (2 * t) (omega (arith, is.long, t_in));
  }

  pub settled : EachSince b a.now f (IsSafe s disks) × Resting s disks taken last f b
  settled = (
    settling.since holds_rest,
    record {
      role = rests.role;
      named = rests.named;
      linked = λ x k b_new. rests.linked x k (frame.block_back s shape.some rests.role (a.seen f) (b.seen f) rests.seen.lies (Of (Block i)) (within s rests.role (Of (Block i)) q (a.seen f) (b.seen f) q_role around) (λ e. cc) x k b_new);
      edge = rests.edge;
      fresh = rests.fresh;
      blocks = λ x k of low_k. frame.block_on s shape.some rests.role (a.seen f) (b.seen f) rests.seen.lies (Of (Block i)) (within s rests.role (Of (Block i)) q (a.seen f) (b.seen f) q_role around) (λ e. cc) x k (rests.blocks x k of low_k);
      none = rests.none;
      one = rests.one;
      seen = (settling.after holds_rest).seen (subst IsTrue (sym call.run.goes.tells) told);
      now = (settling.after holds_rest).each;
    },
  )

-- where clusters rest, none is ready
pub rests_stand : {s : Shape} {disks : List (List ℕ)} {taken : ℕ → Bool} {last f : ℕ} {w : World} → Rests s disks taken last f w → IsStanding s disks last last f w
rests_stand rests told =
    let r = rests told in
    record { role = r.role; order = omega arith; ready = λ k low high. absurd (omega arith); edge = r.edge; fresh = r.fresh; one = r.one; linked = r.blocks; seen = r.seen; now = r.now }

-- ---- a sync: what isn't named is free, and the disks that may be mixed are one

module _ {s : Shape} {disks : List (List ℕ)} {first last f : ℕ} {a b : World} (sound : IsSound a) (syncs : Syncs f a b) (told : IsTrue a.tells) (st : Standing s disks first last f a) where
  waiting : Leads f (IsGood s st.role disks) (IsGood s st.role disks) (IsSafe s disks) (IsGood s st.role disks) (IsGood s st.role disks) a b
  waiting = good_sync s st.role disks sound syncs

  same_seen : (x y : ℕ) → IsBlock s (a.seen f) x y → IsBlock s (b.seen f) x y
  same_seen x y is = subst (λ (c : List ℕ). IsBlock s c x y) (sym syncs.seen) is

  pub synced_stands : EachSince b a.now f (IsSafe s disks) × Standing s disks first last f b
  synced_stands = leads_stand st st.role (places st) syncs.run told (still_linked st (b.seen f) same_seen) waiting

  module _ (synced : HasSynced f a b) where
    was_seen : IsGood s st.role disks (b.seen f)
    was_seen = (waiting.after (holds_of st)).seen (subst IsTrue (sym syncs.run.goes.tells) told)

    good_one : IsGood s st.role (b.seen f ∷ []) (b.seen f)
    good_one = record { lies = was_seen.lies; forms = was_seen.forms; kept = is_shown s [] (b.seen f) }

    pub synced_one : EachSince b a.now f (IsSafe s disks) × Standing s (b.seen f ∷ []) first last f b
    synced_one = (
      waiting.since (holds_of st),
      record {
        role = st.role;
        order = st.order;
        ready = st.ready;
        edge = st.edge;
        fresh = st.fresh;
        one = st.one;
        linked = λ x k of low. same_seen x k (st.linked x k of low);
        seen = good_one;
        now = λ c left. subst (IsGood s st.role (b.seen f ∷ [])) (sym (synced_exact sound syncs synced c left)) good_one;
      },
    )

    -- what isn't named is free, and what is and was ready is spare
    module _ (taken : ℕ → Bool) (named : AreNamed s taken (b.seen f)) where
      abbrev role_rest : ℕ → Use
      role_rest k = keep (taken k) (st.role k)

      rest_good : IsGood s role_rest (b.seen f ∷ []) (b.seen f)
      rest_good = record { lies = rested s st.role taken (b.seen f) named was_seen.lies; forms = was_seen.forms; kept = is_shown s [] (b.seen f) }

      own_or : (k : ℕ) → IsTrue (taken k) ⊎ ((i : ℕ) × (st.role k ≡ Of (Block i))) → IsTrue (taken k) ⊎ IsOwn s role_rest k
      own_or k (inl is) = inl is
      own_or k (inr block) = ⊎_elim
          (λ (own : IsOwnCount s block.0 k). inr (block.0, own, kept_block (taken k) (st.role k) block.0 block.1))
          (λ (linked : IsBlock s (b.seen f) block.0 k). inl (named (Block block.0) k linked))
          (was_seen.lies.blocks block.0 k block.1)

      fresh_or : (k : ℕ) → (st.role k ≡ Fresh) ⊎ IsOwn s st.role k → (role_rest k ≡ Fresh) ⊎ IsOwn s role_rest k
      fresh_or k (inl is) = inl (kept_fresh (taken k) (st.role k) is)
      fresh_or k (inr own) = inr (own.0, own.1, kept_block (taken k) (st.role k) own.0 own.2)

      pub synced_rests : EachSince b a.now f (IsSafe s disks) × Resting s (b.seen f ∷ []) taken last f b
      synced_rests = (
        waiting.since (holds_of st),
        record {
          role = role_rest;
          named = λ k is. own_or k (kept_taken (taken k) (st.role k) is);
          linked = λ i k linked. named (Block i) k linked;
          edge = fresh_or last st.edge;
          fresh = λ k from. kept_fresh (taken k) (st.role k) (st.fresh k from);
          blocks = λ i k of low. same_seen i k (st.linked i k (kept_back (taken k) (st.role k) i of) low);
          none = λ k ready. kept_none (taken k) (st.role k) ready;
          one = λ i x y is_x is_y. st.one i x y (kept_back (taken x) (st.role x) i is_x) (kept_back (taken y) (st.role y) i is_y);
          seen = rest_good;
          now = λ c left. subst (IsGood s role_rest (b.seen f ∷ [])) (sym (synced_exact sound syncs synced c left)) rest_good;
        },
      )
