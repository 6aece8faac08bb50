-- Calls that write data into ready clusters, and that name them.
use Rattle.std.proofs.Common.{◌≡◌, ◌⊎◌, inl, inr, ℕ, ◌+◌, ◌*◌, ◌<◌, ◌≤◌, IsTrue, List, ◌∷◌, length, refl, sym, ◌∙◌, ap, subst, arith}
use Rattle.disk_model.specs.Files.{byte, u64_at, overlay, IsTorn}
use Rattle.disk_model.specs.World.{World, IsSound, Writes, HasWritten, EachSince, Leads, Holds}
use Rattle.disk_model.proofs.Laws.{write_leads, byte-overlay_in, byte-overlay_outside}
use Rattle.image_model.specs.Clusters.{Shape, size, per, place, Block, Table, Guest, IsTable, Use, Fresh, Spare, Ready, Of, IsBlank, SameIn, host, IsGood, IsSafe, IsOwn, Standing}
use Rattle.image_model.specs.Calls.{LeavesGuest}
use Rattle.image_model.specs.Runs.{IsFilling, AreFilled, Filled, HasData, IsLinking, LeavesRest, IsLinked, AreAsBefore, AreLinked}
use Rattle.image_steps.proofs.Places.{Elsewhere, Spares, within, spared_cluster}
use Rattle.image_steps.proofs.Good.{safe, more_safe}
use Rattle.image_steps.proofs.Calls.{mixed_now}
use Rattle.image_steps.proofs.Standing.{Places, is_ready, holds_of, stand_on}
use Rattle.image_steps.proofs.Kept.{guest_some}
use Rattle.image_steps.proofs.Links.{SameWords, words_by, keeps_words}
use Rattle.image_steps.proofs.Naming.{quiet_alike, entry_some}
use Rattle.image_steps.proofs.Rows as rows
use Rattle.image_steps.proofs.Neighbours.{IsIdle, Where, In, Out, where_is, ranged, ranged_in, ranged_out, change_range, IsSparing, fill_elsewhere, fill_good, row_spares, word_out, sets, not_table, named_host, part_is, sector_either, linked_run}

-- ---- data into ready clusters

module _ {s : Shape} {disks : List (List ℕ)} {first last k n at f : ℕ} {bytes : List ℕ} {a b : World} (is : IsFilling s first last k n at (length bytes) f a) (sound : IsSound a) (sound_b : IsSound b) (call : Writes f at bytes a b)
    (told : IsTrue a.tells) (st : Standing s disks first last f a) where
  fill_ready : (m : ℕ) → m < n → st.role (k + m) ≡ Ready
  fill_ready m m_in = is_ready st (k + m) (record { from = omega (arith, is.from); to = omega (arith, is.to, m_in) }) (is.takeable m m_in told)

  fill_role : ℕ → Use
  fill_role = ranged st.role k n (λ m. Spare)

  filling : IsSparing st.role fill_role k n
  unfolding fill_role
  filling = record {
    ready = fill_ready;
    spare = λ m m_in. ranged_in st.role k n (λ m. Spare) m m_in;
    others = λ x out. ranged_out st.role k n (λ m. Spare) x out;
  }

  fill_was_block : (e x : ℕ) → fill_role x ≡ Of (Block e) → st.role x ≡ Of (Block e)
  fill_was_block e x is_block = by_place (where_is k n x)
    where
      differ : (u : Use) → u ≡ Spare → u ≡ Of (Block e) → ⊥
      differ u p r = cc

      by_place : Where k n x → st.role x ≡ Of (Block e)
      by_place (In m m_in here) = absurd (differ (fill_role x) (ap fill_role here ∙ filling.spare m m_in) is_block)
      by_place (Out out) = sym (filling.others x out) ∙ is_block

  fill_places : Places s fill_role (k + n) last
  fill_places = record {
    order = is.to;
    ready = λ x low high. on x (inr low) (st.ready x (omega (arith, low, is.from)) high);
    edge = on_fresh last (inr is.to) st.edge;
    fresh = λ x low. filling.others x (inr (omega (arith, is.to, low))) ∙ st.fresh x low;
    one = λ e x y is_x is_y. st.one e x y (fill_was_block e x is_x) (fill_was_block e y is_y);
  }
    where
      on : (x : ℕ) → (x < k) ⊎ (k + n ≤ x) → (st.role x ≡ Ready) ⊎ IsOwn s st.role x → (fill_role x ≡ Ready) ⊎ IsOwn s fill_role x
      on x out (inl ready) = inl (filling.others x out ∙ ready)
      on x out (inr own) = inr (own.0, own.1, filling.others x out ∙ own.2)

      on_fresh : (x : ℕ) → (x < k) ⊎ (k + n ≤ x) → (st.role x ≡ Fresh) ⊎ IsOwn s st.role x → (fill_role x ≡ Fresh) ⊎ IsOwn s fill_role x
      on_fresh x out (inl fresh) = inl (filling.others x out ∙ fresh)
      on_fresh x out (inr own) = inr (own.0, own.1, filling.others x out ∙ own.2)

  fill_apart : Elsewhere s st.role Ready (a.seen f) (b.seen f)
  fill_apart = fill_elsewhere s is.shape k n at bytes is.low is.high st.role fill_role filling (a.seen f) (b.seen f) (call.torn told)

  pub fill_words : SameWords s (a.seen f) (b.seen f)
  fill_words = words_by s is.shape.some st.role (a.seen f) (b.seen f) st.seen.lies Ready fill_apart (λ e. cc) (λ e. cc)

  pub fill_leaves : LeavesGuest s (a.seen f) (b.seen f)
  fill_leaves = record {
    keeps = keeps_words s (a.seen f) (b.seen f) fill_words;
    alike = quiet_alike s is.shape.some st.role (a.seen f) (b.seen f) st.seen.lies st.seen.forms Ready fill_apart (λ e. cc) (λ x e. cc) (λ x y e. cc);
  }

  abbrev Holding : List ℕ → Type 0
  Holding c = IsGood s fill_role disks c × AreFilled s k n (b.seen f) c

  fill_leads : Leads f (IsGood s st.role disks) (IsGood s st.role disks) (IsSafe s disks) Holding Holding a b
  fill_leads =
      write_leads (IsGood s st.role disks) (IsGood s st.role disks) (IsSafe s disks) Holding Holding sound sound_b call
      (λ c good. safe s st.role disks c good) (λ c has. safe s fill_role disks c has.0)
      (λ good torn. (
        fill_good s is.shape k n at bytes is.low is.high st.role fill_role filling disks (b.seen f) (a.seen f) (b.seen f) good torn (mixed_now (a.seen f) (b.seen f)),
        λ old new old_good old_torn mixed. fill_good s is.shape k n at bytes is.low is.high st.role fill_role filling disks (b.seen f) old new old_good old_torn mixed,
      ))

  -- whatever the write answered
  pub filled : EachSince b a.now f (IsSafe s disks) × Filled s disks k n (k + n) last f b
  filled =
      let after = fill_leads.after (holds_of st) in (
        fill_leads.since (holds_of st),
        record {
          standing = record {
            role = fill_role;
            order = fill_places.order;
            ready = fill_places.ready;
            edge = fill_places.edge;
            fresh = fill_places.fresh;
            one = fill_places.one;
            linked = λ x y of low. fill_leaves.keeps.blocks x y (st.linked x y (fill_was_block x y of) low);
            seen = (after.seen (subst IsTrue (sym call.run.goes.tells) told)).0;
            now = λ c left. (after.each c left).0;
          };
          spare = filling.spare;
          now = λ c left. (after.each c left).1;
        },
      )

  pub fill_data : HasWritten f at bytes a b → HasData s k n at bytes (b.seen f)
  fill_data wrote = record {
    inside = λ m t m_in t_in low high. ap (λ (c : List ℕ). byte c (place s (k + m) + t)) (wrote.seen told) ∙ byte-overlay_in (a.seen f) at bytes (place s (k + m) + t) low high;
    outside = λ m t m_in t_in out.
        ap (λ (c : List ℕ). byte c (place s (k + m) + t)) (wrote.seen told) ∙ byte-overlay_outside (a.seen f) at bytes (place s (k + m) + t) out
        ∙ st.seen.lies.zeros (k + m) (subst IsBlank (sym (fill_ready m m_in)) tt) (place s (k + m) + t) (omega arith) (omega (arith, t_in));
  }

-- ---- the entries that name them

module _ {s : Shape} {disks : List (List ℕ)} {first last k n q i j spot f : ℕ} {words : List ℕ} {a b : World} (is : IsLinking s first k n q i j spot f words a) (sound : IsSound a) (sound_b : IsSound b) (call : Writes f spot words a b)
    (told : IsTrue a.tells) (h : Filled s disks k n first last f a) where
  abbrev st : Standing s disks first last f a
  st = h.standing

  link_role : ℕ → Use
  link_role = ranged st.role k n (λ m. Of (Guest i (j + m)))

  owners : (m : ℕ) → m < n → link_role (k + m) ≡ Of (Guest i (j + m))
  unfolding link_role
  owners m m_in = ranged_in st.role k n (λ m. Of (Guest i (j + m))) m m_in

  others : (x : ℕ) → (x < k) ⊎ (k + n ≤ x) → link_role x ≡ st.role x
  unfolding link_role
  others x out = ranged_out st.role k n (λ m. Of (Guest i (j + m))) x out

  link_good : (c : List ℕ) → IsGood s st.role disks c → IsGood s link_role disks c
  link_good c good = record {
    lies = change_range s st.role link_role c k n good.lies (λ m m_in. subst IsIdle (sym (h.spare m m_in)) tt) (λ m m_in. inr (i, j + m, owners m m_in)) others;
    forms = good.forms;
    kept = good.kept;
  }

  link_was_block : (e x : ℕ) → link_role x ≡ Of (Block e) → st.role x ≡ Of (Block e)
  link_was_block e x is_block = by_place (where_is k n x)
    where
      differ : (u : Use) (y : ℕ) → u ≡ Of (Guest i y) → u ≡ Of (Block e) → ⊥
      differ u y p r = cc

      by_place : Where k n x → st.role x ≡ Of (Block e)
      by_place (In m m_in here) = absurd (differ (link_role x) (j + m) (ap link_role here ∙ owners m m_in) is_block)
      by_place (Out out) = sym (others x out) ∙ is_block

  link_places : Places s link_role first last
  link_places = record {
    order = st.order;
    ready = λ x low high. on x (omega (arith, low, is.below)) (st.ready x low high);
    edge = on_fresh last (omega (arith, st.order, is.below)) st.edge;
    fresh = λ x low. others x (inr (omega (arith, st.order, is.below, low))) ∙ st.fresh x low;
    one = λ e x y is_x is_y. st.one e x y (link_was_block e x is_x) (link_was_block e y is_y);
  }
    where
      on : (x : ℕ) → k + n ≤ x → (st.role x ≡ Ready) ⊎ IsOwn s st.role x → (link_role x ≡ Ready) ⊎ IsOwn s link_role x
      on x past (inl ready) = inl (others x (inr past) ∙ ready)
      on x past (inr own) = inr (own.0, own.1, others x (inr past) ∙ own.2)

      on_fresh : (x : ℕ) → k + n ≤ x → (st.role x ≡ Fresh) ⊎ IsOwn s st.role x → (link_role x ≡ Fresh) ⊎ IsOwn s link_role x
      on_fresh x past (inl fresh) = inl (others x (inr past) ∙ fresh)
      on_fresh x past (inr own) = inr (own.0, own.1, others x (inr past) ∙ own.2)

  table : IsTable s (a.seen f) i q
  table = (is.opened told).linked

  table_role : link_role q ≡ Of (Table i)
  table_role = by_place (where_is k n q)
    where
      differ : (u : Use) → u ≡ Spare → u ≡ Of (Table i) → ⊥
      differ u p r = cc

      by_place : Where k n q → link_role q ≡ Of (Table i)
      by_place (In m m_in here) = absurd (differ (st.role q) (ap st.role here ∙ h.spare m m_in) (st.seen.lies.refs (Table i) q table))
      by_place (Out out) = others q out ∙ st.seen.lies.refs (Table i) q table

  link_at : Writes f (place s q + 8 * j) words a b
  link_at = subst (λ (p : ℕ). Writes f p words a b) is.slots.at call

  torn : IsTorn (place s q + 8 * j) words (a.seen f) (b.seen f)
  torn = link_at.torn told

  good : IsGood s link_role disks (a.seen f)
  good = link_good (a.seen f) st.seen

  spares : Spares (place s q) (size s) (a.seen f) (b.seen f)
  spares = row_spares s link_role q i j n table_role is.slots.slots words is.links.long (a.seen f) (b.seen f) torn

  set_words : (y : ℕ) → y < per s → (u64_at (b.seen f) (place s q + 8 * y) ≡ u64_at (a.seen f) (place s q + 8 * y)) ⊎ rows.IsSet s link_role i y (u64_at (b.seen f) (place s q + 8 * y))
  set_words = sets s is.shape link_role k n q i j is.some table_role is.slots.slots words is.links owners (a.seen f) (b.seen f) good.lies torn

  table_b : IsTable s (b.seen f) i q
  table_b = rows.rows_on s is.shape.some link_role (a.seen f) (b.seen f) good.lies good.forms q i table_role spares set_words i q table

  -- an entry that isn't one of them
  same_word : (x y : ℕ) → (x ≡ i → j ≤ y → y < j + n → ⊥) → x ≡ i → u64_at (b.seen f) (place s q + 8 * y) ≡ u64_at (a.seen f) (place s q + 8 * y)
  same_word x y other here = by_place (where_is j n y)
    where
      by_place : Where j n y → u64_at (b.seen f) (place s q + 8 * y) ≡ u64_at (a.seen f) (place s q + 8 * y)
      by_place (In m m_in at_y) = absurd (other here (omega (arith, at_y)) (omega (arith, at_y, m_in)))
      by_place (Out out) = word_out s link_role q i j n table_role is.slots.slots words is.links.long (a.seen f) (b.seen f) torn y out

  pub link_words : SameWords s (a.seen f) (b.seen f)
  link_words =
      words_by s is.shape.some link_role (a.seen f) (b.seen f) good.lies (Of (Table i))
      (within s link_role (Of (Table i)) q (a.seen f) (b.seen f) table_role spares) (λ e. cc) (λ e. cc)

  pub link_leaves : LeavesRest s i j n (a.seen f) (b.seen f)
  link_leaves = record {
    keeps = keeps_words s (a.seen f) (b.seen f) link_words;
    entries = λ x y x_in y_in other. rows.rows_entry s is.shape.some link_role (a.seen f) (b.seen f) good.lies good.forms q i table_role spares set_words x y x_in y_in (same_word x y other);
    disk = λ x y o x_in y_in o_in other. rows.rows_shows s is.shape.some link_role (a.seen f) (b.seen f) good.lies good.forms q i table_role spares set_words x y o x_in y_in o_in (same_word x y other);
  }

  abbrev HasThem : List ℕ → Type 0
  HasThem c = IsGood s link_role disks c × AreFilled s k n (a.seen f) c

  link_holds : Holds f HasThem HasThem a
  link_holds = record { seen = λ t. (good, λ m m_in o o_in. inr (λ b low high inside. refl)); each = λ c left. (link_good c (st.now c left), h.now c left) }

  link_leads : Leads f HasThem HasThem (IsSafe s (b.seen f ∷ disks)) (IsGood s link_role (b.seen f ∷ disks)) (IsGood s link_role (b.seen f ∷ disks)) a b
  link_leads =
      write_leads HasThem HasThem (IsSafe s (b.seen f ∷ disks)) (IsGood s link_role (b.seen f ∷ disks)) (IsGood s link_role (b.seen f ∷ disks)) sound sound_b link_at
      (λ c has. more_safe s disks (b.seen f) c (safe s link_role disks c has.0)) (λ c good. safe s link_role (b.seen f ∷ disks) c good)
      (λ has torn. (
        linked_run s is.shape link_role k n q i j is.some table_role is.slots.slots words is.links owners disks is.slots.index (a.seen f) (b.seen f) (a.seen f) (b.seen f) has.0 table (is.opened told).none torn has.0 has.1 torn (mixed_now (a.seen f) (b.seen f)),
        λ old new old_has old_torn mixed.
            linked_run s is.shape link_role k n q i j is.some table_role is.slots.slots words is.links owners disks is.slots.index (a.seen f) (b.seen f) old new has.0 table (is.opened told).none torn old_has.0 old_has.1 old_torn mixed,
      ))

  pub linked : EachSince b a.now f (IsSafe s (b.seen f ∷ disks)) × Standing s (b.seen f ∷ disks) first last f b
  linked = (
    link_leads.since link_holds,
    stand_on link_role link_places (subst IsTrue (sym call.run.goes.tells) told) (λ x y of low. link_leaves.keeps.blocks x y (st.linked x y (link_was_block x y of) low)) (link_leads.after link_holds),
  )

  -- whatever it did, the data stays in its clusters
  pub link_data : (m : ℕ) → m < n → SameIn s (k + m) (a.seen f) (b.seen f)
  link_data m m_in = spared_cluster s q (a.seen f) (b.seen f) spares (k + m) (not_table s is.shape link_role k n q i j is.some table_role is.slots.slots words is.links owners m m_in)

  -- where the word was written
  link_named : (m : ℕ) → m < n → u64_at (b.seen f) (place s q + 8 * (j + m)) ≡ u64_at words (8 * m) → IsLinked s i (j + m) (k + m) (u64_at words (8 * m)) (a.seen f) (b.seen f)
  link_named m m_in word =
      let more : 0 < k + m = omega (arith, is.some) in
      let there : host s (b.seen f) i (j + m) ≡ place s (k + m) = named_host s is.shape link_role k n q i j is.some table_role is.slots.slots words is.links owners (a.seen f) (b.seen f) good.lies good.forms torn table m (j + m) m_in word in
      record {
        names = entry_some s (b.seen f) i (j + m) q is.shape.some table_b ∙ word;
        at = there;
        shows = λ t t_in. guest_some s (b.seen f) i (j + m) t (k + m) is.shape.some more there ∙ link_data m m_in (place s (k + m) + t) (omega arith) (omega (arith, t_in));
      }

  -- whatever the write answered: the entries of a sector are as before, or all of them are linked
  pub link_either : (x : ℕ) → AreAsBefore s q i j n x (a.seen f) (b.seen f) ⊎ AreLinked s k q i j n x words (a.seen f) (b.seen f)
  link_either x = elim (sector_either s link_role q i j n table_role is.slots.slots words is.links.long (a.seen f) (b.seen f) good.lies torn x) [
    | inl same ↦ inl (λ m m_in here. entry_some s (b.seen f) i (j + m) q is.shape.some table_b ∙ same m m_in here ∙ sym (entry_some s (a.seen f) i (j + m) q is.shape.some table))
    | inr new ↦ inr (λ m m_in here. link_named m m_in (new m m_in here))
  ]

  pub link_done : HasWritten f spot words a b → (m : ℕ) → m < n → IsLinked s i (j + m) (k + m) (u64_at words (8 * m)) (a.seen f) (b.seen f)
  link_done done m m_in =
      let new : b.seen f ≡ overlay (a.seen f) (place s q + 8 * j) words = done.seen told ∙ ap (λ (p : ℕ). overlay (a.seen f) p words) is.slots.at in
      link_named m m_in (ap (λ (c : List ℕ). u64_at c (place s q + 8 * (j + m))) new ∙ part_is s link_role q i j n table_role is.slots.slots words is.links.long (a.seen f) m (j + m) m_in refl)
