-- Entries of a second-level table made holes in a row.
use Rattle.std.proofs.Common.{◌≡◌, ◌⊎◌, inl, inr, ⊎_elim, ℕ, ◌+◌, ◌*◌, ◌<◌, ◌≤◌, IsTrue, List, ◌∷◌, refl, sym, ◌∙◌, ap, subst, arith}
use Rattle.std.specs.Int.{w64}
use Rattle.disk_model.specs.Files.{u64_at, overlay, IsTorn, SomeVersion}
use Rattle.disk_model.specs.World.{World, IsSound, Writes, HasWritten, EachSince, Leads}
use Rattle.disk_model.proofs.Laws.{IsMixed, mixed_number, write_leads}
use Rattle.image_model.specs.Clusters.{Shape, size, per, place, offset, stored, Table, IsTable, Of, Lies, Forms, IsGuestWord, host, word_of, ShowsAs, IsGood, IsSafe, Standing}
use Rattle.image_model.specs.Runs.{LeavesRest}
use Rattle.image_model.specs.Rows.{AreZero, IsClearing, AreUntouched, AreCleared}
use Rattle.image_steps.proofs.Places.{Spares, within, word_zero, place_some, offset_none}
use Rattle.image_steps.proofs.Steps.{guest_none_word}
use Rattle.image_steps.proofs.Good.{safe, more_safe, more_good, is_shown}
use Rattle.image_steps.proofs.Calls.{mixed_now}
use Rattle.image_steps.proofs.Standing.{places, still_linked, leads_stand}
use Rattle.image_steps.proofs.Kept.{stored_none, both_none, shown}
use Rattle.image_steps.proofs.Links.{SameWords, words_by, keeps_words}
use Rattle.image_steps.proofs.Naming.{entry_some}
use Rattle.image_steps.proofs.Neighbours.{In, Out, where_is, WordAt, row_spares, table_inside, part_is, whole, word_out, word_at, sector_either}
use Rattle.image_steps.proofs.Rows.{IsSet}
use Rattle.image_steps.proofs.Rows as rows

pub zero_word : (n m : ℕ) (words : List ℕ) → AreZero n words → m < n → u64_at words (8 * m) ≡ 0
zero_word n m words zeros m_in = word_zero words (8 * m) (λ t low high. zeros.none t (omega (arith, m_in, high)))

module _ {s : Shape} {disks : List (List ℕ)} {first last q i j n spot f : ℕ} {words : List ℕ} {a b : World} (is : IsClearing s q i j n spot f words a) (sound : IsSound a) (sound_b : IsSound b) (call : Writes f spot words a b)
    (told : IsTrue a.tells) (st : Standing s disks first last f a) where
  table_a : IsTable s (a.seen f) i q
  table_a = is.table told

  table_role : st.role q ≡ Of (Table i)
  table_role = st.seen.lies.refs (Table i) q table_a

  write_at : Writes f (place s q + 8 * j) words a b
  write_at = subst (λ (p : ℕ). Writes f p words a b) is.slots.at call

  abbrev IsOver : List ℕ → List ℕ → Type 0
  IsOver old new = IsTorn (place s q + 8 * j) words old new

  torn_ab : IsOver (a.seen f) (b.seen f)
  torn_ab = write_at.torn told

  around : (old new : List ℕ) → IsOver old new → Spares (place s q) (size s) old new
  around old new torn = row_spares s st.role q i j n table_role is.slots.slots words is.zeros.long old new torn

  abbrev IsSame : List ℕ → List ℕ → ℕ → Type 0
  IsSame old new y = u64_at new (place s q + 8 * y) ≡ u64_at old (place s q + 8 * y)

  -- each entry is as it was, or 0
  same_or_none : (old new : List ℕ) → Lies s st.role old → IsOver old new → (y : ℕ) → y < per s → IsSame old new y ⊎ (u64_at new (place s q + 8 * y) ≡ 0)
  same_or_none old new lies torn y y_in = ⊎_elim
      (λ (same : IsSame old new y). inl same)
      (λ (w : WordAt n j y (u64_at new (place s q + 8 * y)) words). inr (w.word ∙ zero_word n w.m words is.zeros w.low))
      (word_at s st.role q i j n table_role is.slots.slots words is.zeros.long old new lies torn y y_in)

  set_none : (y w : ℕ) → w ≡ 0 → IsSet s st.role i y w
  set_none y w none =
      let nowhere : offset w ≡ 0 = ap offset none ∙ offset_none in
      record { owner = λ k some at. absurd (omega (arith, place_some s k is.shape.some some, at, nowhere)); form = subst (IsGuestWord s) (sym none) guest_none_word }

  sets : (old new : List ℕ) → Lies s st.role old → IsOver old new → (y : ℕ) → y < per s → IsSame old new y ⊎ IsSet s st.role i y (u64_at new (place s q + 8 * y))
  sets old new lies torn y y_in = ⊎_elim (λ (same : IsSame old new y). inl same) (λ (none : u64_at new (place s q + 8 * y) ≡ 0). inr (set_none y (u64_at new (place s q + 8 * y)) none)) (same_or_none old new lies torn y y_in)

  hole_host : (old new : List ℕ) → Lies s st.role old → Forms s old → IsOver old new → IsTable s old i q → (y : ℕ) → u64_at new (place s q + 8 * y) ≡ 0 → host s new i y ≡ 0
  hole_host old new lies forms torn table y none = rows.rows_new s is.shape.some st.role old new lies forms q i table_role (around old new torn) (sets old new lies torn) table y ∙ ap stored none ∙ stored_none

  holes_good : (old new : List ℕ) → IsGood s st.role disks old → IsOver old new → IsMixed old (b.seen f) new → IsGood s st.role (b.seen f ∷ disks) new
  holes_good old new good torn mixed = record {
    lies = rows.rows_keep s is.shape.some st.role old new good.lies good.forms q i table_role (around old new torn) (sets old new good.lies torn);
    forms = rows.rows_forms s is.shape.some st.role old new good.lies good.forms q i table_role (around old new torn) (sets old new good.lies torn);
    kept = rows.rows_kept s is.shape.some st.role old new good.lies good.forms q i table_role (around old new torn) (sets old new good.lies torn) (b.seen f ∷ disks) touched (more_good s st.role disks (b.seen f) old good).kept;
  }
    where
      touched : IsTable s old i q → (y o : ℕ) → y < per s → o < s.sectors → IsSame old new y ⊎ SomeVersion (ShowsAs s i y o new) (b.seen f ∷ disks)
      touched table y o y_in o_in = ⊎_elim
          (λ (same : IsSame old new y). inl same)
          (λ (none : u64_at new (place s q + 8 * y) ≡ 0). ⊎_elim
          (λ (as_old : IsSame old new y). inl as_old)
          (λ (as_now : u64_at new (place s q + 8 * y) ≡ u64_at (b.seen f) (place s q + 8 * y)).
          inr (shown s i y o new (b.seen f) (b.seen f ∷ disks)
          (both_none s i y o new (b.seen f) (hole_host old new good.lies good.forms torn table y none) (hole_host (a.seen f) (b.seen f) st.seen.lies st.seen.forms torn_ab table_a y (sym as_now ∙ none)))
          (is_shown s disks (b.seen f) i y o is.slots.index y_in o_in)))
          (mixed_number w64 old (b.seen f) new (place s q + 8 * y) mixed (whole s st.role q i j n table_role is.slots.slots words is.zeros.long y)
          (omega (arith, table_inside s st.role q i j n table_role is.slots.slots words is.zeros.long old good.lies, torn.no_shorter, y_in))))
          (same_or_none old new good.lies torn y y_in)

  pub clear_words : SameWords s (a.seen f) (b.seen f)
  clear_words = words_by s is.shape.some st.role (a.seen f) (b.seen f) st.seen.lies (Of (Table i)) (within s st.role (Of (Table i)) q (a.seen f) (b.seen f) table_role (around (a.seen f) (b.seen f) torn_ab)) (λ e. cc) (λ e. cc)

  table_b : IsTable s (b.seen f) i q
  table_b = (keeps_words s (a.seen f) (b.seen f) clear_words).tables i q table_a

  -- an entry that isn't one of them
  same_word : (x y : ℕ) → (x ≡ i → j ≤ y → y < j + n → ⊥) → x ≡ i → IsSame (a.seen f) (b.seen f) y
  same_word x y other here = elim (where_is j n y) [
    | In m m_in at ↦ absurd (other here (omega (arith, at)) (omega (arith, at, m_in)))
    | Out out ↦ word_out s st.role q i j n table_role is.slots.slots words is.zeros.long (a.seen f) (b.seen f) torn_ab y out
  ]

  shows_same : (x y o : ℕ) → x < s.tables → y < per s → o < s.sectors → (x ≡ i → IsSame (a.seen f) (b.seen f) y) → ShowsAs s x y o (b.seen f) (a.seen f)
  shows_same = rows.rows_shows s is.shape.some st.role (a.seen f) (b.seen f) st.seen.lies st.seen.forms q i table_role (around (a.seen f) (b.seen f) torn_ab) (sets (a.seen f) (b.seen f) st.seen.lies torn_ab)

  entry_same : (x y : ℕ) → x < s.tables → y < per s → (x ≡ i → IsSame (a.seen f) (b.seen f) y) → word_of s (b.seen f) x y ≡ word_of s (a.seen f) x y
  entry_same = rows.rows_entry s is.shape.some st.role (a.seen f) (b.seen f) st.seen.lies st.seen.forms q i table_role (around (a.seen f) (b.seen f) torn_ab) (sets (a.seen f) (b.seen f) st.seen.lies torn_ab)

  pub clear_leaves : LeavesRest s i j n (a.seen f) (b.seen f)
  clear_leaves = record {
    keeps = keeps_words s (a.seen f) (b.seen f) clear_words;
    entries = λ x y x_in y_in other. entry_same x y x_in y_in (same_word x y other);
    disk = λ x y o x_in y_in o_in other. shows_same x y o x_in y_in o_in (same_word x y other);
  }

  clear_leads : Leads f (IsGood s st.role disks) (IsGood s st.role disks) (IsSafe s (b.seen f ∷ disks)) (IsGood s st.role (b.seen f ∷ disks)) (IsGood s st.role (b.seen f ∷ disks)) a b
  clear_leads =
      write_leads (IsGood s st.role disks) (IsGood s st.role disks) (IsSafe s (b.seen f ∷ disks)) (IsGood s st.role (b.seen f ∷ disks)) (IsGood s st.role (b.seen f ∷ disks)) sound sound_b write_at
      (λ c good. more_safe s disks (b.seen f) c (safe s st.role disks c good)) (λ c good. safe s st.role (b.seen f ∷ disks) c good)
      (λ good torn. (holes_good (a.seen f) (b.seen f) good torn (mixed_now (a.seen f) (b.seen f)), holes_good))

  pub entries_cleared : EachSince b a.now f (IsSafe s (b.seen f ∷ disks)) × Standing s (b.seen f ∷ disks) first last f b
  entries_cleared = leads_stand st st.role (places st) call.run told (still_linked st (b.seen f) clear_leaves.keeps.blocks) clear_leads

  in_table : (m : ℕ) → m < n → j + m < per s
  in_table m m_in = omega (arith, is.slots.slots, m_in)

  -- whatever the write answered: the entries of a sector are as before, or all of them are 0
  pub clear_whether : (x : ℕ) → AreUntouched s q i j n x (a.seen f) (b.seen f) ⊎ AreCleared s q i j n x (b.seen f)
  clear_whether x = elim (sector_either s st.role q i j n table_role is.slots.slots words is.zeros.long (a.seen f) (b.seen f) st.seen.lies torn_ab x) [
    | inl same ↦ inl (λ m m_in here. (
      entry_same i (j + m) is.slots.index (in_table m m_in) (λ e. same m m_in here),
      λ o o_in. shows_same i (j + m) o is.slots.index (in_table m m_in) o_in (λ e. same m m_in here),
    ))
    | inr new ↦ inr (λ m m_in here. entry_some s (b.seen f) i (j + m) q is.shape.some table_b ∙ new m m_in here ∙ zero_word n m words is.zeros m_in)
  ]

  pub clear_done : HasWritten f spot words a b → IsTable s (b.seen f) i q × ((m : ℕ) → m < n → word_of s (b.seen f) i (j + m) ≡ 0)
  clear_done done =
      let new : b.seen f ≡ overlay (a.seen f) (place s q + 8 * j) words = done.seen told ∙ ap (λ (p : ℕ). overlay (a.seen f) p words) is.slots.at in (
        table_b,
        λ m m_in.
            entry_some s (b.seen f) i (j + m) q is.shape.some table_b ∙ ap (λ (c : List ℕ). u64_at c (place s q + 8 * (j + m))) new
            ∙ part_is s st.role q i j n table_role is.slots.slots words is.zeros.long (a.seen f) m (j + m) m_in refl ∙ zero_word n m words is.zeros m_in,
      )
