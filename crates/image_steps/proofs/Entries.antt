-- Calls on a guest's cluster.
use Rattle.std.proofs.Common.{◌≡◌, ℕ, ◌+◌, ◌*◌, ◌<◌, IsTrue, List, length, replicate, refl, sym, ◌∙◌, ap, subst, arith, ◌⊎◌, ⊎_elim, inl, inr, ◌/◌}
use Rattle.std.proofs.lemmas.List.{get_or-replicate}
use Rattle.std.specs.Int.{from_be_bytes, w64}
use Rattle.disk_model.specs.Files.{u64_at, overlay}
use Rattle.disk_model.specs.World.{World, IsSound, Writes, HasWritten, EachSince}
use Rattle.disk_model.proofs.Laws.{lead_from, one_sector_write, number-overlay_same}
use Rattle.image_model.specs.Clusters.{Shape, per, place, offset, Table, IsTable, Use, Ready, Of, IsBlank, IsShape, IsZero, word_of, ShowsAs, IsGood, IsSafe, IsLink, IsTaking, Standing}
use Rattle.image_model.specs.Calls.{Told, SameGuest, IsSlot, IsIn, IsTablePut, IsData, Keeps, SameBlocks, SameTablesBut, LeavesGuest, LeavesOthers, IsNewTable}
use Rattle.image_model.specs.Runs.{LeavesRest, IsInSector}
use Rattle.image_model.specs.Rows.{IsOverwriting, IsClearing, AreUntouched, AreCleared}
use Rattle.image_steps.proofs.Places.{place_next, Spares, torn_spares, spares_more, sector_at}
use Rattle.image_steps.proofs.Good.{take, row_set}
use Rattle.image_steps.proofs.Calls.{row_leads, row_inside}
use Rattle.image_steps.proofs.Standing.{put, taking, places, is_ready, taken_places, taken_linked, leads_stand}
use Rattle.image_steps.proofs.Links.{words_table, keeps_row}
use Rattle.image_steps.proofs.Naming.{table_entry, table_alike, alike_self}

-- ---- one cluster is a run of one

-- what is said of each of one
pub the_one : (P : ℕ → ℕ → Type 0) (j k : ℕ) → ((m : ℕ) → m < 1 → P (j + m) (k + m)) → P j k
the_one P j k each =
    let first : j + 0 ≡ j = omega arith in
    let second : k + 0 ≡ k = omega arith in
    subst (λ (x : ℕ). P x k) first (subst (λ (y : ℕ). P (j + 0) y) second (each 0 (omega arith)))

only_one : (P : ℕ → ℕ → Type 0) (j k : ℕ) → P j k → (m : ℕ) → m < 1 → P (j + m) (k + m)
only_one P j k is m m_in =
    let first : j ≡ j + m = omega (arith, m_in) in
    let second : k ≡ k + m = omega (arith, m_in) in
    subst (λ (x : ℕ). P x (k + m)) first (subst (λ (y : ℕ). P j y) second is)

pub one_run : {s : Shape} {i j k at long f : ℕ} {w : World} → IsShape s → i < s.tables → j < per s → IsIn s k at long → Told (IsData s i j k) f w → IsOverwriting s k 1 i j at long f w
one_run {s} {i} {j} {k} {at} {long} {f} {w} shape i_in j_in inside there = record {
  shape = shape;
  index = i_in;
  slots = omega (arith, j_in);
  some = inside.some;
  low = inside.low;
  high = omega (arith, inside.high, place_next s k);
  there = λ told. only_one (λ x y. IsData s i x y (w.seen f)) j k (there told);
}

pub one_row : {s : Shape} {q i j spot f : ℕ} {w : World} → IsShape s → IsSlot s q i j spot → Told (λ c. IsTable s c i q) f w → IsClearing s q i j 1 spot f (replicate 8 0) w
one_row {s} {q} {i} {j} {spot} {f} {w} shape slot table = record {
  shape = shape;
  slots = record { index = slot.index; slots = omega (arith, slot.slot); at = slot.at };
  zeros = record { long = refl; none = λ t inside. get_or-replicate 8 t 0 0 (omega (arith, inside)) };
  table = table;
}

pub one_rest : {s : Shape} {i j : ℕ} {old new : List ℕ} → LeavesRest s i j 1 old new → LeavesOthers s i j old new
one_rest {s} {i} {j} {old} {new} leaves = record {
  keeps = leaves.keeps;
  but = record {
    entries = λ x y x_in y_in other. leaves.entries x y x_in y_in (λ here low high. other here (omega (arith, low, high)));
    disk = λ x y o x_in y_in o_in other. leaves.disk x y o x_in y_in o_in (λ here low high. other here (omega (arith, low, high)));
  };
}

-- an entry lies in one sector
pub one_either : (s : Shape) (q i j : ℕ) (old new : List ℕ) → ((x : ℕ) → AreUntouched s q i j 1 x old new ⊎ AreCleared s q i j 1 x new)
    → ((word_of s new i j ≡ word_of s old i j) × ((o : ℕ) → o < s.sectors → ShowsAs s i j o new old)) ⊎ (word_of s new i j ≡ 0)
one_either s q i j old new whether =
    let x = (place s q + 8 * j) / 512 in
    let here : (m : ℕ) → m < 1 → IsInSector s q (j + m) ((place s q + 8 * j) / 512) = (λ m m_in. omega (arith, m_in)) in
    elim (whether x) [
      | inl same ↦ inl (the_one (λ y z. (word_of s new i y ≡ word_of s old i y) × ((o : ℕ) → o < s.sectors → ShowsAs s i y o new old)) j j (λ m m_in. same m m_in (here m m_in)))
      | inr none ↦ inr (the_one (λ y z. word_of s new i y ≡ 0) j j (λ m m_in. none m m_in (here m m_in)))
    ]

-- ---- a second-level table

module _ {s : Shape} {disks : List (List ℕ)} {first last t i spot entry f : ℕ} {word : List ℕ} {a b : World} (is : IsTablePut s first last t i spot entry f a) (sound : IsSound a) (sound_b : IsSound b) (call : Writes f spot word a b)
    (eight : length word ≡ 8) (says : from_be_bytes w64 word ≡ entry) (told : IsTrue a.tells) (st : Standing s disks first last f a) where
  row_at : Writes f (s.l1 + 8 * i) word a b
  row_at = subst (λ (p : ℕ). Writes f p word a b) is.at call

  row_ready : st.role t ≡ Ready
  row_ready = is_ready st t is.among (is.takeable told)

  row_role : ℕ → Use
  row_role = put st.role t (Of (Table i))

  row_takes : IsTaking st.role row_role t (Table i)
  unfolding row_role
  row_takes = taking st.role t (Table i) row_ready

  row_link : IsLink s (from_be_bytes w64 word) t
  row_link = says ∙ is.link

  row_has : (c : List ℕ) → IsGood s st.role disks c → IsGood s row_role disks c × IsZero s c t
  row_has c good = (
    record { lies = take s st.role row_role t (Table i) c tt row_takes good.lies; forms = good.forms; kept = good.kept },
    good.lies.zeros t (subst IsBlank (sym row_ready) tt),
  )

  table_row_spares : Spares (s.l1 + 8 * i) 8 (a.seen f) (b.seen f)
  table_row_spares = spares_more (s.l1 + 8 * i) (length word) (s.l1 + 8 * i) 8 (a.seen f) (b.seen f) (omega arith) (omega (arith, eight)) (torn_spares (s.l1 + 8 * i) word (a.seen f) (b.seen f) (row_at.torn told))

  pub table_words : SameTablesBut s i (a.seen f) (b.seen f) × SameBlocks s (a.seen f) (b.seen f)
  table_words = words_table s is.shape.some st.role (a.seen f) (b.seen f) st.seen.lies i is.index table_row_spares

  table_keeps_links : Keeps s (a.seen f) (b.seen f)
  table_keeps_links = keeps_row s is.shape.some (a.seen f) (b.seen f) i (is.none told) table_words

  pub table_added : EachSince b a.now f (IsSafe s disks) × Standing s disks (t + 1) last f b
  table_added = leads_stand st row_role (taken_places s st.role row_role first last t (Table i) (λ n e. cc) row_takes is.among.from is.among.to (places st)) call.run told
      (taken_linked s st.role row_role first last t (Table i) (λ n e. cc) row_takes is.among.from is.among.to (a.seen f) (b.seen f) table_keeps_links.blocks st.linked)
      (lead_from (IsGood s st.role disks) (IsGood s st.role disks) row_has row_has
      (row_leads s is.shape disks row_role t i is.some is.index row_takes.taken word eight row_link sound sound_b row_at (is.none told)))

  -- the entry is as before, or written
  row_either : (b.seen f ≡ a.seen f) ⊎ (b.seen f ≡ overlay (a.seen f) (s.l1 + 8 * i) word)
  row_either = one_sector_write (s.l1 + 8 * i) word (a.seen f) (b.seen f) ((s.l1 + 8 * i) / 512) (row_at.torn told)
      (omega (arith, row_inside s st.role i (a.seen f) is.shape.some is.index st.seen.lies, eight)) (omega arith) (omega (arith, eight, is.shape.l1_place.is, sector_at s is.shape.l1_place.cluster 0))

  row_good : IsGood s row_role disks (a.seen f) × IsZero s (a.seen f) t
  row_good = row_has (a.seen f) st.seen

  row_done : b.seen f ≡ overlay (a.seen f) (s.l1 + 8 * i) word → offset (u64_at (b.seen f) (s.l1 + 8 * i)) ≡ place s t
  row_done new = ap (λ (c : List ℕ). offset (u64_at c (s.l1 + 8 * i))) new ∙ row_set s is.shape disks row_role t i is.some is.index row_takes.taken word eight row_link (a.seen f) row_good.0

  pub table_leaves : LeavesGuest s (a.seen f) (b.seen f)
  table_leaves = record {
    keeps = table_keeps_links;
    alike = ⊎_elim
        (λ (same : b.seen f ≡ a.seen f). subst (SameGuest s (a.seen f)) (sym same) (alike_self s (a.seen f)))
        (λ (new : b.seen f ≡ overlay (a.seen f) (s.l1 + 8 * i) word).
        table_alike s is.shape.some row_role (a.seen f) (b.seen f) row_good.0.lies row_good.0.forms t i is.index is.some row_takes.taken row_good.1 table_row_spares (row_done new) (is.none told))
        row_either;
  }

  table_new : b.seen f ≡ overlay (a.seen f) (s.l1 + 8 * i) word → IsNewTable s t i entry (b.seen f)
  table_new new = record {
    linked = record { inside = is.index; some = is.some; at = row_done new };
    names = ap (λ (c : List ℕ). u64_at c (s.l1 + 8 * i)) new ∙ number-overlay_same w64 (a.seen f) (s.l1 + 8 * i) word eight ∙ says;
    none = table_entry s is.shape.some row_role (a.seen f) (b.seen f) row_good.0.lies row_good.0.forms t i is.index
        is.some row_takes.taken row_good.1 table_row_spares (row_done new);
  }

  pub table_either : (u64_at (b.seen f) spot ≡ u64_at (a.seen f) spot) ⊎ IsNewTable s t i entry (b.seen f)
  table_either = ⊎_elim
      (λ (same : b.seen f ≡ a.seen f). inl (ap (λ (c : List ℕ). u64_at c spot) same))
      (λ (new : b.seen f ≡ overlay (a.seen f) (s.l1 + 8 * i) word). inr (table_new new))
      row_either

  pub table_done : HasWritten f spot word a b → IsNewTable s t i entry (b.seen f)
  table_done done = table_new (done.seen told ∙ ap (λ (p : ℕ). overlay (a.seen f) p word) is.at)
