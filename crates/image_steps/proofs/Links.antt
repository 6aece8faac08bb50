-- What reads give after a call on a guest's cluster.
use Rattle.std.proofs.Common.{◌≡◌, ◌≢◌, inl, inr, ℕ, ◌+◌, ◌*◌, ◌<◌, ◌≤◌, List, ◌∙◌, ap, arith}
use Rattle.std.proofs.lemmas.Bool.{cases_eq, cases_lt}
use Rattle.disk_model.specs.Files.{u64_at}
use Rattle.image_model.specs.Clusters.{Shape, per, offset, stored, Counts, Tables, Use, Of, Lies}
use Rattle.image_model.specs.Calls.{IsTakeable, Keeps, SameTables, SameBlocks, SameTablesBut, SameBlocksBut, IsNewTable}
use Rattle.image_model.specs.Runs.{AreOpen}
use Rattle.image_steps.proofs.Places.{Spares, Elsewhere, in_row, word_spared, place_some}
use Rattle.image_steps.proofs.Kept.{stored_none}
use Rattle.image_steps.proofs.Naming.{host_entry}
use Rattle.image_steps.proofs.Frame as frame

pub keeps_on : (s : Shape) (a b c : List ℕ) → Keeps s a b → Keeps s b c → Keeps s a c
keeps_on s a b c first second = record { blocks = λ i q is. second.blocks i q (first.blocks i q is); tables = λ i q is. second.tables i q (first.tables i q is) }

pub keeps_takeable : (s : Shape) (a b : List ℕ) (k : ℕ) → Keeps s a b → IsTakeable s k a → IsTakeable s k b
keeps_takeable s a b k keeps t = record { index = t.index; counts = t.counts; block = t.block; linked = keeps.blocks t.index t.block t.linked; differ = t.differ }

-- the words of the first level and of the refcount table are as they were
abbrev pub SameWords : Shape → List ℕ → List ℕ → Type 0
SameWords s old new = SameTables s old new × SameBlocks s old new

pub words_on : (s : Shape) (a b c : List ℕ) → SameWords s a b → SameWords s b c → SameWords s a c
words_on s a b c first second = (λ i inside. second.0 i inside ∙ first.0 i inside, λ i inside. second.1 i inside ∙ first.1 i inside)

pub keeps_words : (s : Shape) (old new : List ℕ) → SameWords s old new → Keeps s old new
keeps_words s old new same = record {
  blocks = λ i q is. record { inside = is.inside; some = is.some; at = same.1 i is.inside ∙ is.at };
  tables = λ i q is. record { inside = is.inside; some = is.some; at = ap offset (same.0 i is.inside) ∙ is.at };
}

-- one word of a table changed
other_word : (from i : ℕ) (old new : List ℕ) → Spares (from + 8 * i) 8 old new → (m : ℕ) → m ≢ i → u64_at new (from + 8 * m) ≡ u64_at old (from + 8 * m)
other_word from i old new spares m differ =
    word_spared (from + 8 * i) 8 old new (from + 8 * m) spares
    (elim (cases_lt m i) [ inl below ↦ inl (omega arith) | inr above ↦ inr (omega (arith, above, differ)) ])

module _ (s : Shape) (some : 0 < s.sectors) (role : ℕ → Use) (old new : List ℕ) (lies : Lies s role old) where
  -- a change in clusters of another role than tables'
  pub words_by : (u : Use) → Elsewhere s role u old new → u ≢ Of Counts → u ≢ Of Tables → SameWords s old new
  words_by u elsewhere no_counts no_tables = (
    frame.l1_word s some role old new lies u elsewhere no_tables,
    frame.block_word s some role old new lies u elsewhere no_counts,
  )

  -- a change of one word of the first level
  pub words_table : (i : ℕ) → i < s.tables → Spares (s.l1 + 8 * i) 8 old new → SameTablesBut s i old new × SameBlocks s old new
  words_table i inside spares =
      let elsewhere = in_row s role Tables s.l1 s.tables i old new inside (λ k m. lies.refs Tables k m) spares in (
        λ m m_in differ. other_word s.l1 i old new spares m differ,
        frame.block_word s some role old new lies (Of Tables) elsewhere (λ e. cc),
      )

  -- of the refcount table
  pub words_block : (i : ℕ) → i < s.blocks → Spares (s.counts + 8 * i) 8 old new → SameTables s old new × SameBlocksBut s i old new
  words_block i inside spares =
      let elsewhere = in_row s role Counts s.counts s.blocks i old new inside (λ k m. lies.refs Counts k m) spares in (
        frame.l1_word s some role old new lies (Of Counts) elsewhere (λ e. cc),
        λ m m_in differ. other_word s.counts i old new spares m differ,
      )

-- that word linked none
pub keeps_row : (s : Shape) (some : 0 < s.sectors) (old new : List ℕ) (i0 : ℕ) → offset (u64_at old (s.l1 + 8 * i0)) ≡ 0
    → SameTablesBut s i0 old new × SameBlocks s old new → Keeps s old new
keeps_row s some old new i0 none same = record {
  blocks = λ i q is. record { inside = is.inside; some = is.some; at = same.1 i is.inside ∙ is.at };
  tables = λ i q is. elim (cases_eq i i0) [
    | inl here ↦ absurd (omega (arith, is.at, none, ap (λ (x : ℕ). offset (u64_at old (s.l1 + 8 * x))) here, place_some s q some is.some))
    | inr differ ↦ record { inside = is.inside; some = is.some; at = ap offset (same.0 i is.inside differ) ∙ is.at }
  ];
}

-- the entries of a new table are holes
pub new_open : {s : Shape} {t i j n word : ℕ} {file : List ℕ} → IsNewTable s t i word file → j + n ≤ per s → AreOpen s t i j n file
new_open {s} {t} {i} {j} {n} {word} {file} is inside = record { linked = is.linked; none = λ m m_in. host_entry s file i (j + m) ∙ ap stored (is.none (j + m) (omega (arith, inside, m_in))) ∙ stored_none }
