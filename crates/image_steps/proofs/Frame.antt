-- What a change in clusters of one role leaves as it is.
use Rattle.std.proofs.Common.{◌≡◌, ◌≢◌, ℕ, ◌+◌, ◌*◌, ◌<◌, List, sym, ◌∙◌, ap, arith}
use Rattle.std.specs.Int.{w16, w64}
use Rattle.disk_model.specs.Files.{u16_at, u64_at}
use Rattle.disk_model.proofs.Laws.{number_same}
use Rattle.image_model.specs.Clusters.{Shape, per, each, place, offset, Meets, Who, Counts, Tables, IsBlock, IsTable, Use, Of, IsZero, Lies}
use Rattle.image_steps.proofs.Places.{Elsewhere, cluster_of}

module _ (s : Shape) (some : 0 < s.sectors) (role : ℕ → Use) (old new : List ℕ) (lies : Lies s role old) (u : Use) (elsewhere : Elsewhere s role u old new) where
  pub word_in : (q slot : ℕ) → role q ≢ u → slot < per s → u64_at new (place s q + 8 * slot) ≡ u64_at old (place s q + 8 * slot)
  word_in q slot differ inside = number_same w64 new old (place s q + 8 * slot) (λ i low high. elsewhere.same q differ i (omega arith) (omega arith))

  pub half_in : (q slot : ℕ) → role q ≢ u → slot < each s → u16_at new (place s q + 2 * slot) ≡ u16_at old (place s q + 2 * slot)
  half_in q slot differ inside = number_same w16 new old (place s q + 2 * slot) (λ i low high. elsewhere.same q differ i (omega arith) (omega arith))

  pub zeros_in : (q : ℕ) → role q ≢ u → IsZero s old q → IsZero s new q
  zeros_in q differ zeros i low high = elsewhere.same q differ i low high ∙ zeros i low high

  -- a word of a table
  row : (who : Who) (from n i : ℕ) → u ≢ Of who → ((k : ℕ) → Meets s k from (8 * n) → role k ≡ Of who) → i < n → u64_at new (from + 8 * i) ≡ u64_at old (from + 8 * i)
  row who from n i differ meets inside = number_same w64 new old (from + 8 * i) (λ b low high.
      let c = cluster_of s some b in
      elsewhere.same c.cluster (λ e. differ (sym e ∙ meets c.cluster (omega (arith, c.high), omega (arith, c.low)))) b c.low c.high)

  pub block_word : u ≢ Of Counts → (i : ℕ) → i < s.blocks → u64_at new (s.counts + 8 * i) ≡ u64_at old (s.counts + 8 * i)
  block_word other i inside = row Counts s.counts s.blocks i other (λ k meets. lies.refs Counts k meets) inside

  pub l1_word : u ≢ Of Tables → (i : ℕ) → i < s.tables → u64_at new (s.l1 + 8 * i) ≡ u64_at old (s.l1 + 8 * i)
  l1_word other i inside = row Tables s.l1 s.tables i other (λ k meets. lies.refs Tables k meets) inside

  pub block_back : u ≢ Of Counts → (i q : ℕ) → IsBlock s new i q → IsBlock s old i q
  block_back other i q is = record { inside = is.inside; some = is.some; at = sym (block_word other i is.inside) ∙ is.at }

  pub block_on : u ≢ Of Counts → (i q : ℕ) → IsBlock s old i q → IsBlock s new i q
  block_on other i q is = record { inside = is.inside; some = is.some; at = block_word other i is.inside ∙ is.at }

  pub table_back : u ≢ Of Tables → (i q : ℕ) → IsTable s new i q → IsTable s old i q
  table_back other i q is = record { inside = is.inside; some = is.some; at = ap offset (sym (l1_word other i is.inside)) ∙ is.at }

  pub table_on : u ≢ Of Tables → (i q : ℕ) → IsTable s old i q → IsTable s new i q
  table_on other i q is = record { inside = is.inside; some = is.some; at = ap offset (l1_word other i is.inside) ∙ is.at }
