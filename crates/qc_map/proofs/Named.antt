-- Clusters that entries of a row name, and entries that have no bytes stored.
use Rattle.std.proofs.Common.{◌≡◌, inl, inr, ℕ, ◌+◌, ◌*◌, ◌/◌, ◌^◌, ◌<◌, ◌≤◌, List, not, IsTrue, sym, ◌∙◌, ap, subst, arith}
use Rattle.std.proofs.lemmas.Bool.{cases_eq, false≢true}
use Rattle.disk_model.specs.Files.{u64_at}
use Rattle.image_model.specs.Clusters.{Shape, size, per, place, offset, stored, Forms, host}
use Rattle.image_model.specs.Space.{is_data}
use Rattle.image_steps.proofs.Naming.{host_entry, entry_some}
use Rattle.image_steps.proofs.Places.{place_same, place_some}
use Rattle.map_rows.specs.Stores.{kind_of}
use Rattle.qc_alloc.specs.Laws.{IsNamedBy}
use Rattle.qc_map.specs.Altering.{HasRow, AreAllOpen}
use Rattle.qc_map.specs.Filling.{IsNamedIn}
use Rattle.qc_map.proofs.Over.{stored_kind}
use Rattle.qc_map.proofs.Places.{div_is}

pub place_times : (s : Shape) (k : ℕ) → place s k ≡ k * size s + 0
unfolding place
place_times s k = grind arith

-- an entry that has no bytes stored
pub open_stored : (w : ℕ) → IsTrue (not (is_data (kind_of w))) → stored w ≡ 0
open_stored w is_open = elim (cases_eq (stored w) 0) [
  | inl none ↦ none
  | inr some ↦ absurd (false≢true (sym (ap (λ k. not (is_data k)) (stored_kind w (omega (arith, some)))) ∙ is_open))
]

module _ {s : Shape} {spot i j n : ℕ} {row file : List ℕ} (some : 0 < s.sectors) (has : HasRow s spot i j n row file) where
  word_at : (m : ℕ) → m < n → u64_at row (8 * m) ≡ u64_at file (place s has.cluster + 8 * (j + m))
  word_at m m_in = has.words.each m m_in ∙ entry_some s file i (j + m) has.cluster some has.linked

  pub open_host : AreAllOpen n row → (m : ℕ) → m < n → host s file i (j + m) ≡ 0
  open_host opened m m_in = host_entry s file i (j + m) ∙ ap stored (sym (has.words.each m m_in)) ∙ open_stored (u64_at row (8 * m)) (opened m m_in)

  number_of : (bits k : ℕ) → 2 ^ bits ≡ size s → place s k / 2 ^ bits ≡ k
  number_of bits k cluster = ap (λ (z : ℕ). place s k / z) cluster ∙ div_is (place s k) (size s) k 0 (place_times s k) (omega (arith, some))

  pub named_by : (bits : ℕ) → 2 ^ bits ≡ size s → Forms s file → (k d : ℕ) → d ≤ n → IsNamedIn bits d row k → IsNamedBy s file i j d k
  named_by bits cluster forms k d few is =
      let m_in : is.entry < n = omega (arith, is.inside, few) in
      let slot : j + is.entry < per s = omega (arith, m_in, has.slots) in
      elim (forms.entries i has.cluster (j + is.entry) has.linked slot).at [
        | inl none ↦ absurd (is.some (ap offset (word_at is.entry m_in) ∙ none))
        | inr p ↦
            let is_k : p.cluster ≡ k = sym (number_of bits p.cluster cluster) ∙ ap (λ (o : ℕ). o / 2 ^ bits) (sym p.is ∙ ap offset (sym (word_at is.entry m_in))) ∙ is.is in
            subst (IsNamedBy s file i j d) is_k
            (record { behind = is.entry; inside = is.inside; names = record { table = has.cluster; linked = has.linked; inside = slot; some = p.some; at = p.is } })
      ]

  pub named_in : (bits : ℕ) → 2 ^ bits ≡ size s → (k d : ℕ) → d ≤ n → IsNamedBy s file i j d k → IsNamedIn bits d row k
  named_in bits cluster k d few is =
      let m_in : is.behind < n = omega (arith, is.inside, few) in
      let guest = is.names in
      let table : guest.table ≡ has.cluster = place_same s guest.table has.cluster some (sym guest.linked.at ∙ has.linked.at) in
      let at : offset (u64_at row (8 * is.behind)) ≡ place s k = ap offset (word_at is.behind m_in) ∙ ap (λ (q : ℕ). offset (u64_at file (place s q + 8 * (j + is.behind)))) (sym table) ∙ guest.at in
      let more = place_some s k some guest.some in
      record { entry = is.behind; inside = is.inside; some = λ none. absurd (omega (arith, more, at, none)); is = ap (λ (o : ℕ). o / 2 ^ bits) at ∙ number_of bits k cluster }
