-- How an image's tables go on.
use Rattle.std.proofs.Common.{◌≡◌, ◌≢◌, ◌⊎◌, inl, inr, ⊎_elim, ℕ, ◌+◌, ◌*◌, ◌/◌, ◌<◌, ◌≤◌, List, length, refl, sym, ap, subst, ◌∙◌, arith}
use Rattle.std.proofs.lemmas.Bool.{ne_eqb, cases_lt, cases_eq}
use Rattle.disk_model.specs.Files.{u64_at}
use Rattle.qc_layout.specs.Entries.{offset_in}
use Rattle.qc_layout.specs.FirstForm.{l1_offset, host_of, table_offset, clusters_of}
use Rattle.qback_top.specs.Open.{entry_of, NamesNew, TablesGoOn, GrowsByNamed}
use Rattle.qback_top.proofs.Disk.{host_none, host_some}

pub entry_none : (file : List ℕ) (n : ℕ) → table_offset file ≡ 0 → entry_of file n ≡ 0
unfolding entry_of
entry_none file n none = rw none refl

pub entry_some : (file : List ℕ) (n : ℕ) → table_offset file ≢ 0 → entry_of file n ≡ u64_at file (table_offset file + 8 * n)
unfolding entry_of
entry_some file n some = rw (ne_eqb (table_offset file) 0 some) refl

-- a cluster is stored where its entry says
pub host_entry : (file : List ℕ) (n : ℕ) → host_of file n ≡ offset_in (entry_of file n)
host_entry file n = elim (cases_eq (table_offset file) 0) [
  | inl none ↦ sym (host_none file n none) ∙ sym (ap offset_in (entry_none file n none))
  | inr some ↦ sym (host_some file n some) ∙ sym (ap offset_in (entry_some file n some))
]

-- from a later end on
names_later : (end more entry : ℕ) → end ≤ more → NamesNew more entry → NamesNew end entry
names_later end more entry le names = record { some = names.some; place = (let p = names.place in omega arith); spelled = names.spelled }

-- an entry that names a cluster isn't 0
named_some : (end entry : ℕ) → NamesNew end entry → entry ≡ 0 → ⊥
named_some end entry names none = let s = names.spelled in absurd (omega arith)

pub goes_none : (f : List ℕ) → TablesGoOn f f
goes_none f = record { head = refl; table = inl refl; entries = λ n lt. inl refl }

module _ {a b c : List ℕ} (first : TablesGoOn a b) (second : TablesGoOn b c) (longer : length a ≤ length b) where
  l1_same : l1_offset b ≡ l1_offset a
  l1_same = ap (λ (h : List ℕ). u64_at h 40) first.head

  l1_again : l1_offset c ≡ l1_offset b
  l1_again = ap (λ (h : List ℕ). u64_at h 40) second.head

  clusters_same : clusters_of b ≡ clusters_of a
  clusters_same = ap (λ (h : List ℕ). (u64_at h 24 + 4095) / 4096) first.head

  -- the table of the second file
  table_b : u64_at b (l1_offset b) ≡ u64_at b (l1_offset a)
  table_b = ap (u64_at b) l1_same

  -- the third file's table is the second's where that has one
  table_stays : table_offset b ≢ 0 → table_offset c ≡ table_offset b
  table_stays some = ⊎_elim
      (λ (same : u64_at c (l1_offset b) ≡ u64_at b (l1_offset b)). ap (λ (o : ℕ). offset_in (u64_at c o)) l1_again ∙ ap offset_in same)
      (λ (new : (table_offset b ≡ 0) × NamesNew (length b) (u64_at c (l1_offset b))). absurd (some new.0))
      second.table

  table_on : (u64_at c (l1_offset a) ≡ u64_at a (l1_offset a)) ⊎ ((table_offset a ≡ 0) × NamesNew (length a) (u64_at c (l1_offset a)))
  table_on = ⊎_elim
      (λ (same : u64_at c (l1_offset b) ≡ u64_at b (l1_offset b)).
      let is : u64_at c (l1_offset a) ≡ u64_at b (l1_offset a) = ap (u64_at c) (sym l1_same) ∙ same ∙ table_b in
      ⊎_elim
      (λ (old : u64_at b (l1_offset a) ≡ u64_at a (l1_offset a)). inl (is ∙ old))
      (λ (new : (table_offset a ≡ 0) × NamesNew (length a) (u64_at b (l1_offset a))). inr (new.0, subst (NamesNew (length a)) (sym is) new.1))
      first.table)
      (λ (new : (table_offset b ≡ 0) × NamesNew (length b) (u64_at c (l1_offset b))). ⊎_elim
      (λ (old : u64_at b (l1_offset a) ≡ u64_at a (l1_offset a)). inr (
        ap offset_in (sym old ∙ sym table_b) ∙ new.0,
        subst (λ (o : ℕ). NamesNew (length a) (u64_at c o)) l1_same (names_later (length a) (length b) (u64_at c (l1_offset b)) longer new.1),
      ))
      (λ (made : (table_offset a ≡ 0) × NamesNew (length a) (u64_at b (l1_offset a))).
      let some = made.1.some in
      let none : offset_in (u64_at b (l1_offset a)) ≡ 0 = ap offset_in (sym table_b) ∙ new.0 in
      absurd (omega arith))
      first.table)
      second.table

  entries_on : (n : ℕ) → n < 512 → (entry_of c n ≡ entry_of a n) ⊎ ((n < clusters_of a) × (entry_of a n ≡ 0) × NamesNew (length a) (entry_of c n))
  entries_on n lt = ⊎_elim
      (λ (same : entry_of c n ≡ entry_of b n). ⊎_elim
      (λ (old : entry_of b n ≡ entry_of a n). inl (same ∙ old))
      (λ (new : (n < clusters_of a) × (entry_of a n ≡ 0) × NamesNew (length a) (entry_of b n)). inr (new.0, new.1, subst (NamesNew (length a)) (sym same) new.2))
      (first.entries n lt))
      (λ (new : (n < clusters_of b) × (entry_of b n ≡ 0) × NamesNew (length b) (entry_of c n)). ⊎_elim
      (λ (old : entry_of b n ≡ entry_of a n). inr (subst (λ (k : ℕ). n < k) clusters_same new.0, sym old ∙ new.1, names_later (length a) (length b) (entry_of c n) longer new.2))
      (λ (made : (n < clusters_of a) × (entry_of a n ≡ 0) × NamesNew (length a) (entry_of b n)). absurd (named_some (length a) (entry_of b n) made.2 new.1))
      (first.entries n lt))
      (second.entries n lt)

  -- a stored cluster stays where it is
  host_stays : (n : ℕ) → n < 512 → host_of b n ≢ 0 → host_of c n ≡ host_of b n
  host_stays n lt some = ⊎_elim
      (λ (same : entry_of c n ≡ entry_of b n). host_entry c n ∙ ap offset_in same ∙ sym (host_entry b n))
      (λ (new : (n < clusters_of b) × (entry_of b n ≡ 0) × NamesNew (length b) (entry_of c n)). absurd (some (host_entry b n ∙ ap offset_in new.1)))
      (second.entries n lt)

  pub goes_on : TablesGoOn a c
  goes_on = record { head = second.head ∙ first.head; table = table_on; entries = entries_on }

  -- each cluster by which the file grew in two steps is named
  pub grown_on : ((n : ℕ) → n < clusters_of b → n < 512) → GrowsByNamed a b → GrowsByNamed b c → GrowsByNamed a c
  grown_on few one two o some low high whole = elim (cases_lt o (length b)) [
    | inl early ↦ ⊎_elim
        (λ (table : table_offset b ≡ o). inl (table_stays (λ none. absurd (omega (arith, none, table))) ∙ table))
        (λ (host : (n : ℕ) × (n < clusters_of a) × (host_of b n ≡ o)). inr (host.0, host.1, host_stays host.0 (few host.0 (subst (λ (k : ℕ). host.0 < k) (sym clusters_same) host.1)) (λ none. (let is = host.2 in absurd (omega (arith, none)))) ∙ host.2))
        (one o some low early whole)
    | inr late ↦ ⊎_elim
        (λ (table : table_offset c ≡ o). inl table)
        (λ (host : (n : ℕ) × (n < clusters_of b) × (host_of c n ≡ o)). inr (host.0, subst (λ (k : ℕ). host.0 < k) clusters_same host.1, host.2))
        (two o some late high whole)
  ]
