-- What the settling of a history adds to it: writes alone, which lead to the disk that was found.
use Rattle.std.proofs.lemmas.Grind.{common_steps}
use Rattle.std.proofs.Common.{rules}
use Rattle.std.proofs.Common.{◌≡◌, ℕ, ◌+◌, ◌-◌, ◌*◌, ◌/◌, ◌<◌, ◌≤◌, min, inl, inr, refl, sym, ap, subst, ◌∙◌, arith, List, [], ◌∷◌, length, map, take, drop, get_or}
use Rattle.std.specs.Prelude.{All, Any, ◌==◌, nat_lt, if◌then◌else◌, bytes_eq}
use Rattle.std.specs.List.{range_with_len}
use Rattle.std.proofs.lemmas.List.{ext_get_or, length-take, length-drop, get_or-take, get_or-drop, append-nil}
use Rattle.std.proofs.lemmas.List.FromFn.{length-map-range_with_len, get_or-map-range_with_len}
use Rattle.std.proofs.lemmas.List.Elements.{All-cons, All-nil, All-head, All-tail, All-map, All-from_get_or}
use Rattle.std.proofs.lemmas.List.Sums.{sum_by-cons}
use Rattle.std.proofs.lemmas.Bool.{cases_lt, cases_Bool, cond_both, cond-true, cond-false, eqb-false, ne_eqb}
use Rattle.std.proofs.lemmas.Slice.Eq.{bytes_eq-Decides}
use Rattle.disk_model.specs.Files.{overlay}
use Rattle.disk_model.proofs.Bytes.{byte-overlay_below, byte-overlay_in, byte-overlay_above}
use Rattle.span_algebra.specs.declared.lists.Run.{Run}
use Rattle.span_algebra.specs.Timelines.{Extent, LieInside, IsRising}
use Rattle.span_algebra.specs.Spans.{granule}
use Rattle.bitmap_model.specs.Runs.{shared, parts_of, put_in_front, joined, runs_of}
use Rattle.bitmap_model.specs.Laws.{total_of, flags_at}
use Rattle.bitmap_model.proofs.Places.{granule_from, granule_to}
use Rattle.bitmap_model.proofs.Totals.{runs_total, runs_flags}
use Rattle.plain_model.specs.History.{Entry, Wrote, History, IsHistory, disk_after, now, without_bytes, timeline_of}
use Rattle.plain_model.specs.Step.{sector}
use Rattle.plain_model.specs.Lawful.{difference, writes_of, settle, Kept}
use Rattle.plain_model.specs.Laws.{IsLikeDisk, SettlesTo}
use Rattle.plain_model.proofs.Histories.{length-disk_after, length-now, inside-append}
use Rattle.plain_model.proofs.Points.{with_entries, timeline-more, now-more}
use Rattle.plain_model.proofs.Rising.{AreWrites, rise-writes}
use Rattle.plain_model.proofs.RecordLaws.{record-more}

-- ---- the writes

are_writes : (disk : List ℕ) (at : ℕ) (runs : List Run) → AreWrites (map without_bytes (writes_of disk at runs))
are_writes disk at [] = tt
are_writes disk at (r ∷ runs) = search (rules, are_writes disk (at + r.length) runs)

lie_inside : (disk : List ℕ) (at : ℕ) (runs : List Run) → at + total_of runs ≤ length disk → LieInside (length disk) (map without_bytes (writes_of disk at runs))
lie_inside disk at [] fits = tt
lie_inside disk at (r ∷ runs) fits =
    let total : total_of (r ∷ runs) ≡ r.length + total_of runs = sum_by-cons (λ (s : Run). s.length) r runs in
    let more : LieInside (length disk) (map without_bytes (writes_of disk (at + r.length) runs)) = lie_inside disk (at + r.length) runs (omega arith) in
    cond_both (r.flags == 1) (Wrote at (take r.length (drop at disk)) ∷ writes_of disk (at + r.length) runs) (writes_of disk (at + r.length) runs)
    (λ es. LieInside (length disk) (map without_bytes es))
    (λ _. (omega (arith, length-take r.length (drop at disk), length-drop at disk), more)) (λ _. more)

-- a byte that lies before the runs, or in none that is flagged, has its value already
pub record IsDue (disk d : List ℕ) (x at : ℕ) (runs : List Run) : Type 0 where
  pub before : x < at → get_or d x 0 ≡ get_or disk x 0
  pub unflagged : at ≤ x → (flags_at runs (x - at) ≡ 1 → ⊥) → get_or d x 0 ≡ get_or disk x 0

flags-later : (r : Run) (runs : List Run) (at x : ℕ) → at + r.length ≤ x → flags_at (r ∷ runs) (x - at) ≡ flags_at runs (x - (at + r.length))
flags-later r runs at x later = search rules

due-written : (disk d : List ℕ) (x at : ℕ) (r : Run) (runs : List Run) → x < length disk → IsDue disk d x at (r ∷ runs)
    → IsDue disk (overlay d at (take r.length (drop at disk))) x (at + r.length) runs
due-written disk d x at r runs inside due =
    let bytes : List ℕ = take r.length (drop at disk) in
    let long : length bytes ≡ min r.length (length disk - at) = omega (arith, length-take r.length (drop at disk), length-drop at disk) in
    record {
      before = λ below. elim (cases_lt x at) [
        | inl first ↦ byte-overlay_below d at bytes x first ∙ due.before first
        | inr here ↦ byte-overlay_in d at bytes x here (omega arith)
            ∙ (get_or-take r.length (drop at disk) (x - at) 0 (omega arith) ∙ (get_or-drop at disk (x - at) 0 ∙ ap (λ (i : ℕ). get_or disk i 0) (omega arith)))
      ];
      unflagged = λ later other. byte-overlay_above d at bytes x (omega arith)
          ∙ due.unflagged (omega arith) (λ flagged. other (sym (flags-later r runs at x later) ∙ flagged));
    }

due-kept : (disk d : List ℕ) (x at : ℕ) (r : Run) (runs : List Run) → (r.flags ≡ 1 → ⊥) → IsDue disk d x at (r ∷ runs) → IsDue disk d x (at + r.length) runs
due-kept disk d x at r runs other due = search rules

byte_settled : (disk d : List ℕ) (x at : ℕ) (runs : List Run) → x < length disk → IsDue disk d x at runs → get_or (disk_after d (writes_of disk at runs)) x 0 ≡ get_or disk x 0
byte_settled disk d x at [] inside due = elim (cases_lt x at) [ inl first ↦ due.before first | inr later ↦ due.unflagged later (λ flagged. absurd (omega (arith, flagged))) ]
byte_settled disk d x at (r ∷ runs) inside due =
    let bytes : List ℕ = take r.length (drop at disk) in
    cond_both (r.flags == 1) (Wrote at bytes ∷ writes_of disk (at + r.length) runs) (writes_of disk (at + r.length) runs)
    (λ es. get_or (disk_after d es) x 0 ≡ get_or disk x 0)
    (λ flagged. byte_settled disk (overlay d at bytes) x (at + r.length) runs inside (due-written disk d x at r runs inside due))
    (λ other. byte_settled disk d x (at + r.length) runs inside (due-kept disk d x at r runs (eqb-false r.flags 1 other) due))

-- ---- the sectors in which two disks differ

byte-sector : (disk : List ℕ) (x : ℕ) → get_or (sector disk (x / 512)) (x - 512 * (x / 512)) 0 ≡ get_or disk x 0
byte-sector disk x =
    let low : x / 512 * 512 ≤ x = granule_from x 512 in
    let high : x < x / 512 * 512 + 512 = granule_to x 512 (omega arith) in
    get_or-take 512 (drop (512 * (x / 512)) disk) (x - 512 * (x / 512)) 0 (omega arith)
    ∙ (get_or-drop (512 * (x / 512)) disk (x - 512 * (x / 512)) 0 ∙ ap (λ (i : ℕ). get_or disk i 0) (omega arith))

abbrev differs : List ℕ → List ℕ → ℕ → ℕ
differs a b k = if bytes_eq (sector a k) (sector b k) then 0 else 1

-- a byte of a sector that isn't flagged is the same on both
unflagged_same : (a b : List ℕ) (x : ℕ) → x / 512 < length a / 512 → (get_or (difference a b) (x / 512) 0 ≡ 1 → ⊥) → get_or a x 0 ≡ get_or b x 0
unflagged_same a b x inside other =
    let k : ℕ = x / 512 in
    let is : get_or (difference a b) k 0 ≡ differs a b k = get_or-map-range_with_len (differs a b) 0 (length a / 512) k k 0 inside (omega arith) in
    elim (cases_Bool (bytes_eq (sector a k) (sector b k))) [
      | inl same ↦ sym (byte-sector a x)
          ∙ (ap (λ (s : List ℕ). get_or s (x - 512 * k) 0) ((bytes_eq-Decides (sector a k) (sector b k)).0 same) ∙ byte-sector b x)
      | inr not_same ↦ absurd (other (is ∙ cond-false (bytes_eq (sector a k) (sector b k)) 0 1 not_same))
    ]

-- the runs of sectors that differ, and the writes that are due
abbrev differing : List ℕ → List ℕ → List Run
differing old disk = runs_of 512 (difference old disk) (record { at = 0; size = length disk })

abbrev due_writes : List ℕ → List ℕ → List Entry
due_writes old disk = writes_of disk 0 (differing old disk)

sectors-fit : (old disk : List ℕ) (n : ℕ) → length old ≡ length disk → length disk ≡ n * 512 → 0 + length disk ≤ length (difference old disk) * 512
sectors-fit old disk n long whole = search (rules, length-map-range_with_len)

due-inside : (old disk : List ℕ) (n : ℕ) → length old ≡ length disk → length disk ≡ n * 512 → LieInside (length disk) (map without_bytes (due_writes old disk))
due-inside old disk n long whole =
    let total : total_of (differing old disk) ≡ length disk =
    runs_total 512 (difference old disk) (record { at = 0; size = length disk }) (omega arith) (sectors-fit old disk n long whole) in
    lie_inside disk 0 (differing old disk) (omega arith)

due-leads : (old disk : List ℕ) (n : ℕ) → length old ≡ length disk → length disk ≡ n * 512 → disk_after old (due_writes old disk) ≡ disk
due-leads old disk n long whole =
    let runs : List Run = differing old disk in
    let same : length (disk_after old (due_writes old disk)) ≡ length disk =
    length-disk_after old (due_writes old disk) (subst (λ (k : ℕ). LieInside k (map without_bytes (due_writes old disk))) (sym long) (due-inside old disk n long whole)) ∙ long in
    ext_get_or 0 (disk_after old (due_writes old disk)) disk same
    (λ x below.
    let inside : x < length disk = omega arith in
    let low : x / 512 * 512 ≤ x = granule_from x 512 in
    let flag : flags_at runs x ≡ get_or (difference old disk) ((0 + x) / 512) 0 =
    runs_flags 512 (difference old disk) (record { at = 0; size = length disk }) x (omega arith) (sectors-fit old disk n long whole) inside in
    let here : flags_at runs (x - 0) ≡ get_or (difference old disk) (x / 512) 0 =
    ap (flags_at runs) (omega arith) ∙ (flag ∙ ap (λ (y : ℕ). get_or (difference old disk) (y / 512) 0) (omega arith)) in
    byte_settled disk old x 0 runs inside (record {
      before = λ none. absurd (omega (arith, none));
      unflagged = λ _ other. unflagged_same old disk x (omega arith) (λ flagged. other (here ∙ flagged));
    }))

pub settles : (h : History) (disk : List ℕ) → IsHistory h → IsLikeDisk h disk → SettlesTo h disk
unfolding settle
settles h disk history like =
    let old : List ℕ = now h in
    let long : length old ≡ length disk = length-now h history.inside ∙ sym like.long in
    let ws : List Entry = due_writes old disk in
    record {
      leads = now-more h ws ∙ due-leads old disk like.whole.0 long like.whole.1;
      is_history = record {
        inside = inside-append (length h.start) h.entries ws history.inside
            (subst (λ (k : ℕ). LieInside k (map without_bytes ws)) like.long (due-inside old disk like.whole.0 long like.whole.1));
        rising = subst IsRising (sym (timeline-more h ws)) (rise-writes (timeline_of h).entries (map without_bytes ws) history.rising (are_writes disk 0 (differing old disk)));
      };
      records = record-more h ws;
    }

-- ---- nothing to settle

abbrev IsUnflagged : Run → Type 0
IsUnflagged r = r.flags ≡ 0

unflagged-parts : (e : Extent) (k : ℕ) (flags : List ℕ) → All (λ f. f ≡ 0) flags → All IsUnflagged (parts_of 512 e k flags)
unflagged-parts e k [] all = All-nil IsUnflagged
unflagged-parts e k (f ∷ flags) all =
    let r : Run = record { length = shared e (granule 512 k); flags = f } in
    let rest : All IsUnflagged (parts_of 512 e (k + 1) flags) = unflagged-parts e (k + 1) flags (All-tail (λ f. f ≡ 0) f flags all) in
    cond_both (nat_lt 0 (shared e (granule 512 k))) (r ∷ parts_of 512 e (k + 1) flags) (parts_of 512 e (k + 1) flags) (All IsUnflagged)
    (λ _. All-cons IsUnflagged r (parts_of 512 e (k + 1) flags) (All-head (λ f. f ≡ 0) f flags all) rest) (λ _. rest)

unflagged-front : (r : Run) (runs : List Run) → IsUnflagged r → All IsUnflagged runs → All IsUnflagged (put_in_front r runs)
unflagged-front r [] none all = All-cons IsUnflagged r [] none all
unflagged-front r (s ∷ runs) none all =
    let one : Run = record { length = r.length + s.length; flags = r.flags } in
    cond_both (r.flags == s.flags) (one ∷ runs) (r ∷ s ∷ runs) (All IsUnflagged)
    (λ _. All-cons IsUnflagged one runs none (All-tail IsUnflagged s runs all)) (λ _. All-cons IsUnflagged r (s ∷ runs) none all)

unflagged-joined : (runs : List Run) → All IsUnflagged runs → All IsUnflagged (joined runs)
unflagged-joined [] all = all
unflagged-joined (r ∷ runs) all = unflagged-front r (joined runs) (All-head IsUnflagged r runs all) (unflagged-joined runs (All-tail IsUnflagged r runs all))

unflagged-runs : (e : Extent) (flags : List ℕ) → All (λ f. f ≡ 0) flags → All IsUnflagged (runs_of 512 flags e)
unfolding runs_of
unflagged-runs e flags all = unflagged-joined (parts_of 512 e 0 flags) (unflagged-parts e 0 flags all)

no_writes : (disk : List ℕ) (at : ℕ) (runs : List Run) → All IsUnflagged runs → writes_of disk at runs ≡ []
no_writes disk at [] all = refl
no_writes disk at (r ∷ runs) all =
    let none : r.flags ≡ 0 = All-head IsUnflagged r runs all in
    cond-false (r.flags == 1) (Wrote at (take r.length (drop at disk)) ∷ writes_of disk (at + r.length) runs) (writes_of disk (at + r.length) runs) (ne_eqb r.flags 1 (λ e. absurd (omega (arith, e))))
    ∙ no_writes disk (at + r.length) runs (All-tail IsUnflagged r runs all)

no_difference : (disk : List ℕ) → All (λ f. f ≡ 0) (difference disk disk)
no_difference disk = All-map (λ f. f ≡ 0) (differs disk disk) (range_with_len 0 (length disk / 512))
    (All-from_get_or (λ k. differs disk disk k ≡ 0) (range_with_len 0 (length disk / 512)) 0
    (λ i _. let k : ℕ = get_or (range_with_len 0 (length disk / 512)) i 0 in
    cond-true (bytes_eq (sector disk k) (sector disk k)) 0 1 ((bytes_eq-Decides (sector disk k) (sector disk k)).1 refl)))

pub nothing_settles : (h : History) → settle h (now h) ≡ h
unfolding settle
nothing_settles h = search (rules, no_writes, unflagged-runs, no_difference, with_entries, append-nil)

-- ---- what a crash keeps

-- where a sector is one of a single disk's, it is that disk's
sector-kept : (last disk : List ℕ) (k : ℕ) → Any (λ d. sector d k ≡ sector disk k) (last ∷ []) → sector last k ≡ sector disk k
sector-kept last disk k o = grind (arith, common_steps)

-- of one disk in whole sectors a crash leaves the disk itself
pub last_kept : (n : ℕ) (last disk : List ℕ) → length last ≡ n * 512 → Kept (last ∷ []) disk → disk ≡ last
last_kept n last disk whole crash =
    let long : length disk ≡ length last = All-head (λ d. length disk ≡ length d) last [] crash.long in
    ext_get_or 0 disk last long
    (λ x inside.
    let same : sector last (x / 512) ≡ sector disk (x / 512) = sector-kept last disk (x / 512) (crash.kept (x / 512) (omega arith)) in
    sym (byte-sector disk x) ∙ (ap (λ (s : List ℕ). get_or s (x - 512 * (x / 512)) 0) (sym same) ∙ byte-sector last x))
