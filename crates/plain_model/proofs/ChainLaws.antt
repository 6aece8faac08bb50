-- Where its records are true, a chain gives the disk at its last point.
use Rattle.std.proofs.Common.{rules}
use Rattle.std.proofs.Common.{◌≡◌, ℕ, ◌<◌, Bool, true, false, inl, inr, refl, sym, ap, subst, ◌∙◌, arith, List, [], ◌∷◌, length, map, get_or}
use Rattle.std.specs.Prelude.{All, IsTrue, if◌then◌else◌, slice_index}
use Rattle.std.specs.List.{range_with_len}
use Rattle.std.proofs.lemmas.List.{ext_get_or}
use Rattle.std.proofs.lemmas.List.FromFn.{length-map-range_with_len, get_or-map-range_with_len}
use Rattle.std.proofs.lemmas.List.Elements.{All-head, All-tail}
use Rattle.std.proofs.lemmas.Bool.{both_ways, cases_Bool, cases_lt, cond_both, cond-true, cond-false, not-true}
use Rattle.disk_model.specs.Files.{overlay}
use Rattle.disk_model.proofs.Bytes.{byte-overlay_below, byte-overlay_above}
use Rattle.span_algebra.specs.declared.points.Point.{Point}
use Rattle.span_algebra.specs.declared.points.End.TheVariants.{At}
use Rattle.span_algebra.specs.declared.spans.Base.TheVariants.{Whole, Since}
use Rattle.span_algebra.specs.Points.{same_point, precedes}
use Rattle.span_algebra.specs.Timelines.{Extent, Rise, has_point, stands, after_point, before_point, writes}
use Rattle.span_algebra.specs.Timelines as timelines
use Rattle.span_algebra.specs.Spans.{that_pass, AllBytes}
use Rattle.span_algebra.proofs.PointOrder.{same_point-true}
use Rattle.span_algebra.proofs.Touched.{past_write, past_other}
use Rattle.span_algebra.proofs.Dates.{after-stands}
use Rattle.plain_model.specs.History.{Entry, Wrote, Reached, History, IsHistory, disk_after, entries_before, disk_at, without_bytes, timeline_of}
use Rattle.plain_model.specs.Records.{is_present, HoldsPoint, HoldsChanges, StateHolds, RecordIsTrue, Follow, IsChain, topmost, overlay_of}
use Rattle.image_model.specs.Backups.{Backup, Sealed}
use Rattle.plain_model.proofs.Points.{length-disk_at}

-- ---- a byte that no write touched

byte-outside : (set : ℕ → Bool) (x : ℕ) (disk : List ℕ) (at : ℕ) (bytes : List ℕ) → set x ≡ false → AllBytes (that_pass set) (record { at = at; size = length bytes })
    → get_or (overlay disk at bytes) x 0 ≡ get_or disk x 0
byte-outside set x disk at bytes absent written = search (rules, cases_lt, byte-overlay_below, both_ways, byte-overlay_above)

-- a byte outside of what was touched keeps its value up to a point
untouched : (set : ℕ → Bool) (x : ℕ) → set x ≡ false → (p : Point) (es : List Entry) (disk : List ℕ)
    → All (AllBytes (that_pass set)) (writes (before_point p (map without_bytes es))) → get_or (disk_after disk (entries_before p es)) x 0 ≡ get_or disk x 0
untouched set x absent p [] disk all = refl
untouched set x absent p (Wrote at bytes ∷ es) disk all =
    let e : Extent = record { at = at; size = length bytes } in
    let rest : List Extent = writes (before_point p (map without_bytes es)) in
    untouched set x absent p es (overlay disk at bytes) (All-tail (AllBytes (that_pass set)) e rest all)
    ∙ byte-outside set x disk at bytes absent (All-head (AllBytes (that_pass set)) e rest all)
untouched set x absent p (Reached q ∷ es) disk all =
    let ms : List timelines.Entry = map without_bytes es in
    elim (cases_Bool (same_point p q)) [
      | inl same ↦ ap (λ (fs : List Entry). get_or (disk_after disk fs) x 0) (cond-true (same_point p q) [] (Reached q ∷ entries_before p es) same)
      | inr other ↦ ap (λ (fs : List Entry). get_or (disk_after disk fs) x 0) (cond-false (same_point p q) [] (Reached q ∷ entries_before p es) other)
          ∙ untouched set x absent p es disk
          (subst (λ (ns : List timelines.Entry). All (AllBytes (that_pass set)) (writes ns)) (cond-false (same_point p q) [] (timelines.Reached q ∷ before_point p ms) other) all)
    ]

-- between two points too
same_between : (set : ℕ → Bool) (x : ℕ) → set x ≡ false → (a p : Point) → precedes p a ≡ false → (es : List Entry) (disk : List ℕ) → Rise (map without_bytes es)
    → has_point a (map without_bytes es) ≡ true → All (AllBytes (that_pass set)) (writes (after_point a (before_point p (map without_bytes es))))
    → get_or (disk_after disk (entries_before p es)) x 0 ≡ get_or (disk_after disk (entries_before a es)) x 0
same_between set x absent a p order [] disk rising there all = refl
same_between set x absent a p order (Wrote at bytes ∷ es) disk rising there all = search (rules, same_between set x absent a p order es (overlay disk at bytes) rising (past_write a (record { at = at; size = length bytes }) (map without_bytes es) there) all)
same_between set x absent a p order (Reached q ∷ es) disk rising there all =
    let ms : List timelines.Entry = map without_bytes es in
    let byte : List Entry → ℕ = λ fs. get_or (disk_after disk fs) x 0 in
    let Covers : List timelines.Entry → Type 0 = λ ns. All (AllBytes (that_pass set)) (writes ns) in
    elim (cases_Bool (same_point p q)) [
      | inl ends ↦
          elim (cases_Bool (same_point a q)) [
            | inl begins ↦ ap byte (cond-true (same_point p q) [] (Reached q ∷ entries_before p es) ends ∙ sym (cond-true (same_point a q) [] (Reached q ∷ entries_before a es) begins))
            | inr later ↦ absurd (both_ways (precedes p a) order
                (subst (λ (r : Point). precedes r a ≡ true) (sym (same_point-true p q ends)) (after-stands q a ms rising.0 (past_other a q ms later there))))
          ]
      | inr goes_on ↦
          let cut : Covers (after_point a (timelines.Reached q ∷ before_point p ms)) =
          subst (λ (ns : List timelines.Entry). Covers (after_point a ns)) (cond-false (same_point p q) [] (timelines.Reached q ∷ before_point p ms) goes_on) all in
          ap byte (cond-false (same_point p q) [] (Reached q ∷ entries_before p es) goes_on)
          ∙ elim (cases_Bool (same_point a q)) [
            | inl begins ↦
                untouched set x absent p es disk (subst Covers (cond-true (same_point a q) (before_point p ms) (after_point a (before_point p ms)) begins) cut)
                ∙ sym (ap byte (cond-true (same_point a q) [] (Reached q ∷ entries_before a es) begins))
            | inr later ↦
                same_between set x absent a p order es disk rising.1 (past_other a q ms later there)
                (subst Covers (cond-false (same_point a q) (before_point p ms) (after_point a (before_point p ms)) later) cut)
                ∙ sym (ap byte (cond-false (same_point a q) [] (Reached q ∷ entries_before a es) later))
          ]
    ]

-- a byte that isn't among what was written between two points is the same at both
pub byte_stays : (h : History) (set : ℕ → Bool) (a p : Point) (x : ℕ) → IsHistory h → IsTrue (stands a (timeline_of h)) → precedes p a ≡ false
    → All (AllBytes (that_pass set)) (timelines.touched (timeline_of h) a (At p)) → set x ≡ false → slice_index (disk_at h p) x ≡ slice_index (disk_at h a) x
byte_stays h set a p x history there order all absent = same_between set x absent a p order h.entries h.start history.rising there all

-- ---- what a chain gives

-- a backup since p gives its own point's byte over the byte at p
since_byte : (h : History) (b : Backup) (p q : Point) (x byte : ℕ) → IsHistory h → HoldsPoint h b q → HoldsChanges h b p q → x < length h.start
    → byte ≡ slice_index (disk_at h p) x → (if is_present b x then slice_index b.content x else byte) ≡ slice_index (disk_at h q) x
since_byte h b p q x byte history holds changes inside same =
    cond_both (is_present b x) (slice_index b.content x) byte (λ v. v ≡ slice_index (disk_at h q) x)
    (λ present. holds.reads x (omega (arith, length-disk_at h q history.inside)) present)
    (λ absent. same ∙ sym (byte_stays h (is_present b) p q x history changes.drawn (not-true (precedes q p) changes.order) changes.changes absent))

follow_byte : (h : History) (id : List ℕ) (size : ℕ) (p : Point) (backups : List Backup) (end : Point) (x byte : ℕ) → IsHistory h → Follow id size p backups end
    → All (RecordIsTrue h) backups → x < length h.start → byte ≡ slice_index (disk_at h p) x → topmost x byte backups ≡ slice_index (disk_at h end) x
follow_byte h id size p [] end x byte history follow records inside same = subst (λ (q : Point). byte ≡ slice_index (disk_at h q) x) follow same
follow_byte h id size p (b ∷ backups) end x byte history follow records inside same =
    let state : StateHolds h b (Sealed (Since p) follow.0) = subst (StateHolds h b) follow.1 (All-head (RecordIsTrue h) b backups records) in
    follow_byte h id size follow.0 backups end x (if is_present b x then slice_index b.content x else byte) history follow.4
    (All-tail (RecordIsTrue h) b backups records) inside (since_byte h b p follow.0 x byte history state.0 state.1 inside same)

chain_byte : (h : History) (backups : List Backup) (p : Point) (x : ℕ) → IsHistory h → IsChain backups p → All (RecordIsTrue h) backups → x < length h.start
    → topmost x 0 backups ≡ slice_index (disk_at h p) x
chain_byte h [] p x history chain records inside = absurd chain
chain_byte h (b ∷ backups) p x history chain records inside =
    let state : StateHolds h b (Sealed Whole chain.0) = subst (StateHolds h b) chain.1 (All-head (RecordIsTrue h) b backups records) in
    follow_byte h b.id b.size chain.0 backups p x (if is_present b x then slice_index b.content x else 0) history chain.2
    (All-tail (RecordIsTrue h) b backups records) inside
    (cond-true (is_present b x) (slice_index b.content x) 0 (state.1 x inside)
    ∙ state.0.reads x (omega (arith, length-disk_at h chain.0 history.inside)) (state.1 x inside))

pub chain_gives : (h : History) (backups : List Backup) (p : Point) → IsHistory h → IsChain backups p → All (RecordIsTrue h) backups
    → overlay_of (length h.start) backups ≡ disk_at h p
unfolding overlay_of
chain_gives h backups p history chain records =
    let byte : ℕ → ℕ = λ x. topmost x 0 backups in
    let n : ℕ = length h.start in
    ext_get_or 0 (map byte (range_with_len 0 n)) (disk_at h p) (length-map-range_with_len byte 0 n ∙ sym (length-disk_at h p history.inside))
    (λ x below. let inside : x < n = omega (arith, length-map-range_with_len byte 0 n) in
    get_or-map-range_with_len byte 0 n x x 0 inside (omega arith) ∙ chain_byte h backups p x history chain records inside)
