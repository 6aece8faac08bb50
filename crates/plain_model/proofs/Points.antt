-- The disk at a point, what stands and what was touched, as a history goes on.
use Rattle.std.proofs.Common.{rules}
use Rattle.std.proofs.Common.{arith}
use Rattle.std.proofs.lemmas.Grind.{common_steps}
use Rattle.std.proofs.Common.{◌≡◌, ℕ, true, false, refl, sym, ap, subst, List, [], ◌∷◌, ◌++◌, length, map}
use Rattle.std.specs.Prelude.{IsTrue}
use Rattle.std.proofs.lemmas.List.{map-append}
use Rattle.std.proofs.lemmas.Bool.{both_ways, cond-true}
use Rattle.disk_model.specs.Files.{overlay}
use Rattle.span_algebra.specs.declared.points.Point.{Point}
use Rattle.span_algebra.specs.declared.points.End.TheVariants.{Now, At}
use Rattle.span_algebra.specs.Points.{same_point}
use Rattle.span_algebra.specs.Timelines.{Timeline, with_write, with_point, LieInside, has_point, stands, after_point, writes, touched}
use Rattle.span_algebra.specs.Timelines as timelines
use Rattle.span_algebra.specs.Spans.{AllBytes, AllTouched}
use Rattle.span_algebra.proofs.Touched.{has_point-more, past_write, writes-append, before_point-append, after_point-append, touched-point}
use Rattle.span_algebra.proofs.PointOrder.{same_point-itself}
use Rattle.span_algebra.proofs.LastPoint.{last_stands}
use Rattle.plain_model.specs.History.{Entry, Wrote, Reached, History, StaysInside, disk_after, now, entries_before, disk_at, with_entry, without_bytes, timeline_of}
use Rattle.plain_model.proofs.Histories.{after-append, length-disk_after}

-- the history goes on by these entries
abbrev pub with_entries : History → List Entry → History
with_entries h es = record { start = h.start; entries = h.entries ++ es }

-- ---- its timeline

abbrev pub more_of : Timeline → List timelines.Entry → Timeline
more_of t ms = record { start = t.start; entries = t.entries ++ ms }

pub timeline-more : (h : History) (es : List Entry) → timeline_of (with_entries h es) ≡ more_of (timeline_of h) (map without_bytes es)
timeline-more h es = ap (λ (ms : List timelines.Entry). record { start = length h.start; entries = ms }) (map-append without_bytes h.entries es)

pub timeline-wrote : (h : History) (at : ℕ) (bytes : List ℕ) → timeline_of (with_entry h (Wrote at bytes)) ≡ with_write (timeline_of h) (record { at = at; size = length bytes })
timeline-wrote h at bytes = timeline-more h (Wrote at bytes ∷ [])

pub timeline-reached : (h : History) (p : Point) → timeline_of (with_entry h (Reached p)) ≡ with_point (timeline_of h) p
timeline-reached h p = timeline-more h (Reached p ∷ [])

-- ---- its disks

pub now-more : (h : History) (es : List Entry) → now (with_entries h es) ≡ disk_after (now h) es
now-more h es = after-append h.start h.entries es

pub now-wrote : (h : History) (at : ℕ) (bytes : List ℕ) → now (with_entry h (Wrote at bytes)) ≡ overlay (now h) at bytes
now-wrote h at bytes = now-more h (Wrote at bytes ∷ [])

pub now-reached : (h : History) (p : Point) → now (with_entry h (Reached p)) ≡ now h
now-reached h p = now-more h (Reached p ∷ [])

before-more : (p : Point) (xs ys : List Entry) → has_point p (map without_bytes xs) ≡ true → entries_before p (xs ++ ys) ≡ entries_before p xs
before-more p [] ys h = absurd (both_ways false refl h)
before-more p (Wrote at bytes ∷ xs) ys h = search (rules, before-more p xs ys (past_write p (record { at = at; size = length bytes }) (map without_bytes xs) h))
before-more p (Reached q ∷ xs) ys h = grind (arith, common_steps, before-more p xs ys)

-- the disk at a point that stands stays
pub disk_at-more : (h : History) (es : List Entry) (p : Point) → IsTrue (stands p (timeline_of h)) → disk_at (with_entries h es) p ≡ disk_at h p
disk_at-more h es p there = ap (disk_after h.start) (before-more p h.entries es there)

pub disk_at-entry : (h : History) (entry : Entry) (p : Point) → IsTrue (stands p (timeline_of h)) → disk_at (with_entry h entry) p ≡ disk_at h p
disk_at-entry h entry p there = disk_at-more h (entry ∷ []) p there

before-new : (p : Point) (xs : List Entry) → has_point p (map without_bytes xs) ≡ false → entries_before p (xs ++ Reached p ∷ []) ≡ xs
before-new p [] absent = cond-true (same_point p p) [] (Reached p ∷ []) (same_point-itself p)
before-new p (Wrote at bytes ∷ xs) absent = search (rules, before-new p xs)
before-new p (Reached q ∷ xs) absent = grind (arith, common_steps, before-new p xs)

-- at a new point it is the disk now
pub disk_at-new : (h : History) (p : Point) → stands p (timeline_of h) ≡ false → disk_at (with_entry h (Reached p)) p ≡ now h
disk_at-new h p absent = ap (disk_after h.start) (before-new p h.entries absent)

inside-before : (size : ℕ) (p : Point) (xs : List Entry) → LieInside size (map without_bytes xs) → LieInside size (map without_bytes (entries_before p xs))
inside-before size p [] inside = tt
inside-before size p (Wrote at bytes ∷ xs) inside = (inside.0, inside-before size p xs inside.1)
inside-before size p (Reached q ∷ xs) inside = search (rules, inside-before size p xs inside)

pub length-disk_at : (h : History) (p : Point) → StaysInside h → length (disk_at h p) ≡ length h.start
length-disk_at h p inside = length-disk_after h.start (entries_before p h.entries) (inside-before (length h.start) p h.entries inside)

-- ---- what stands and what was touched

pub stands-more : (h : History) (es : List Entry) (p : Point) → IsTrue (stands p (timeline_of h)) → IsTrue (stands p (timeline_of (with_entries h es)))
stands-more h es p there = subst (λ (t : Timeline). IsTrue (stands p t)) (sym (timeline-more h es)) (has_point-more p (timeline_of h).entries (map without_bytes es) there)

pub stands-entry : (h : History) (entry : Entry) (p : Point) → IsTrue (stands p (timeline_of h)) → IsTrue (stands p (timeline_of (with_entry h entry)))
stands-entry h entry p there = stands-more h (entry ∷ []) p there

pub stands-new : (h : History) (p : Point) → IsTrue (stands p (timeline_of (with_entry h (Reached p))))
stands-new h p = subst (λ (t : Timeline). IsTrue (stands p t)) (sym (timeline-reached h p)) (last_stands p (timeline_of h).entries)

-- what was touched up to a point that stands stays
pub touched-more : (set : ℕ → Type 0) (h : History) (es : List Entry) (a b : Point) → IsTrue (stands b (timeline_of h))
    → AllTouched set (timeline_of h) a (At b) → AllTouched set (timeline_of (with_entries h es)) a (At b)
touched-more set h es a b there all = search (rules, timeline-more, before_point-append, there)

pub touched-entry : (set : ℕ → Type 0) (h : History) (entry : Entry) (a b : Point) → IsTrue (stands b (timeline_of h))
    → AllTouched set (timeline_of h) a (At b) → AllTouched set (timeline_of (with_entry h entry)) a (At b)
touched-entry set h entry a b there all = touched-more set h (entry ∷ []) a b there all

-- up to now a write's bytes are added
pub touched_now-wrote : (set : ℕ → Type 0) (h : History) (at : ℕ) (bytes : List ℕ) (a : Point) → IsTrue (stands a (timeline_of h))
    → AllBytes set (record { at = at; size = length bytes }) → AllTouched set (timeline_of h) a Now → AllTouched set (timeline_of (with_entry h (Wrote at bytes))) a Now
touched_now-wrote set h at bytes a there new all = grind (arith, common_steps, after_point-append, there, writes-append, timeline-wrote)

pub touched_now-reached : (set : ℕ → Type 0) (h : History) (p a : Point) → AllTouched set (timeline_of h) a Now → AllTouched set (timeline_of (with_entry h (Reached p))) a Now
touched_now-reached set h p a all = search (rules, timeline-reached, touched-point)
