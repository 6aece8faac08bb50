-- Orders that are carried out one after another, and the history that they extend.
use Rattle.std.proofs.Common.{◌≡◌, ℕ, ◌+◌, ◌≤◌, inl, inr, true, List, [], ◌∷◌, ◌++◌, length, map, append_assoc, refl, sym, ap, subst, ◌∙◌, arith}
use Rattle.std.proofs.lemmas.Bool.{cases_Bool}
use Rattle.std.proofs.lemmas.Bool.Decides.{nat_tests}
use Rattle.std.proofs.lemmas.List.{append-nil}
use Rattle.disk_model.proofs.Bytes.{length-overlay_inside}
use Rattle.span_algebra.specs.Timelines.{LieInside}
use Rattle.plain_model.specs.History.{History, disk_after, now, without_bytes, StaysInside}
use Rattle.plain_model.proofs.Histories.{after-append, inside-append, length-now}
use Rattle.qback_top.specs.Orders.{Order, Write, Read, Sync, Say, Stop, Quit, fits, printed_by, disk_by, until_end, closes, answers_from, carried_from, disk_from, entries_by, entries_of, extended}

-- ---- one order

-- a request that fits lies in the disk
pub fits_inside : (size at n : ℕ) → fits size at n ≡ true → at + n ≤ size
fits_inside size at n fit = grind (arith, nat_tests)

-- no order makes the disk longer or shorter
pub length-disk_by : (disk : List ℕ) (o : Order) → length (disk_by disk o) ≡ length disk
length-disk_by disk (Write at bytes) = elim (cases_Bool (fits (length disk) at (length bytes))) [
  | inl e ↦ rw e (length-overlay_inside disk at bytes (fits_inside (length disk) at (length bytes) e))
  | inr e ↦ rw e refl
]
length-disk_by disk (Read at n) = refl
length-disk_by disk Sync = refl
length-disk_by disk (Say text) = refl
length-disk_by disk Stop = refl
length-disk_by disk Quit = refl

-- the disk after an order is that of the entries that it adds
disk_by_entries : (disk : List ℕ) (o : Order) → disk_by disk o ≡ disk_after disk (entries_by (length disk) o)
disk_by_entries disk (Write at bytes) = elim (cases_Bool (fits (length disk) at (length bytes))) [ inl e ↦ rw e refl | inr e ↦ rw e refl ]
disk_by_entries disk (Read at n) = refl
disk_by_entries disk Sync = refl
disk_by_entries disk (Say text) = refl
disk_by_entries disk Stop = refl
disk_by_entries disk Quit = refl

-- what it adds lies inside
inside-entries_by : (size : ℕ) (o : Order) → LieInside size (map without_bytes (entries_by size o))
inside-entries_by size (Write at bytes) = elim (cases_Bool (fits size at (length bytes))) [ inl e ↦ rw e (fits_inside size at (length bytes) e, tt) | inr e ↦ rw e tt ]
inside-entries_by size (Read at n) = tt
inside-entries_by size Sync = tt
inside-entries_by size (Say text) = tt
inside-entries_by size Stop = tt
inside-entries_by size Quit = tt

-- ---- one order after another

pub answers-append : (disk : List ℕ) (os ps : List Order) → answers_from disk (os ++ ps) ≡ answers_from disk os ++ answers_from (carried_from disk os) ps
unfolding answers_from carried_from
answers-append disk [] ps = refl
answers-append disk (o ∷ os) ps =
    ap (λ (t : List ℕ). printed_by disk o ++ t) (answers-append (disk_by disk o) os ps) ∙ sym (append_assoc (printed_by disk o) (answers_from (disk_by disk o) os) (answers_from (carried_from (disk_by disk o) os) ps))

pub carried-append : (disk : List ℕ) (os ps : List Order) → carried_from disk (os ++ ps) ≡ carried_from (carried_from disk os) ps
unfolding carried_from
carried-append disk [] ps = refl
carried-append disk (o ∷ os) ps = carried-append (disk_by disk o) os ps

pub answers_none : (disk : List ℕ) → answers_from disk [] ≡ []
unfolding answers_from
answers_none disk = refl

pub carried_none : (disk : List ℕ) → carried_from disk [] ≡ disk
unfolding carried_from
carried_none disk = refl

pub answers_on : (disk : List ℕ) (o : Order) (os : List Order) → answers_from disk (o ∷ os) ≡ printed_by disk o ++ answers_from (disk_by disk o) os
unfolding answers_from
answers_on disk o os = refl

pub answers_one : (disk : List ℕ) (o : Order) → answers_from disk (o ∷ []) ≡ printed_by disk o
unfolding answers_from
answers_one disk o = append-nil (printed_by disk o)

pub carried_one : (disk : List ℕ) (o : Order) → carried_from disk (o ∷ []) ≡ disk_by disk o
unfolding carried_from
carried_one disk o = refl

-- ---- what ends a run

-- the order doesn't end it
pub record GoesOn (o : Order) : Type 0 where
  pub until : (os : List Order) → until_end (o ∷ os) ≡ o ∷ until_end os
  pub closing : (os : List Order) → closes (o ∷ os) ≡ closes os

pub goes_on : (o : Order) → (o ≡ Stop → ⊥) → (o ≡ Quit → ⊥) → GoesOn o
goes_on (Write at bytes) stop quit = record { until = λ os. refl; closing = λ os. refl }
goes_on (Read at n) stop quit = record { until = λ os. refl; closing = λ os. refl }
goes_on Sync stop quit = record { until = λ os. refl; closing = λ os. refl }
goes_on (Say text) stop quit = record { until = λ os. refl; closing = λ os. refl }
goes_on Stop stop quit = absurd (stop refl)
goes_on Quit stop quit = absurd (quit refl)

-- ---- histories

-- the disk that orders leave is that of the entries that they add
carried_is : (os : List Order) (disk : List ℕ) → carried_from disk os ≡ disk_after disk (entries_of (length disk) os)
unfolding carried_from entries_of
carried_is [] disk = refl
carried_is (o ∷ os) disk =
    let size = length disk in
    carried_is os (disk_by disk o) ∙ ap (λ (k : ℕ). disk_after (disk_by disk o) (entries_of k os)) (length-disk_by disk o) ∙ ap (λ (d : List ℕ). disk_after d (entries_of size os)) (disk_by_entries disk o)
    ∙ sym (after-append disk (entries_by size o) (entries_of size os))

-- the disk that a run leaves is that of the history that it extends
pub now-extended : (h : History) (os : List Order) → now (extended h os) ≡ disk_from (now h) os
unfolding disk_from
now-extended h os = after-append h.start h.entries (entries_of (length (now h)) (until_end os)) ∙ sym (carried_is (until_end os) (now h))

-- what orders add lies inside
inside-entries_of : (size : ℕ) (os : List Order) → LieInside size (map without_bytes (entries_of size os))
unfolding entries_of
inside-entries_of size [] = tt
inside-entries_of size (o ∷ os) = inside-append size (entries_by size o) (entries_of size os) (inside-entries_by size o) (inside-entries_of size os)

-- writes that lie in the disk go on by writes that lie in it
pub stays_inside : (h : History) (os : List Order) → StaysInside h → StaysInside (extended h os)
stays_inside h os inside =
    inside-append (length h.start) h.entries _ inside (subst (λ (k : ℕ). LieInside (length h.start) (map without_bytes (entries_of k (until_end os)))) (sym (length-now h inside)) (inside-entries_of (length h.start) (until_end os)))
