-- Points that rise, as a timeline or a history goes on.
use Rattle.std.proofs.Common.{arith}
use Rattle.std.proofs.lemmas.Grind.{common_steps}
use Rattle.std.proofs.Common.{◌≡◌, ℕ, ◌+◌, ◌≤◌, true, false, inl, inr, refl, sym, subst, List, [], ◌∷◌, ◌++◌, length, append_assoc}
use Rattle.std.specs.Prelude.{All, IsTrue}
use Rattle.std.proofs.lemmas.List.Elements.{All-cons, All-nil, All-append, All-head, All-tail, All-weaker}
use Rattle.std.proofs.lemmas.Bool.{both_ways, cases_Bool, false_from_ne_true}
use Rattle.span_algebra.specs.declared.points.Point.{Point}
use Rattle.span_algebra.specs.Points.{same_point, precedes}
use Rattle.span_algebra.specs.Timelines.{Extent, Entry, Wrote, Reached, Timeline, with_write, with_point, is_after, Rise, IsRising, has_point, stands}
use Rattle.span_algebra.proofs.PointOrder.{precedes-itself, same_point-true}
use Rattle.span_algebra.proofs.Touched.{past_write, past_other}
use Rattle.span_algebra.proofs.LastPoint.{ArePast, is_before, past}
use Rattle.plain_model.specs.History as history
use Rattle.plain_model.specs.History.{History, IsHistory, with_entry, timeline_of}
use Rattle.plain_model.proofs.Histories.{inside-append}
use Rattle.plain_model.proofs.Points.{timeline-wrote, timeline-reached}

-- no point is among these
abbrev pub AreWrites : List Entry → Type 0
AreWrites [] = Unit {0}
AreWrites (Wrote e ∷ ms) = AreWrites ms
AreWrites (Reached p ∷ ms) = ⊥

after-writes : (p : Point) (ms : List Entry) → AreWrites ms → All (λ m. IsTrue (is_after p m)) ms
after-writes p [] are = All-nil (λ m. IsTrue (is_after p m))
after-writes p (Wrote e ∷ ms) are = All-cons (λ m. IsTrue (is_after p m)) (Wrote e) ms refl (after-writes p ms are)
after-writes p (Reached q ∷ ms) are = absurd are

writes-rise : (ms : List Entry) → AreWrites ms → Rise ms
writes-rise [] are = tt
writes-rise (Wrote e ∷ ms) are = writes-rise ms are
writes-rise (Reached q ∷ ms) are = absurd are

-- points rise where writes follow
pub rise-writes : (xs ms : List Entry) → Rise xs → AreWrites ms → Rise (xs ++ ms)
rise-writes [] ms rising are = writes-rise ms are
rise-writes (Wrote e ∷ xs) ms rising are = rise-writes xs ms rising are
rise-writes (Reached p ∷ xs) ms rising are = grind (arith, common_steps, rise-writes xs ms rising.1 are, after-writes)

all-amid : (P : Entry → Type 0) (m : Entry) (xs ys : List Entry) → P m → All P (xs ++ ys) → All P (xs ++ m ∷ ys)
all-amid P m [] ys here all = All-cons P m ys here all
all-amid P m (x ∷ xs) ys here all = All-cons P x (xs ++ m ∷ ys) (All-head P x (xs ++ ys) all) (all-amid P m xs ys here (All-tail P x (xs ++ ys) all))

rise-amid : (e : Extent) (xs ys : List Entry) → Rise (xs ++ ys) → Rise (xs ++ Wrote e ∷ ys)
rise-amid e [] ys rising = rising
rise-amid e (Wrote f ∷ xs) ys rising = rise-amid e xs ys rising
rise-amid e (Reached p ∷ xs) ys rising =
    (all-amid (λ m. IsTrue (is_after p m)) (Wrote e) xs ys refl rising.0, rise-amid e xs ys rising.1)

-- a point after all others is so after a further write
pub rising-write : (t : Timeline) (e : Extent) (p : Point) → IsRising (with_point t p) → IsRising (with_point (with_write t e) p)
rising-write t e p rising = subst Rise (sym (append_assoc t.entries (Wrote e ∷ []) (Reached p ∷ []))) (rise-amid e t.entries (Reached p ∷ []) rising)

rise-last : (q : Point) (xs : List Entry) → Rise xs → ArePast q xs → Rise (xs ++ Reached q ∷ [])
rise-last q [] rising early = (All-nil (λ m. IsTrue (is_after q m)), tt)
rise-last q (Wrote e ∷ xs) rising early = rise-last q xs rising (All-tail (λ m. IsTrue (is_before q m)) (Wrote e) xs early)
rise-last q (Reached p ∷ xs) rising early = (
  All-append (λ m. IsTrue (is_after p m)) xs (Reached q ∷ []) rising.0
      (All-cons (λ m. IsTrue (is_after p m)) (Reached q) [] (All-head (λ m. IsTrue (is_before q m)) (Reached p) xs early) (All-nil (λ m. IsTrue (is_after p m)))),
  rise-last q xs rising.1 (All-tail (λ m. IsTrue (is_before q m)) (Reached p) xs early),
)

past-later : (p q : Point) → IsTrue (precedes p q) → (m : Entry) → IsTrue (is_before p m) → IsTrue (is_before q m)
past-later p q order o early = grind (arith, common_steps)

-- a point after the last one is after all others
pub rising-point : (t : Timeline) (p q : Point) → IsRising (with_point t p) → IsTrue (precedes p q) → IsRising (with_point (with_point t p) q)
rising-point t p q rising order =
    rise-last q (t.entries ++ Reached p ∷ []) rising
    (All-append (λ m. IsTrue (is_before q m)) t.entries (Reached p ∷ [])
    (All-weaker (λ m. IsTrue (is_before p m)) (λ m. IsTrue (is_before q m)) (past-later p q order) t.entries (past p t.entries rising))
    (All-cons (λ m. IsTrue (is_before q m)) (Reached p) [] order (All-nil (λ m. IsTrue (is_before q m)))))

past-stands : (p q : Point) (xs : List Entry) → ArePast p xs → has_point q xs ≡ true → precedes q p ≡ true
past-stands p q [] early there = absurd (both_ways false refl there)
past-stands p q (Wrote e ∷ xs) early there = past-stands p q xs (All-tail (λ m. IsTrue (is_before p m)) (Wrote e) xs early) (past_write q e xs there)
past-stands p q (Reached r ∷ xs) early there =
    elim (cases_Bool (same_point q r)) [
      | inl same ↦ subst (λ (s : Point). precedes s p ≡ true) (sym (same_point-true q r same)) (All-head (λ m. IsTrue (is_before p m)) (Reached r) xs early)
      | inr other ↦ past-stands p q xs (All-tail (λ m. IsTrue (is_before p m)) (Reached r) xs early) (past_other q r xs other there)
    ]

-- what stands is before a point that is after all others
pub stands-earlier : (t : Timeline) (p q : Point) → IsRising (with_point t p) → IsTrue (stands q t) → IsTrue (precedes q p)
stands-earlier t p q rising there = past-stands p q t.entries (past p t.entries rising) there

-- so that one doesn't stand yet
pub next-absent : (t : Timeline) (p : Point) → IsRising (with_point t p) → stands p t ≡ false
next-absent t p rising = false_from_ne_true (stands p t) (λ there. both_ways (precedes p p) (precedes-itself p) (stands-earlier t p p rising there))

-- ---- a history that goes on

pub history-wrote : (h : History) (at : ℕ) (bytes : List ℕ) → IsHistory h → at + length bytes ≤ length h.start → IsHistory (with_entry h (history.Wrote at bytes))
history-wrote h at bytes is fits = record {
  inside = inside-append (length h.start) h.entries (history.Wrote at bytes ∷ []) is.inside (fits, tt);
  rising = subst IsRising (sym (timeline-wrote h at bytes)) (rise-writes (timeline_of h).entries (Wrote (record { at = at; size = length bytes }) ∷ []) is.rising tt);
}

pub history-reached : (h : History) (p : Point) → IsHistory h → IsRising (with_point (timeline_of h) p) → IsHistory (with_entry h (history.Reached p))
history-reached h p is rising = record {
  inside = inside-append (length h.start) h.entries (history.Reached p ∷ []) is.inside tt;
  rising = subst IsRising (sym (timeline-reached h p)) rising;
}
