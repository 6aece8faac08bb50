-- Merging at the last point: what was touched within the merged span was touched within the one or the other.
use Rattle.std.proofs.Common.{◌≡◌, ℕ, true, false, not, ◌⊎◌, inl, inr, refl, sym, subst, List, rules, arith}
use Rattle.std.specs.Prelude.{Option, Some, None, All, if◌then◌else◌}
use Rattle.std.proofs.lemmas.List.Elements.{All-weaker}
use Rattle.std.proofs.lemmas.Bool.{and_parts, and_from, not-true, not_from_false, cases_Bool, cond_both}
use Rattle.span_algebra.specs.declared.points.Point.{Point}
use Rattle.span_algebra.specs.declared.points.End.{End}
use Rattle.span_algebra.specs.declared.points.End.TheVariants.{Now, At}
use Rattle.span_algebra.specs.declared.spans.Span.{Span}
use Rattle.span_algebra.specs.declared.spans.Span.TheVariants.{Unknown, Known}
use Rattle.span_algebra.specs.Points.{precedes, not_after, earlier, reaches, later_end, closed_by}
use Rattle.span_algebra.specs.Timelines.{Timeline, with_point, stands, end_stands, IsRising}
use Rattle.span_algebra.specs.Spans.{AllBytes, in_either, SpanHolds, SpanIsTrue, do_meet, is_closed_at, after_merge}
use Rattle.span_algebra.proofs.PointOrder.{from-earlier}
use Rattle.span_algebra.proofs.Growth.{wider, larger}
use Rattle.span_algebra.proofs.LastPoint.{past, last_stands, none_later}
use Rattle.span_algebra.proofs.Dates.{dated_from, is_within, precedes_end, AllWithin, end_in, touched_is_within, to_within, from_within}
use Rattle.std.proofs.lemmas.Grind.{common_steps}

end_is_in : (to : End) (h : Timeline) → end_stands to h ≡ true → end_in to h.entries ≡ true
end_is_in Now h there = refl
end_is_in (At q) h there = there

abbrev Covers : (ℕ → Type 0) → Timeline → Point → End → Type 0
Covers set h a to = AllWithin (AllBytes set) a to (dated_from None h.entries)

-- a span that holds covers each write that is dated within it, and the other way round
dated_covers : (h : Timeline) (a : Point) (to : End) (set : ℕ → Type 0) → IsRising h → SpanHolds h a to set → Covers set h a to
dated_covers h a to set rising t =
    to_within (AllBytes set) a to (dated_from None h.entries)
    (subst (All (AllBytes set)) (sym (touched_is_within a to h.entries rising t.start (end_is_in to h t.stop) t.order)) t.covered)

holds_dated : (h : Timeline) (a : Point) (to : End) (set : ℕ → Type 0) → IsRising h → stands a h ≡ true → end_stands to h ≡ true → reaches to a ≡ true
    → Covers set h a to → SpanHolds h a to set
holds_dated h a to set rising start stop order all = record {
  start = start;
  stop = stop;
  order = order;
  covered = subst (All (AllBytes set)) (touched_is_within a to h.entries rising start (end_is_in to h stop) order)
      (from_within (AllBytes set) a to (dated_from None h.entries) all);
}

all_both : {X : Type 0} (P Q R : X → Type 0) → ((x : X) → P x → Q x → R x) → (xs : List X) → All P xs → All Q xs → All R xs
all_both P Q R f xs hp hq = search rules

within_closed : (c p : Point) (d : End) (date : Option Point) → is_within c (At (closed_by d p)) date ≡ true → is_within c d date ≡ true
within_closed c p d None within = within
within_closed c p Now (Some date) within = search rules
within_closed c p (At q) (Some date) within = search rules

stands_closed : (h : Timeline) (p : Point) (d : End) → end_stands d (with_point h p) ≡ true → stands (closed_by d p) (with_point h p) ≡ true
stands_closed h p Now there = last_stands p h.entries
stands_closed h p (At q) there = grind (arith, common_steps)

reaches_closed : (h : Timeline) (p c : Point) → IsRising (with_point h p) → stands c (with_point h p) ≡ true → (d : End) → reaches d c ≡ true → not_after c (closed_by d p) ≡ true
reaches_closed h p c rising there Now order = grind (arith, common_steps, not_from_false, none_later, past)
reaches_closed h p c rising there (At q) order = grind (arith, common_steps, not_from_false, none_later, past)

-- a closed span that begins where it ends says nothing: the source's span takes its place
takes_place : (h : Timeline) (p c : Point) (d : End) (set more : ℕ → Type 0) → IsRising (with_point h p)
    → ((x : ℕ) → set x → more x) → SpanHolds (with_point h p) c d set → SpanHolds (with_point h p) c (At (closed_by d p)) more
takes_place h p c d set more rising f t =
    holds_dated (with_point h p) c (At (closed_by d p)) more rising t.start (stands_closed h p d t.stop) (reaches_closed h p c rising t.start d t.order)
    (All-weaker (λ w. is_within c d w.date ≡ true → AllBytes set w.extent) (λ w. is_within c (At (closed_by d p)) w.date ≡ true → AllBytes more w.extent)
    (λ w covered within. wider set more f w.extent (covered (within_closed c p d w.date within))) (dated_from None (with_point h p).entries)
    (dated_covers (with_point h p) c d set rising t))

to_end : (date a : Point) (d : End) → precedes date a ≡ true → reaches d a ≡ true → precedes_end date d ≡ true
to_end date a Now h order = refl
to_end date a (At q) h order = search rules

-- a date that isn't before the one span's end lies in the other
beyond : (date c e : Point) (b : End) → precedes_end date b ≡ false → reaches b c ≡ true → precedes_end date (later_end b (At e)) ≡ true
    → (precedes date c ≡ false) × (precedes date e ≡ true)
beyond date c e Now past order to = search rules
beyond date c e (At q) past order to = search rules

-- a date within the joined span is within the one or within the other
in_one : (a c date e : Point) (b d : End) → do_meet a b c d ≡ true → (precedes date e ≡ true → precedes_end date d ≡ true)
    → precedes date (earlier a c) ≡ false → precedes_end date (later_end b (At e)) ≡ true
    → (is_within a b (Some date) ≡ true) ⊎ (is_within c d (Some date) ≡ true)
in_one a c date e b d meet short from to =
    let meets : (reaches b c ≡ true) × (reaches d a ≡ true) = and_parts (reaches b c) (reaches d a) meet in
    elim (cases_Bool (precedes date a)) [
      | inl earlier_than_a ↦ inr (and_from (not (precedes date c)) (precedes_end date d)
          (not_from_false (precedes date c) (from-earlier a c date from earlier_than_a)) (to_end date a d earlier_than_a meets.1))
      | inr from_a ↦ elim (cases_Bool (precedes_end date b)) [
        | inl to_b ↦ inl (and_from (not (precedes date a)) (precedes_end date b) (not_from_false (precedes date a) from_a) to_b)
        | inr past_b ↦ let rest : (precedes date c ≡ false) × (precedes date e ≡ true) = beyond date c e b past_b meets.0 to in
            inr (and_from (not (precedes date c)) (precedes_end date d) (not_from_false (precedes date c) rest.0) (short rest.1))
      ]
    ]

short_of : (p date : Point) (d : End) → precedes date (closed_by d p) ≡ true → precedes_end date d ≡ true
short_of p date Now h = refl
short_of p date (At q) h = search rules

in_union : (a c p : Point) (b d : End) (date : Option Point) → do_meet a b c d ≡ true
    → is_within (earlier a c) (later_end b (At (closed_by d p))) date ≡ true → (is_within a b date ≡ true) ⊎ (is_within c d date ≡ true)
in_union a c p b d None meet within = search rules
in_union a c p b d (Some date) meet within =
    let parts : (not (precedes date (earlier a c)) ≡ true) × (precedes_end date (later_end b (At (closed_by d p))) ≡ true) =
    and_parts (not (precedes date (earlier a c))) (precedes_end date (later_end b (At (closed_by d p)))) within in
    in_one a c date (closed_by d p) b d meet (short_of p date d) (not-true (precedes date (earlier a c)) parts.0) parts.1

later_stands : (h : Timeline) (b : End) (x : Point) → end_stands b h ≡ true → stands x h ≡ true → end_stands (later_end b (At x)) h ≡ true
later_stands h Now x there other = refl
later_stands h (At q) x there other = search rules

later_reaches : (a c x : Point) (b : End) → reaches b a ≡ true → reaches (later_end b (At x)) (earlier a c) ≡ true
later_reaches a c x Now h = refl
later_reaches a c x (At q) h = search rules

-- the span of two that meet
joins : (h : Timeline) (p a c : Point) (b d : End) (one other both : ℕ → Type 0) → IsRising (with_point h p) → ((x : ℕ) → in_either one other x → both x)
    → do_meet a b c d ≡ true → SpanHolds (with_point h p) a b one → SpanHolds (with_point h p) c d other
    → SpanHolds (with_point h p) (earlier a c) (later_end b (At (closed_by d p))) both
joins h p a c b d one other both rising union meet t s =
    holds_dated (with_point h p) (earlier a c) (later_end b (At (closed_by d p))) both rising
    (cond_both (precedes c a) c a (λ y. stands y (with_point h p) ≡ true) (λ _. s.start) (λ _. t.start))
    (later_stands (with_point h p) b (closed_by d p) t.stop (stands_closed h p d s.stop))
    (later_reaches a c (closed_by d p) b t.order)
    (all_both (λ w. is_within a b w.date ≡ true → AllBytes one w.extent) (λ w. is_within c d w.date ≡ true → AllBytes other w.extent)
    (λ w. is_within (earlier a c) (later_end b (At (closed_by d p))) w.date ≡ true → AllBytes both w.extent)
    (λ w in_a in_c within. elim (in_union a c p b d w.date meet within) [
      | inl of_one ↦ wider one both (λ x here. union x (inl here)) w.extent (in_a of_one)
      | inr of_other ↦ wider other both (λ x here. union x (inr here)) w.extent (in_c of_other)
    ])
    (dated_from None (with_point h p).entries) (dated_covers (with_point h p) a b one rising t) (dated_covers (with_point h p) c d other rising s))

pub merge_keeps : (h : Timeline) (p : Point) (target source : Span) (one other both : ℕ → Type 0) → IsRising (with_point h p) → ((x : ℕ) → in_either one other x → both x)
    → SpanIsTrue (with_point h p) target one → SpanIsTrue (with_point h p) source other → SpanIsTrue (with_point h p) (after_merge target source p) both
merge_keeps h p Unknown source one other both rising union t s = tt
merge_keeps h p (Known a b) Unknown one other both rising union t s = search rules
merge_keeps h p (Known a b) (Known c d) one other both rising union t s =
    let joined : Span = if do_meet a b c d then Known (earlier a c) (later_end b (At (closed_by d p))) else Known a b in
    cond_both (is_closed_at a b) (Known c (At (closed_by d p))) joined (λ span. SpanIsTrue (with_point h p) span both)
    (λ same. takes_place h p c d other both rising (λ x here. union x (inr here)) s)
    (λ differs. cond_both (do_meet a b c d) (Known (earlier a c) (later_end b (At (closed_by d p)))) (Known a b) (λ span. SpanIsTrue (with_point h p) span both)
    (λ meet. joins h p a c b d one other both rising union meet t s)
    (λ apart. larger (with_point h p) (Known a b) one both (λ x here. union x (inl here)) t))
