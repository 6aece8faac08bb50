-- A job that starts at the last point is sound.
use Rattle.std.proofs.Common.{rules}
use Rattle.std.proofs.Common.{arith}
use Rattle.std.proofs.lemmas.Grind.{common_steps}
use Rattle.std.proofs.Common.{◌≡◌, ℕ, ◌/◌, ◌<◌, List, length, Bool, true, false, sym, ap, subst, ◌∙◌}
use Rattle.std.specs.Prelude.{Option, Some, None, slice_index}
use Rattle.std.proofs.lemmas.List.{length-replicate, get_or-replicate}
use Rattle.std.proofs.lemmas.List.Elements.{All-weaker}
use Rattle.std.proofs.lemmas.Bool.{both_ways}
use Rattle.span_algebra.specs.declared.points.Point.{Point}
use Rattle.span_algebra.specs.declared.points.End.TheVariants.{At}
use Rattle.span_algebra.specs.declared.spans.Span.{Span}
use Rattle.span_algebra.specs.declared.spans.Base.{Base}
use Rattle.span_algebra.specs.declared.spans.Base.TheVariants.{Whole, Since, Loose}
use Rattle.span_algebra.specs.Timelines.{Timeline, with_point, stands, IsRising, touched}
use Rattle.span_algebra.specs.Spans.{that_pass, AllBytes, AllTouched, SpanHolds, base_of}
use Rattle.bitmap_model.specs.Granules.{IsAllowed, granules_in, is_in, none_of, merged}
use Rattle.bitmap_model.specs.Bitmap.{BitmapState, IsTrueBitmap, is_busy, covers, base_at}
use Rattle.bitmap_model.proofs.Covering.{length-united, granule_there}
use Rattle.bitmap_model.proofs.Covers.{is_in-replicate, has_byte-parts, merged_has_other, idle_covers}
use Rattle.bitmap_model.proofs.Shapes.{none_of_is_shaped}
use Rattle.bitmap_model.proofs.TrueSpans.{base_is_covered}
use Rattle.core_events.specs.declared.commands.BackupArgs.{BackupArgs}
use Rattle.plain_model.specs.History.{History, Reached, with_entry, timeline_of}
use Rattle.image_model.specs.Space.{Store, IsShapedStore}
use Rattle.plain_model.specs.Actions.{scope_for, base_for, new_job}
use Rattle.plain_model.specs.Sound.{IsSoundBitmap, IsShapedJob, ScopeHolds, IsSoundJob}
use Rattle.plain_model.proofs.Points.{timeline-reached, now-reached, disk_at-new, stands-new}
use Rattle.plain_model.proofs.Rising.{next-absent}

-- ---- the scope

pub scope_count : (size unit : ℕ) (bitmap : Option BitmapState) → length (scope_for size unit bitmap) ≡ granules_in size unit
scope_count size unit o = grind (arith, common_steps, length-united, none_of, length-replicate)

pub whole_scope : (size unit x : ℕ) → IsAllowed size unit → x < size → is_in (scope_for size unit None) (x / unit) ≡ true
whole_scope size unit x allowed inside =
    let there : x / unit < length (none_of size unit).set = granule_there (none_of size unit) x (none_of_is_shaped size unit allowed) inside in
    get_or-replicate (granules_in size unit) (x / unit) true false (subst (λ (n : ℕ). x / unit < n) (length-replicate (granules_in size unit) false) there)

-- what an idle bitmap covers lies in the scope
pub covered_scope : (t : Timeline) (unit x : ℕ) (b : BitmapState) → IsAllowed t.start unit → IsSoundBitmap t b → is_busy b ≡ false → covers b x ≡ true
    → is_in (scope_for t.start unit (Some b)) (x / unit) ≡ true
covered_scope t unit x b allowed s idle covered =
    (has_byte-parts (merged (none_of t.start unit) b.bits) x
    (merged_has_other (none_of t.start unit) b.bits x (none_of_is_shaped t.start unit allowed) s.shape.bits s.shape.sized (idle_covers b x idle covered))).1

-- ---- the base

pub not_whole : (p : Point) (span : Span) → base_of span p ≡ Whole → ⊥
not_whole p o h = grind (arith, common_steps)

pub touched_wider : (set other : ℕ → Type 0) (t : Timeline) (a p : Point) → ((x : ℕ) → set x → other x) → AllTouched set t a (At p) → AllTouched other t a (At p)
touched_wider set other t a p wider all = All-weaker (AllBytes set) (AllBytes other) (λ e each x low high. wider x (each x low high)) (touched t a (At p)) all

-- the bitmap that a job is to use, if any, is sound, and no job uses it
abbrev pub IsReady : Timeline → Option BitmapState → Type 0
IsReady t None = Unit {0}
IsReady t (Some b) = IsSoundBitmap t b × (is_busy b ≡ false)

-- ---- at a history that ends by the point

module _ (h0 : History) (p : Point) (rising : IsRising (with_point (timeline_of h0) p)) (a : BackupArgs) (store : Store) (allowed : IsAllowed (length h0.start) store.cluster) where
  base_holds : (b : BitmapState) (base : Base) → IsSoundBitmap (timeline_of (with_entry h0 (Reached p))) b → is_busy b ≡ false → base_at p b ≡ base
      → ScopeHolds (with_entry h0 (Reached p)) (new_job (length h0.start) p a (Some b) store) base
  base_holds b Whole s idle builds = absurd (not_whole p b.span builds)
  base_holds b (Since from) s idle builds =
      let t : Timeline = timeline_of (with_entry h0 (Reached p)) in
      let scope : List Bool = scope_for (length h0.start) store.cluster (Some b) in
      let span : SpanHolds (with_point (timeline_of h0) p) from (At p) (that_pass (covers b)) =
      base_is_covered (timeline_of h0) p from b rising (subst (λ (x : Timeline). IsTrueBitmap x b) (timeline-reached h0 p) s.span_is) builds in
      let holds : SpanHolds t from (At p) (that_pass (covers b)) =
      subst (λ (x : Timeline). SpanHolds x from (At p) (that_pass (covers b))) (sym (timeline-reached h0 p)) span in
      record {
        drawn = holds.start;
        order = holds.order;
        changes = touched_wider (that_pass (covers b)) (that_pass (λ x. is_in scope (x / store.cluster))) t from p
            (λ x covered. covered_scope t store.cluster x b allowed s idle covered) holds.covered;
      }
  base_holds b Loose s idle builds = tt

  scope_holds : (found : Option BitmapState) → IsReady (timeline_of (with_entry h0 (Reached p))) found
      → ScopeHolds (with_entry h0 (Reached p)) (new_job (length h0.start) p a found store) (base_for p found)
  scope_holds o ready = grind (arith, common_steps, whole_scope, base_holds)

  pub new_job_shaped : (found : Option BitmapState) → IsShapedStore (length h0.start) store → IsShapedJob (length h0.start) (new_job (length h0.start) p a found store)
  new_job_shaped found shape = search (rules, scope_count, length-replicate, both_ways, is_in-replicate)

  pub new_job_sound : (found : Option BitmapState) → IsShapedStore (length h0.start) store → IsReady (timeline_of (with_entry h0 (Reached p))) found
      → IsSoundJob (with_entry h0 (Reached p)) (new_job (length h0.start) p a found store)
  new_job_sound found shape ready =
      let new : stands p (timeline_of h0) ≡ false = next-absent (timeline_of h0) p rising in
      record {
        shape = new_job_shaped found shape;
        drawn = stands-new h0 p;
        scope_is = scope_holds found ready;
        missing = λ x inside due. ap (λ (disk : List ℕ). slice_index disk x) (now-reached h0 p ∙ sym (disk_at-new h0 p new));
      }
