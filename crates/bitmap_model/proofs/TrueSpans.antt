-- What each change does to a bitmap's true span.
use Rattle.std.proofs.lemmas.Grind.{common_steps}
use Rattle.std.proofs.Common.{arith, ◌≡◌, ℕ, ◌+◌, ◌≤◌, Bool, true, false, List, inl, inr, sym, subst}
use Rattle.std.specs.Prelude.{IsTrue}
use Rattle.span_algebra.specs.declared.points.Point.{Point}
use Rattle.span_algebra.specs.declared.points.End.TheVariants.{Now, At}
use Rattle.span_algebra.specs.declared.spans.Span.{Span}
use Rattle.span_algebra.specs.declared.spans.Base.TheVariants.{Since}
use Rattle.span_algebra.specs.Timelines.{Extent, Timeline, with_write, with_point, IsRising, stands}
use Rattle.span_algebra.specs.Spans.{that_pass, AllTouched, SpanHolds, SpanIsTrue, after_clear}
use Rattle.span_algebra.proofs.Growth.{larger, write_keeps, point_keeps}
use Rattle.span_algebra.proofs.LastPoint.{clear_makes, disable_keeps, enable_keeps, abdication_makes, base_holds}
use Rattle.span_algebra.proofs.Merging.{merge_keeps}
use Rattle.bitmap_model.specs.Bitmap.{BitmapState, IsTrueBitmap, IsShapedBitmap, is_busy, covers, successor_has, new_bitmap, when_written, when_cleared, when_enabled, when_disabled, when_merged, when_frozen, when_abdicated, when_reclaimed, base_at}
use Rattle.bitmap_model.specs.BitmapLaws.{IsRecordedToNow, SuccessorCovers}
use Rattle.bitmap_model.proofs.Writes.{written_span}
use Rattle.bitmap_model.proofs.Covers.{written_covers_own, written_covers_range, written_successor_own, written_successor_range, merging_covers_own, merging_covers_source, reclaimed_covers, abdicated_covers}

-- ---- changes at the last point

pub added_is_true : (h : Timeline) (p : Point) (size : ℕ) (name : List ℕ) (granularity : ℕ) (recording persistent : Bool) → IsRising (with_point h p)
    → IsTrueBitmap (with_point h p) (new_bitmap size name granularity recording persistent p)
added_is_true h p size name granularity recording persistent rising =
    clear_makes h p recording (that_pass (covers (new_bitmap size name granularity recording persistent p))) rising

pub cleared_is_true : (h : Timeline) (p : Point) (b : BitmapState) → IsRising (with_point h p) → IsTrueBitmap (with_point h p) (when_cleared p b)
cleared_is_true h p b rising = clear_makes h p b.recording (that_pass (covers (when_cleared p b))) rising

pub enabled_keeps_true : (h : Timeline) (p : Point) (b : BitmapState) → IsRising (with_point h p) → IsTrueBitmap (with_point h p) b
    → IsTrueBitmap (with_point h p) (when_enabled p b)
enabled_keeps_true h p b rising t = grind (arith, common_steps, enable_keeps)

pub disabled_keeps_true : (h : Timeline) (p : Point) (b : BitmapState) → IsRising (with_point h p) → IsTrueBitmap (with_point h p) b
    → IsTrueBitmap (with_point h p) (when_disabled p b)
disabled_keeps_true h p b rising t = grind (arith, common_steps, disable_keeps)

pub merged_keeps_true : (h : Timeline) (p : Point) (size : ℕ) (source b : BitmapState) → IsRising (with_point h p) → IsShapedBitmap size source
    → IsShapedBitmap size b → is_busy source ≡ false → IsTrueBitmap (with_point h p) source → IsTrueBitmap (with_point h p) b
    → IsTrueBitmap (with_point h p) (when_merged source p b)
merged_keeps_true h p size source b rising shape shaped idle s t =
    merge_keeps h p b.span source.span (that_pass (covers b)) (that_pass (covers source)) (that_pass (covers (when_merged source p b))) rising
    (λ x here. elim here [
      | inl own ↦ merging_covers_own source p b x own
      | inr there ↦ merging_covers_source size source p b x shape shaped idle there
    ]) t s

-- ---- changes at any moment

pub written_keeps_true : (h : Timeline) (e : Extent) (size : ℕ) (b : BitmapState) → IsShapedBitmap size b → e.at + e.size ≤ size → IsRecordedToNow b
    → IsTrueBitmap h b → IsTrueBitmap (with_write h e) (when_written e b)
written_keeps_true h e size b shaped inside recorded t =
    let grown : SpanIsTrue h b.span (that_pass (covers (when_written e b))) =
    larger h b.span (that_pass (covers b)) (that_pass (covers (when_written e b))) (λ x here. written_covers_own e b x here) t in
    subst (λ (span : Span). SpanIsTrue (with_write h e) span (that_pass (covers (when_written e b)))) (sym (written_span e b))
    (write_keeps h e b.span (that_pass (covers (when_written e b))) (λ now x low high. written_covers_range size e b x shaped inside (recorded now) low high) grown)

pub further_point_keeps_true : (h : Timeline) (q : Point) (b : BitmapState) → IsTrueBitmap h b → IsTrueBitmap (with_point h q) b
further_point_keeps_true h q b t = grind (arith, common_steps, point_keeps)

pub frozen_keeps_true : (h : Timeline) (b : BitmapState) → is_busy b ≡ false → IsTrueBitmap h b → IsTrueBitmap h (when_frozen b)
frozen_keeps_true h b idle t = grind (arith, common_steps, larger)

pub reclaimed_keeps_true : (h : Timeline) (size : ℕ) (b : BitmapState) → IsShapedBitmap size b → IsTrueBitmap h b → IsTrueBitmap h (when_reclaimed b)
reclaimed_keeps_true h size b shaped t =
    larger h b.span (that_pass (covers b)) (that_pass (covers (when_reclaimed b))) (λ x here. reclaimed_covers size b x shaped here) t

pub abdicated_is_true : (h : Timeline) (p : Point) (b : BitmapState) → stands p h ≡ true
    → (IsTrue b.recording → AllTouched (that_pass (successor_has b.successor)) h p Now) → IsTrueBitmap h (when_abdicated p b)
abdicated_is_true h p b there all =
    larger h (after_clear b.recording p) (that_pass (successor_has b.successor)) (that_pass (covers (when_abdicated p b)))
    (λ x here. abdicated_covers p b x here)
    (abdication_makes h p b.recording (that_pass (successor_has b.successor)) there all)

-- ---- what a backup builds on, and what a successor records

pub base_is_covered : (h : Timeline) (p a : Point) (b : BitmapState) → IsRising (with_point h p) → IsTrueBitmap (with_point h p) b → base_at p b ≡ Since a
    → SpanHolds (with_point h p) a (At p) (that_pass (covers b))
base_is_covered h p a b rising t builds = base_holds h p a b.span (that_pass (covers b)) rising t builds

pub successor_covers : (size : ℕ) (e : Extent) (b : BitmapState) → IsShapedBitmap size b → e.at + e.size ≤ size → b.recording ≡ true → is_busy b ≡ true
    → SuccessorCovers size e b
successor_covers size e b shaped inside records busy = record {
  written = λ x low high. written_successor_range size e b x shaped inside records busy low high;
  before = λ x here. written_successor_own e b x here;
}
