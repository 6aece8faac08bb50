-- A true record stays true as the history goes on.
use Rattle.std.proofs.Common.{rules}
use Rattle.std.proofs.Common.{List, [], ◌∷◌, sym, subst}
use Rattle.std.specs.Prelude.{IsTrue}
use Rattle.span_algebra.specs.declared.points.Point.{Point}
use Rattle.span_algebra.specs.declared.spans.Base.{Base}
use Rattle.span_algebra.specs.declared.spans.Base.TheVariants.{Whole, Since, Loose}
use Rattle.span_algebra.specs.Timelines.{stands}
use Rattle.span_algebra.specs.Spans.{that_pass}
use Rattle.plain_model.specs.History.{Entry, History, with_entry, timeline_of}
use Rattle.plain_model.specs.Records.{is_present, ReadsAs, HoldsPoint, BaseHolds, StateHolds, RecordIsTrue}
use Rattle.image_model.specs.Backups.{Backup, BackupState, Blank, Begun, Sealed}
use Rattle.plain_model.proofs.Points.{with_entries, disk_at-more, stands-more, touched-more}

pub point-more : (h : History) (es : List Entry) (b : Backup) (p : Point) → HoldsPoint h b p → HoldsPoint (with_entries h es) b p
point-more h es b p holds = search (rules, stands-more h es p holds.drawn, subst (ReadsAs b) (sym (disk_at-more h es p holds.drawn)) holds.reads)

pub base-more : (h : History) (es : List Entry) (b : Backup) (base : Base) (p : Point) → IsTrue (stands p (timeline_of h)) → BaseHolds h b base p
    → BaseHolds (with_entries h es) b base p
base-more h es b Whole p there holds = holds
base-more h es b (Since a) p there holds = search (rules, stands-more h es a holds.drawn, touched-more (that_pass (is_present b)) h es a p there holds.changes)
base-more h es b Loose p there holds = tt

pub state-more : (h : History) (es : List Entry) (b : Backup) (state : BackupState) → StateHolds h b state → StateHolds (with_entries h es) b state
state-more h es b Blank holds = holds
state-more h es b Begun holds = tt
state-more h es b (Sealed base p) holds = (point-more h es b p holds.0, base-more h es b base p holds.0.drawn holds.1)

pub record-more : (h : History) (es : List Entry) (b : Backup) → RecordIsTrue h b → RecordIsTrue (with_entries h es) b
record-more h es b holds = state-more h es b b.state holds

pub record-entry : (h : History) (entry : Entry) (b : Backup) → RecordIsTrue h b → RecordIsTrue (with_entry h entry) b
record-entry h entry b holds = record-more h (entry ∷ []) b holds
