-- A sound state is sound for its history with the next point too.
use Rattle.std.proofs.Common.{rules}
use Rattle.std.proofs.lemmas.Grind.{common_steps}
use Rattle.std.proofs.Common.{◌≡◌, ℕ, ◌+◌, ◌/◌, List, true, sym, ap, subst, ◌∙◌, arith}
use Rattle.std.specs.Prelude.{IsTrue, Option, Some, None, slice_index}
use Rattle.std.proofs.lemmas.List.Elements.{All-weaker}
use Rattle.std.proofs.lemmas.Bool.Decides.{nat_tests}
use Rattle.span_algebra.specs.declared.points.Point.{Point}
use Rattle.span_algebra.specs.declared.spans.Base.{Base}
use Rattle.span_algebra.specs.declared.spans.Base.TheVariants.{Whole, Since, Loose}
use Rattle.span_algebra.specs.Points.{precedes}
use Rattle.span_algebra.specs.Timelines.{Timeline, with_point, stands, IsRising}
use Rattle.span_algebra.specs.Spans.{that_pass}
use Rattle.bitmap_model.specs.Granules.{is_in}
use Rattle.bitmap_model.specs.Bitmap.{BitmapState, successor_has}
use Rattle.bitmap_model.proofs.TrueSpans.{further_point_keeps_true}
use Rattle.plain_model.specs.History.{History, Entry, Reached, IsHistory, with_entry, timeline_of}
use Rattle.plain_model.specs.Jobs.{Job, unit_of}
use Rattle.plain_model.specs.Machine.{Machine, next_point}
use Rattle.plain_model.specs.Sound.{IsSoundBitmap, AreSoundBitmaps, ScopeHolds, IsSoundJob, AreSoundJobs, SuccessorHolds, HasItsBitmap, AreUsers, IsSoundFor, IsSound}
use Rattle.plain_model.proofs.Points.{timeline-reached, now-reached, disk_at-entry, stands-entry, touched-entry, touched_now-reached}
use Rattle.plain_model.proofs.Rising.{rising-point, history-reached}

-- ---- points go on to rise

next_precedes : (epoch serial : ℕ) → precedes (record { epoch = epoch; serial = serial }) (record { epoch = epoch; serial = serial + 1 }) ≡ true
next_precedes epoch serial = grind (arith, nat_tests)

-- ---- what is sound stays so as a point is drawn

pub pointed_bitmap : (h : History) (p : Point) (b : BitmapState) → IsSoundBitmap (timeline_of h) b → IsSoundBitmap (timeline_of (with_entry h (Reached p))) b
pointed_bitmap h p b s = search (rules, timeline-reached, further_point_keeps_true)

pub pointed_bitmaps : (h : History) (p : Point) (bs : List BitmapState) → AreSoundBitmaps (timeline_of h) bs → AreSoundBitmaps (timeline_of (with_entry h (Reached p))) bs
pointed_bitmaps h p bs s = search (rules, pointed_bitmap)

-- what a job's scope covers it covers as the history goes on
pub scope_goes_on : (h : History) (entry : Entry) (j : Job) (base : Base) → IsTrue (stands j.point (timeline_of h)) → ScopeHolds h j base → ScopeHolds (with_entry h entry) j base
scope_goes_on h entry j Whole there s = s
scope_goes_on h entry j (Since a) there s = record {
  drawn = stands-entry h entry a s.drawn;
  order = s.order;
  changes = touched-entry (that_pass (λ x. is_in j.scope (x / unit_of j))) h entry a j.point there s.changes;
}
scope_goes_on h entry j Loose there s = tt

pub pointed_job : (h : History) (p : Point) (j : Job) → IsSoundJob h j → IsSoundJob (with_entry h (Reached p)) j
pointed_job h p j s = record {
  shape = s.shape;
  drawn = stands-entry h (Reached p) j.point s.drawn;
  scope_is = scope_goes_on h (Reached p) j j.base s.drawn s.scope_is;
  missing = λ x below due.
      ap (λ (disk : List ℕ). slice_index disk x) (now-reached h p) ∙ s.missing x below due
      ∙ sym (ap (λ (disk : List ℕ). slice_index disk x) (disk_at-entry h (Reached p) j.point s.drawn));
}

pub pointed_jobs : (h : History) (p : Point) (jobs views : List Job) → AreSoundJobs h jobs views → AreSoundJobs (with_entry h (Reached p)) jobs views
pointed_jobs h p jobs views s = search (rules, pointed_job)

pointed_successor : (h : History) (p q : Point) (found : Option BitmapState) → SuccessorHolds h q found → SuccessorHolds (with_entry h (Reached p)) q found
pointed_successor h p q None s = s
pointed_successor h p q (Some b) s = λ on. touched_now-reached (that_pass (successor_has b.successor)) h p q (s on)

pointed_own : (h : History) (p : Point) (bs : List BitmapState) (j : Job) (own : Option (List ℕ)) → HasItsBitmap h bs j own → HasItsBitmap (with_entry h (Reached p)) bs j own
pointed_own h p bs j o s = grind (arith, common_steps, pointed_successor)

pub pointed_users : (h : History) (p : Point) (jobs : List Job) (bs : List BitmapState) → AreUsers h jobs bs → AreUsers (with_entry h (Reached p)) jobs bs
pointed_users h p jobs bs s = record {
  once = s.once;
  there = All-weaker (λ (j : Job). HasItsBitmap h bs j j.bitmap) (λ (j : Job). HasItsBitmap (with_entry h (Reached p)) bs j j.bitmap) (λ j own. pointed_own h p bs j j.bitmap own) jobs s.there;
}

pub pointed_for : (h : History) (p : Point) (m : Machine) → IsSoundFor h m → IsSoundFor (with_entry h (Reached p)) m
pointed_for h p m s = search (rules, pointed_bitmaps, pointed_jobs, pointed_users)

-- ---- a sound state at its next point

pub pointed_history : (m : Machine) → IsSound m → IsHistory (with_entry m.history (Reached (next_point m)))
pointed_history m s = history-reached m.history (next_point m) s.history_is s.next

pub pointed : (m : Machine) → IsSound m → IsSoundFor (with_entry m.history (Reached (next_point m))) m
pointed m s = pointed_for m.history (next_point m) m s.state

-- the point after the next stands after it
pub rising_after : (m : Machine) → IsSound m
    → IsRising (with_point (timeline_of (with_entry m.history (Reached (next_point m)))) (record { epoch = m.epoch; serial = (m.serial + 1) + 1 }))
rising_after m s =
    let q : Point = record { epoch = m.epoch; serial = (m.serial + 1) + 1 } in
    subst (λ (t : Timeline). IsRising (with_point t q)) (sym (timeline-reached m.history (next_point m)))
    (rising-point (timeline_of m.history) (next_point m) q s.next (next_precedes m.epoch (m.serial + 1)))
