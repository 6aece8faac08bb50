-- A write on a state in which no missing unit meets the range: the state stays sound.
use Rattle.std.proofs.Common.{rules}
use Rattle.std.proofs.lemmas.Grind.{common_steps}
use Rattle.std.proofs.Common.{◌≡◌, ℕ, ◌+◌, ◌/◌, ◌<◌, ◌≤◌, List, true, false, Option, Some, None, IsTrue, All, Contains, length, bytes_eq, get_or, refl, sym, ap, subst, ◌∙◌, arith}
use Rattle.std.specs.Prelude.{slice_index, option_map}
use Rattle.std.proofs.lemmas.Bool.{cases_lt, both_ways}
use Rattle.std.proofs.lemmas.List.Elements.{All-map, All-weaker, All-contains_itself}
use Rattle.disk_model.specs.Files.{overlay}
use Rattle.disk_model.proofs.Bytes.{byte-overlay_below, byte-overlay_above}
use Rattle.span_algebra.specs.declared.points.Point.{Point}
use Rattle.span_algebra.specs.declared.points.End.TheVariants.{Now}
use Rattle.span_algebra.specs.declared.spans.Base.{Base}
use Rattle.span_algebra.specs.declared.spans.Base.TheVariants.{Whole, Since, Loose}
use Rattle.span_algebra.specs.Timelines.{Extent, Timeline, with_write, with_point, IsRising, stands, touched}
use Rattle.span_algebra.specs.Spans.{that_pass, granule, AllBytes}
use Rattle.span_algebra.proofs.Growth.{wider}
use Rattle.bitmap_model.specs.Granules.{is_in, meets}
use Rattle.bitmap_model.specs.Bitmap.{BitmapState, is_busy, successor_has, when_written}
use Rattle.bitmap_model.specs.BitmapLaws.{IsBlank, SuccessorCovers}
use Rattle.bitmap_model.specs.Bitmaps.{named, is_name, after_write}
use Rattle.bitmap_model.proofs.Covering.{meets-from}
use Rattle.bitmap_model.proofs.Lists.{named_all, named_name, same_bytes-itself, after_write_apart, after_write_length, after_write_named}
use Rattle.bitmap_model.proofs.Places.{granule_from, granule_to}
use Rattle.bitmap_model.proofs.Recorded.{written_keeps_recorded}
use Rattle.bitmap_model.proofs.Shapes.{written_keeps_shape}
use Rattle.bitmap_model.proofs.TrueSpans.{written_keeps_true, successor_covers}
use Rattle.bitmap_model.proofs.Writes.{when_written-off, written_name, written_recording, written_persistent, written_inconsistent, written_is_busy}
use Rattle.plain_model.specs.History.{History, Wrote, now, with_entry, timeline_of}
use Rattle.plain_model.specs.Jobs.{Job, unit_of}
use Rattle.plain_model.specs.Machine.{Machine, size_of, runners, next_point}
use Rattle.plain_model.specs.Outcome.{after_marking}
use Rattle.plain_model.specs.Sound.{IsSoundBitmap, AreSoundBitmaps, ScopeHolds, IsSoundJob, uses, is_own, IsUsedOnce, SuccessorHolds, HasItsBitmap, AreUsers, IsSoundFor, IsSound}
use Rattle.plain_model.proofs.Points.{timeline-wrote, now-wrote, disk_at-entry, stands-entry, touched-entry, touched_now-wrote}
use Rattle.plain_model.proofs.Rising.{rising-write, history-wrote}
use Rattle.plain_model.proofs.Giving.{found_bitmap}
use Rattle.plain_model.proofs.Leaving.{all_front}
use Rattle.plain_model.proofs.Copying.{IsClear}

-- ---- bitmaps

marked_blank : (e : Extent) (b : BitmapState) → (IsTrue b.inconsistent → IsBlank b) → IsTrue (when_written e b).inconsistent → IsBlank (when_written e b)
marked_blank e b blank inconsistent = search (rules, written_inconsistent, when_written-off)

marked_is_sound : (t : Timeline) (e : Extent) → e.at + e.size ≤ t.start → (b : BitmapState) → IsSoundBitmap t b → IsSoundBitmap (with_write t e) (when_written e b)
marked_is_sound t e fits b s = record {
  name_is = subst (λ (name : List ℕ). IsTrue (is_name name)) (sym (written_name e b)) s.name_is;
  shape = written_keeps_shape t.start e b s.shape;
  span_is = written_keeps_true t e t.start b s.shape fits s.recorded s.span_is;
  recorded = written_keeps_recorded e b s.recorded;
  blank = marked_blank e b s.blank;
  kept = λ inconsistent. written_persistent e b ∙ s.kept (sym (written_inconsistent e b) ∙ inconsistent);
}

marked_are_sound : (t : Timeline) (e : Extent) → e.at + e.size ≤ t.start → (bs : List BitmapState) → AreSoundBitmaps t bs
    → AreSoundBitmaps (with_write t e) (after_write e bs)
marked_are_sound t e fits bs s = record {
  each = All-map (IsSoundBitmap (with_write t e)) (when_written e) bs
      (All-weaker (IsSoundBitmap t) (λ (b : BitmapState). IsSoundBitmap (with_write t e) (when_written e b)) (marked_is_sound t e fits) bs s.each);
  apart = after_write_apart e bs s.apart;
  few = omega (arith, s.few, after_write_length e bs);
}

written_once : (e : Extent) (jobs : List Job) (b : BitmapState) → IsUsedOnce jobs b → IsUsedOnce jobs (when_written e b)
written_once e jobs b once = search (rules, written_name, written_is_busy)

-- a bitmap that a job uses is busy
used_is_busy : (jobs : List Job) (b : BitmapState) (j : Job) → Contains jobs j → uses b.name j ≡ true → IsUsedOnce jobs b → is_busy b ≡ true
used_is_busy jobs b j there own once = grind (arith, common_steps)

-- ---- one write

module _ (h : History) (e : Extent) (bytes : List ℕ) (long : length bytes ≡ e.size) where
  abbrev written : History
  written = with_entry h (Wrote e.at bytes)

  written_timeline : timeline_of written ≡ with_write (timeline_of h) e
  written_timeline = timeline-wrote h e.at bytes ∙ ap (λ (n : ℕ). with_write (timeline_of h) (record { at = e.at; size = n })) long

  -- ---- jobs

  written_scope : (j : Job) (base : Base) → IsSoundJob h j → ScopeHolds h j base → ScopeHolds written j base
  written_scope j Whole s holds = holds
  written_scope j (Since a) s holds = record {
    drawn = stands-entry h (Wrote e.at bytes) a holds.drawn;
    order = holds.order;
    changes = touched-entry (that_pass (λ x. is_in j.scope (x / unit_of j))) h (Wrote e.at bytes) a j.point s.drawn holds.changes;
  }
  written_scope j Loose s holds = tt

  -- a byte in a missing unit isn't written
  byte_stays : (u x : ℕ) → 0 < u → meets e (granule u (x / u)) ≡ false → slice_index (overlay (now h) e.at bytes) x ≡ slice_index (now h) x
  byte_stays u x some apart = search (rules, cases_lt, byte-overlay_below, both_ways, meets-from, granule_from, granule_to, byte-overlay_above)

  written_job : (j : Job) → IsClear e j → IsSoundJob h j → IsSoundJob written j
  written_job j clear s = record {
    shape = s.shape;
    drawn = stands-entry h (Wrote e.at bytes) j.point s.drawn;
    scope_is = written_scope j j.base s s.scope_is;
    missing = λ x below missing.
        let some : 0 < unit_of j = omega (arith, s.shape.store_shape.cluster_some) in
        ap (λ (d : List ℕ). slice_index d x) (now-wrote h e.at bytes) ∙ byte_stays (unit_of j) x some (clear (x / unit_of j) missing)
        ∙ s.missing x below missing ∙ sym (ap (λ (d : List ℕ). slice_index d x) (disk_at-entry h (Wrote e.at bytes) j.point s.drawn));
  }

  -- ---- bitmaps in use

  -- the successor of a busy bitmap that records has the write too
  marked_holds : (p : Point) (b : BitmapState) → e.at + e.size ≤ length h.start → IsTrue (stands p (timeline_of h)) → is_busy b ≡ true
      → IsSoundBitmap (timeline_of h) b → SuccessorHolds h p (Some b) → SuccessorHolds written p (Some (when_written e b))
  marked_holds p b fits drawn busy s holds = λ records.
      let Has : ℕ → Type 0 = that_pass (successor_has b.successor) in
      let More : ℕ → Type 0 = that_pass (successor_has (when_written e b).successor) in
      let recording : b.recording ≡ true = sym (written_recording e b) ∙ records in
      let c : SuccessorCovers (length h.start) e b = successor_covers (length h.start) e b s.shape fits recording busy in
      let old : All (AllBytes More) (touched (timeline_of h) p Now) =
      All-weaker (AllBytes Has) (AllBytes More) (wider Has More c.before) (touched (timeline_of h) p Now) (holds recording) in
      touched_now-wrote More h e.at bytes p drawn (subst (λ (n : ℕ). AllBytes More (record { at = e.at; size = n })) (sym long) c.written) old

  written_there : (jobs : List Job) (bs : List BitmapState) (j : Job) (own : Option (List ℕ)) → e.at + e.size ≤ length h.start
      → IsTrue (stands j.point (timeline_of h)) → All (IsUsedOnce jobs) bs → All (IsSoundBitmap (timeline_of h)) bs → Contains jobs j → j.bitmap ≡ own
      → HasItsBitmap h bs j own → HasItsBitmap written (after_write e bs) j own
  written_there jobs bs j None fits drawn once each there is holds = tt
  written_there jobs bs j (Some name) fits drawn once each there is holds =
      let found : (b : BitmapState) × (named name bs ≡ Some b) × SuccessorHolds h j.point (Some b) = found_bitmap h j.point (named name bs) holds in
      let b : BitmapState = found.0 in
      let own : uses b.name j ≡ true = ap (is_own b.name) is ∙ ap (λ (n : List ℕ). bytes_eq n name) (named_name name bs b found.1) ∙ same_bytes-itself name in
      let busy : is_busy b ≡ true = used_is_busy jobs b j there own (named_all (IsUsedOnce jobs) name bs b once found.1) in
      subst (SuccessorHolds written j.point) (sym (after_write_named e name bs ∙ ap (option_map (when_written e)) found.1))
      (marked_holds j.point b fits drawn busy (named_all (IsSoundBitmap (timeline_of h)) name bs b each found.1) found.2)

  written_users : (jobs : List Job) (bs : List BitmapState) → e.at + e.size ≤ length h.start → All (IsSoundJob h) jobs
      → All (IsSoundBitmap (timeline_of h)) bs → AreUsers h jobs bs → AreUsers written jobs (after_write e bs)
  written_users jobs bs fits sound each s =
      let inside : All (Contains jobs) jobs = All-contains_itself jobs in
      record {
        once = All-map (IsUsedOnce jobs) (when_written e) bs
            (All-weaker (IsUsedOnce jobs) (λ (b : BitmapState). IsUsedOnce jobs (when_written e b)) (written_once e jobs) bs s.once);
        there = λ k d below.
            let j : Job = get_or jobs k d in
            written_there jobs bs j j.bitmap fits (sound k d below).drawn s.once each (inside k d below) refl (s.there k d below);
      }

-- ---- the state

pub marking_keeps : (h : History) (e : Extent) (bytes : List ℕ) (m : Machine) → length bytes ≡ e.size → e.at + e.size ≤ size_of m → All (IsClear e) (runners m)
    → IsSoundFor h m → IsSoundFor (with_entry h (Wrote e.at bytes)) (after_marking e bytes m)
unfolding after_marking
marking_keeps h e bytes m long fits clear s =
    let within : e.at + e.size ≤ length h.start = omega (arith, s.sized) in
    let h' : History = with_entry h (Wrote e.at bytes) in
    record {
      sized = s.sized;
      bitmaps_are = subst (λ (t : Timeline). AreSoundBitmaps t (after_write e m.bitmaps)) (sym (written_timeline h e bytes long))
          (marked_are_sound (timeline_of h) e within m.bitmaps s.bitmaps_are);
      jobs_are = record {
        each = λ k d below. written_job h e bytes long (get_or (runners m) k d) (clear k d below) (s.jobs_are.each k d below);
        are_views = s.jobs_are.are_views;
        ids = s.jobs_are.ids;
        targets = s.jobs_are.targets;
        off_drive = s.jobs_are.off_drive;
        few = s.jobs_are.few;
      };
      order = s.order;
      users = written_users h e bytes long m.jobs m.bitmaps within (all_front (IsSoundJob h) m.jobs m.views s.jobs_are.each) s.bitmaps_are.each s.users;
      exports_are = s.exports_are;
      store_shape = s.store_shape;
      quiet = s.quiet;
    }

pub marking_is_sound : (e : Extent) (bytes : List ℕ) (m : Machine) → length bytes ≡ e.size → e.at + e.size ≤ size_of m → All (IsClear e) (runners m)
    → IsSound m → IsSound (after_marking e bytes m)
unfolding after_marking
marking_is_sound e bytes m long fits clear s = record {
  history_is = history-wrote m.history e.at bytes s.history_is (omega (arith, long, fits));
  next = subst (λ (t : Timeline). IsRising (with_point t (next_point m))) (sym (timeline-wrote m.history e.at bytes))
      (rising-write (timeline_of m.history) (record { at = e.at; size = length bytes }) (next_point m) s.next);
  state = marking_keeps m.history e bytes m long fits clear s.state;
  numbers = search rules;
}
