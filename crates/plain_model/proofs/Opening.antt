-- A session begins in a sound state.
use Rattle.std.proofs.Common.{rules}
use Rattle.std.proofs.lemmas.Grind.{common_steps}
use Rattle.std.proofs.Common.{◌≡◌, ℕ, ◌+◌, ◌≤◌, List, [], ◌∷◌, ◌++◌, length, map, true, refl, sym, subst, arith}
use Rattle.std.specs.Prelude.{All, IsTrue}
use Rattle.std.proofs.lemmas.List.{length-map}
use Rattle.std.proofs.lemmas.List.Elements.{All-nil, All-cons, All-head, All-tail, All-map, All-append}
use Rattle.std.proofs.lemmas.Bool.Decides.{nat_tests}
use Rattle.span_algebra.specs.declared.points.Point.{Point}
use Rattle.span_algebra.specs.Points.{precedes}
use Rattle.span_algebra.specs.Timelines.{is_after, Rise}
use Rattle.span_algebra.specs.Timelines as timelines
use Rattle.bitmap_model.specs.Bitmap.{StoredBitmap, restored}
use Rattle.bitmap_model.specs.Bitmaps.{most_bitmaps, IsShapedEntry}
use Rattle.plain_model.specs.History.{History, IsHistory, timeline_of}
use Rattle.plain_model.specs.Jobs.{Job}
use Rattle.plain_model.specs.Machine.{Opening, opened}
use Rattle.plain_model.specs.Lawful.{IsTrueEntry, IsOfEpoch}
use Rattle.plain_model.specs.Laws.{IsLawfulOpening}
use Rattle.plain_model.specs.Sound.{IsSoundBitmap, IsUsedOnce, HasItsBitmap, IsSound}
use Rattle.plain_model.proofs.Counting.{all_both}

-- ---- the first point of a session

first_after : (epoch serial : ℕ) (q : Point) → q.epoch ≤ epoch → precedes q (record { epoch = epoch + 1; serial = serial }) ≡ true
first_after epoch serial q h = grind (arith, nat_tests)

-- it stands after all of earlier epochs
pub rises_to : (epoch serial : ℕ) (xs : List timelines.Entry) → All (IsOfEpoch epoch) xs → Rise xs → Rise (xs ++ timelines.Reached (record { epoch = epoch + 1; serial = serial }) ∷ [])
rises_to epoch serial [] old rising = (All-nil (λ m. IsTrue (is_after (record { epoch = epoch + 1; serial = serial }) m)), tt)
rises_to epoch serial (timelines.Wrote e ∷ xs) old rising = rises_to epoch serial xs (All-tail (IsOfEpoch epoch) (timelines.Wrote e) xs old) rising
rises_to epoch serial (timelines.Reached q ∷ xs) old rising =
    let p : Point = record { epoch = epoch + 1; serial = serial } in
    let later : All (λ m. IsTrue (is_after q m)) (timelines.Reached p ∷ []) =
    All-cons (λ m. IsTrue (is_after q m)) (timelines.Reached p) [] (first_after epoch serial q (All-head (IsOfEpoch epoch) (timelines.Reached q) xs old)) (All-nil (λ m. IsTrue (is_after q m))) in (
      All-append (λ m. IsTrue (is_after q m)) xs (timelines.Reached p ∷ []) rising.0 later,
      rises_to epoch serial xs (All-tail (IsOfEpoch epoch) (timelines.Reached q) xs old) rising.1,
    )

-- ---- bitmaps that are restored

pub restored_sound : (h : History) (e : StoredBitmap) → IsShapedEntry (length h.start) e → (IsTrue e.trusted → IsTrueEntry h e) → IsSoundBitmap (timeline_of h) (restored e)
restored_sound h e shape truth = grind (arith, common_steps)

-- no job uses one
restored_unused : (e : StoredBitmap) → IsUsedOnce [] (restored e)
restored_unused e = search rules

-- ---- the state

pub opening_sound : (h : History) (o : Opening) → IsHistory h → IsLawfulOpening h o → IsSound (opened h o)
unfolding opened
opening_sound h o is lawful = record {
  history_is = is;
  next = rises_to o.epoch (0 + 1) (timeline_of h).entries lawful.epochs is.rising;
  state = record {
    sized = refl;
    bitmaps_are = record {
      each = All-map (IsSoundBitmap (timeline_of h)) restored o.entries
          (all_both (IsShapedEntry (length h.start)) (λ (e : StoredBitmap). IsTrue e.trusted → IsTrueEntry h e) (λ (e : StoredBitmap). IsSoundBitmap (timeline_of h) (restored e)) o.entries
          (λ e shape truth. restored_sound h e shape truth) lawful.shapes lawful.truths);
      apart = lawful.apart;
      few = subst (λ (n : ℕ). n ≤ most_bitmaps) (sym (length-map o.entries restored)) lawful.few;
    };
    jobs_are = search rules;
    order = search rules;
    users = record {
      once = All-map (IsUsedOnce []) restored o.entries (λ k d below. restored_unused _);
      there = All-nil (λ (j : Job). HasItsBitmap h (map restored o.entries) j j.bitmap);
    };
    exports_are = search rules;
    store_shape = search rules;
    quiet = λ broken. refl;
  };
  numbers = search rules;
}
