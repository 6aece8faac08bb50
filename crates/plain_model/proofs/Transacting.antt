-- A transaction takes a sound state to a sound state.
use Rattle.std.proofs.lemmas.Grind.{common_steps}
use Rattle.std.proofs.Common.{rules}
use Rattle.std.proofs.Common.{◌≡◌, ◌≢◌, ℕ, length, ◌+◌, List, [], ◌∷◌, Bool, false, refl, sym, ap, subst, ◌∙◌, arith}
use Rattle.std.specs.Prelude.{None, Result, Ok, Err, ◌==◌, if◌then◌else◌}
use Rattle.std.proofs.lemmas.Bool.{eqb-false}
use Rattle.span_algebra.specs.declared.points.Point.{Point}
use Rattle.span_algebra.specs.Timelines.{IsRising}
use Rattle.span_algebra.specs.Timelines as timelines
use Rattle.bitmap_model.specs.Bitmap.{when_cleared, when_enabled, when_disabled}
use Rattle.bitmap_model.specs.Bitmaps.{after_add, after_remove, after_change}
use Rattle.bitmap_model.proofs.Lists.{enabled_name, disabled_name}
use Rattle.core_events.specs.declared.commands.Action.{Action}
use Rattle.core_events.specs.declared.commands.Action.TheVariants.{Add, Remove, Clear, Enable, Disable, Merge, Backup, Abort}
use Rattle.core_events.specs.declared.refusals.Refusal.{Refusal}
use Rattle.core_events.specs.declared.refusals.Refusal.TheVariants.{OutOfMemory, SerialSpent}
use Rattle.plain_model.specs.History.{History, Reached, with_entry, timeline_of}
use Rattle.plain_model.specs.Machine.{Machine, size_of, last_number, next_point}
use Rattle.plain_model.specs.Laws.{IsFit}
use Rattle.plain_model.specs.Actions.{Held, Hindrance, RefusedAt, with_bitmaps, after_merge, merge_sources, unusable, granularity_for, act, is_at, fold_actions, with_point, transact}
use Rattle.plain_model.specs.Sound.{IsSoundFor, AreNumbers, IsSound}
use Rattle.plain_model.proofs.Points.{timeline-reached}
use Rattle.plain_model.proofs.Pointing.{pointed, pointed_history, rising_after}
use Rattle.plain_model.proofs.ChangedBitmaps.{cleared_sound, enabled_sound, disabled_sound}
use Rattle.plain_model.proofs.ActingOnBitmaps.{drive_ok, unrefused, IsBitmapAct, add_keeps, remove_keeps, change_keeps, merge_keeps}
use Rattle.plain_model.proofs.Acted.{KeepsRest, keeps_then, IsActed}
use Rattle.plain_model.proofs.Starting.{backup_keeps}

acted_from : (h : History) (m next : Machine) → IsBitmapAct h m next → IsActed h m next
acted_from h m next a = search rules

-- an action went well, and then the others
act_then : (held : List ℕ → Held) (hindrance : Hindrance) (p : Point) (k : ℕ) (actions : List Action) (next : Machine) (r : Result Machine Refusal)
    → (elim r as (λ (x : Result Machine Refusal). Result Machine RefusedAt) [
      | Ok mid ↦ fold_actions held hindrance p (k + 1) actions mid
      | Err refusal ↦ Err (record { action = k; refusal = refusal })
    ]) ≡ Ok next → (mid : Machine) × (r ≡ Ok mid) × (fold_actions held hindrance p (k + 1) actions mid ≡ Ok next)
act_then held hindrance p k actions next o e = grind (arith, common_steps)

fold_then : (p : Point) (next : Machine) (r : Result Machine RefusedAt)
    → (elim r as (λ (x : Result Machine RefusedAt). Result Machine RefusedAt) [ Ok last ↦ Ok (with_point p last) | Err refused ↦ Err refused ]) ≡ Ok next
    → (last : Machine) × (r ≡ Ok last) × (next ≡ with_point p last)
fold_then p next o e = grind (arith, common_steps)

-- where the test isn't met, the rest is the answer
past_error : {A E : Type 0} (test : Bool) (error : E) (rest : Result A E) (next : A) → (if test then Err error else rest) ≡ Ok next → (test ≡ false) × (rest ≡ Ok next)
past_error test error rest next e = search rules

module _ (h0 : History) (p : Point) (rising : IsRising (timelines.with_point (timeline_of h0) p)) (held : List ℕ → Held) (fit : (name : List ℕ) → IsFit (held name)) where
  pub act_keeps : (unread : List ℕ → Bool) (a : Action) (m next : Machine) → IsSoundFor (with_entry h0 (Reached p)) m → act held unread p a m ≡ Ok next
      → IsActed (with_entry h0 (Reached p)) m next
  unfolding act
  act_keeps unread (Add node name granularity persistent recording) m next s e =
      let h : History = with_entry h0 (Reached p) in
      let r : Result Machine Refusal =
      with_bitmaps m name (granularity_for granularity m) (after_add (size_of m) name (granularity_for granularity m) recording persistent p m.bitmaps) in
      acted_from h m next
      (add_keeps h (timeline_of h0) p (timeline-reached h0 p) rising name (granularity_for granularity m) recording persistent m next s (drive_ok node r next e))
  act_keeps unread (Remove node name) m next s e =
      let h : History = with_entry h0 (Reached p) in
      acted_from h m next
      (remove_keeps h (timeline_of h0) p (timeline-reached h0 p) rising name m next s (drive_ok node (with_bitmaps m name 0 (after_remove name m.bitmaps)) next e))
  act_keeps unread (Clear node name) m next s e =
      let h : History = with_entry h0 (Reached p) in
      acted_from h m next
      (change_keeps h (timeline_of h0) p (timeline-reached h0 p) rising (when_cleared p) name m next (λ b. refl) (cleared_sound (timeline_of h0) p rising) s
      (drive_ok node (with_bitmaps m name 0 (after_change (when_cleared p) name m.bitmaps)) next e))
  act_keeps unread (Enable node name) m next s e =
      let h : History = with_entry h0 (Reached p) in
      acted_from h m next
      (change_keeps h (timeline_of h0) p (timeline-reached h0 p) rising (when_enabled p) name m next (enabled_name p) (enabled_sound (timeline_of h0) p rising) s
      (drive_ok node (with_bitmaps m name 0 (after_change (when_enabled p) name m.bitmaps)) next e))
  act_keeps unread (Disable node name) m next s e =
      let h : History = with_entry h0 (Reached p) in
      acted_from h m next
      (change_keeps h (timeline_of h0) p (timeline-reached h0 p) rising (when_disabled p) name m next (disabled_name p) (disabled_sound (timeline_of h0) p rising) s
      (drive_ok node (with_bitmaps m name 0 (after_change (when_disabled p) name m.bitmaps)) next e))
  act_keeps unread (Merge node target sources) m next s e =
      let h : History = with_entry h0 (Reached p) in
      let fine : (unusable target m ≡ None) × (merge_sources target p sources m ≡ Ok next) =
      unrefused (unusable target m) (merge_sources target p sources m) next (drive_ok node (after_merge target p sources m) next e) in
      acted_from h m next (merge_keeps h (timeline_of h0) p (timeline-reached h0 p) rising target sources m next s fine.1)
  act_keeps unread (Backup a) m next s e = backup_keeps h0 p rising held unread a m next fit s e
  act_keeps unread Abort m next s e = absurd (cc)

  pub fold_keeps : (hindrance : Hindrance) (k : ℕ) (actions : List Action) (m next : Machine) → IsSoundFor (with_entry h0 (Reached p)) m
      → fold_actions held hindrance p k actions m ≡ Ok next → IsActed (with_entry h0 (Reached p)) m next
  fold_keeps hindrance k [] m next s e = search rules
  fold_keeps hindrance k (a ∷ actions) m next s e =
      let r : Result Machine Refusal = act held hindrance.unread p a m in
      let rest : Result Machine RefusedAt =
      elim r as (λ (x : Result Machine Refusal). Result Machine RefusedAt) [
        | Ok mid ↦ fold_actions held hindrance p (k + 1) actions mid
        | Err refusal ↦ Err (record { action = k; refusal = refusal })
      ] in
      let fine : (is_at hindrance.memory k ≡ false) × (rest ≡ Ok next) = past_error (is_at hindrance.memory k) (record { action = k; refusal = OutOfMemory }) rest next e in
      let one : (mid : Machine) × (r ≡ Ok mid) × (fold_actions held hindrance p (k + 1) actions mid ≡ Ok next) = act_then held hindrance p k actions next r fine.1 in
      let first : IsActed (with_entry h0 (Reached p)) m one.0 = act_keeps hindrance.unread a m one.0 s one.1 in
      let then_on : IsActed (with_entry h0 (Reached p)) one.0 next = fold_keeps hindrance (k + 1) actions one.0 next first.sound one.2 in
      record { sound = then_on.sound; rest = keeps_then m one.0 next first.rest then_on.rest }

-- ---- the point is drawn

-- the state knows of its history as long as the disk alone
drawn_for : (h : History) (p : Point) (m : Machine) → IsSoundFor h m → IsSoundFor h (with_point p m)
drawn_for h p m s = search rules

drawn_numbers : (m last : Machine) (p : Point) → KeepsRest m last → m.serial ≢ last_number → AreNumbers m → AreNumbers (with_point p last)
drawn_numbers m last p rest free n = search rules

-- a sound state whose actions went well is sound with its point
drawn_sound : (m last : Machine) → IsSound m → m.serial ≢ last_number → IsActed (with_entry m.history (Reached (next_point m))) m last → IsSound (with_point (next_point m) last)
drawn_sound m last s free a = search (rules, pointed_history, rising_after, drawn_for, drawn_numbers)

-- what a transaction that isn't refused makes
pub record IsTransacted (m next : Machine) : Type 0 where
  pub sound : IsSound next
  pub sized : size_of next ≡ size_of m

pub transact_sound : (held : List ℕ → Held) (hindrance : Hindrance) (actions : List Action) (m next : Machine) → ((name : List ℕ) → IsFit (held name)) → IsSound m
    → transact held hindrance actions m ≡ Ok next → IsTransacted m next
unfolding transact
transact_sound held hindrance actions m next fit s e =
    let p : Point = next_point m in
    let r : Result Machine RefusedAt = fold_actions held hindrance p 0 actions m in
    let rest : Result Machine RefusedAt = elim r as (λ (x : Result Machine RefusedAt). Result Machine RefusedAt) [ Ok last ↦ Ok (with_point p last) | Err refused ↦ Err refused ] in
    let fine : ((m.serial == last_number) ≡ false) × (rest ≡ Ok next) = past_error (m.serial == last_number) (record { action = 0; refusal = SerialSpent }) rest next e in
    let one : (last : Machine) × (r ≡ Ok last) × (next ≡ with_point p last) = fold_then p next r fine.1 in
    let acted : IsActed (with_entry m.history (Reached p)) m one.0 = fold_keeps m.history p s.next held fit hindrance 0 actions m one.0 (pointed m s) one.1 in
    record {
      sound = subst IsSound (sym one.2) (drawn_sound m one.0 s (eqb-false m.serial last_number fine.0) acted);
      sized = ap size_of one.2 ∙ ap (λ (h : History). length h.start) acted.rest.history;
    }
