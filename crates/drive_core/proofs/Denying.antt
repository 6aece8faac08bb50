-- A request that is denied.
use Rattle.std.proofs.Common.{◌≡◌, ℕ, List, [], ◌∷◌, ◌++◌, length, Bool, true, false, not, ◌&&◌, ◌||◌, IsTrue, Option, Some, None, is_some, refl, sym, ap, subst, ◌∙◌}
use Rattle.std.specs.Prelude.{is_none, if◌then◌else◌}
use Rattle.disk_model.specs.World.{World, nothing}
use Rattle.disk_model.proofs.Laws.{stay}
use Rattle.core_events.specs.Events.{Request, Guest}
use Rattle.core_events.specs.declared.events.Work.{Work}
use Rattle.core_events.specs.declared.events.Work.TheVariants.{Read, Write, Zero, Flush, Status}
use Rattle.core_events.specs.declared.answers.Errno.{Errno}
use Rattle.core_events.specs.declared.answers.Errno.TheVariants.{Io, Invalid}
use Rattle.core_events.specs.Answers.{Fault}
use Rattle.image_model.specs.Space.{Store}
use Rattle.plain_model.specs.History.{History, now}
use Rattle.plain_model.specs.Machine.{Machine}
use Rattle.plain_model.specs.Requests.{HasBytes, is_write, denial}
use Rattle.plain_model.specs.Outcome.{Trouble, no_trouble, Fate, Denied, fate, breaks_by}
use Rattle.plain_model.specs.Step.{SpaceBy}
use Rattle.plain_model.specs.Faults.{is_io_errno}
use Rattle.plain_model.specs.Lawful.{disks_after}
use Rattle.plain_model.proofs.Histories.{length-now}
use Rattle.plain_model.proofs.Steps.{guest_outcome}
use Rattle.core_node.specs.Step.{NodeSteps}
use Rattle.core_node.proofs.Causing.{quiet_causes}
use Rattle.core_node.proofs.Rises.{rise_of, is_rise, quiet}
use Rattle.drive_core.specs.Drive.{Drive, shown_of, machine_of, next, no_targets, on_drive, is_bad, denies, IsHeld, Keeps, Answers}
use Rattle.drive_core.proofs.Laws.{Knows, HasSpace, HasSizes, IsBare}
use Rattle.drive_core.proofs.Denials.{denial_is}
use Rattle.drive_core.proofs.Fates.{refused}
use Rattle.drive_core.proofs.Changes.{none_held}
use Rattle.drive_core.proofs.Going.{Served, after, steps}
use Rattle.drive_core.proofs.Still.{Rests, unchanged, still}

io_in : Option Errno → Bool
io_in None = false
io_in (Some errno) = is_io_errno errno

invalid : (errno : Errno) → Some Invalid ≡ Some errno → is_io_errno errno ≡ false
unfolding io_in
invalid errno is = ap io_in (sym is)

-- EIO is a denial only on a source that is broken
denied_counts : (drive bad : Bool) (broken : Option ℕ) (errno : Errno) → (if not drive || bad then Some Invalid else if is_some broken then Some Io else None) ≡ Some errno → (is_none broken && is_io_errno errno) ≡ false
denied_counts true true None errno is = invalid errno is
denied_counts true true (Some n) errno is = refl
denied_counts true false None errno is = absurd (cc)
denied_counts true false (Some n) errno is = refl
denied_counts false bad None errno is = invalid errno is
denied_counts false bad (Some n) errno is = refl

fate_denied : (tr : Trouble) (r : Request) (m : Machine) (errno : Errno) → denial r m ≡ Some errno → fate tr r m ≡ Denied errno
unfolding fate
fate_denied tr r m errno is = rw (is, fate) refl

-- an answer that isn't Ok leaves the disks of the event
pub not_synced : (disks : List (List ℕ)) (work : Work) (disk : List ℕ) → disks_after disks work false disk ≡ (if is_write work then disks ++ disk ∷ [] else disks)
not_synced disks Read disk = refl
not_synced disks (Write false) disk = refl
not_synced disks (Write true) disk = refl
not_synced disks (Zero false no_hole) disk = refl
not_synced disks (Zero true no_hole) disk = refl
not_synced disks Flush disk = refl
not_synced disks (Status context one) disk = refl

module _ (d : Drive) {holds holding : Knows} {space spacing : World → Store} (w : World) (rests : Rests d.facts holds holding) (same : spacing w ≡ space w)
    (has_space : HasSpace d.facts d.room holds space) (has_space_then : HasSpace d.facts d.room holding spacing) (bare : IsBare d.facts holds) (sizes : HasSizes d.facts holds)
    (r : Request) (has : HasBytes r r.work) (errno : Errno) (is : denies (shown_of d) r ≡ Some errno) where
  counts : (is_none d.broken && is_io_errno errno) ≡ false
  counts = denied_counts (on_drive r.way) (is_bad (shown_of d) r r.work) d.broken errno is

  denied_served : (freed : ℕ) (h : History) (disks : List (List ℕ)) → IsHeld d (holds w) (space w) w freed h disks
      → Served none_held (rise_of w w) no_trouble d (after d.broken d.room d.ended d) holding space spacing (λ f. f) (λ g. g) w w (Guest r) (Fault errno) freed h disks
  denied_served freed h disks k =
      let size : d.facts.size ≡ length h.start = sym (sizes w (now h) disks k.holds_it).0 ∙ length-now h k.sound.history_is.inside in
      let m : Machine = machine_of (next d) (space w) freed h in
      let den : fate no_trouble r (machine_of (next d) (space w) freed h) ≡ Denied errno =
      fate_denied no_trouble r (machine_of (next d) (space w) freed h) errno (denial_is (shown_of d) r (machine_of (next d) (space w) freed h) refl refl refl refl size refl ∙ is) in
      record {
        outcome_is = refused none_held d (space w) freed h r no_trouble errno den;
        torn = tt;
        sound_outcome = guest_outcome none_held no_trouble r (machine_of d (space w) freed h) has tt k.sound;
        space_is = subst (λ (f : Fate). SpaceBy f r (machine_of d (space w) freed h) (machine_of (next d) (spacing w) freed h)) (sym den) (unchanged d d.broken d.room d.ended (space w) (spacing w) freed h same);
        faults = quiet (w.named d.facts.file) (rise_of w w) (machine_of d (space w) freed h) (Guest r) (Fault errno) counts (ap (λ (f : Fate). breaks_by f no_trouble r.work) den);
        leaves = still rests w w (stay nothing w) (λ none. none) (λ name none. none) k (Guest r) (disks_after disks r.work false (now h)) (not_synced disks r.work (now h));
      }

  denied_steps : IsTrue w.tells → NodeSteps no_targets (shown_of d) (Keeps d holds space w) (Keeps (next d) holding spacing w) w w (Guest r) (record { reply = Fault errno; notices = [] })
  denied_steps told = steps nothing none_held (rise_of w w) no_trouble d d.broken d.room d.ended holds holding space spacing (λ f. f) (λ g. g) w w (Guest r) (Fault errno) told (stay nothing w) (λ g none. absurd none) (is_rise w w) (λ name. refl) (λ h c lawful. lawful)
      has_space has_space_then bare denied_served

  pub denied_answers : Answers (shown_of d) (shown_of (next d)) (Keeps d holds space w) (Keeps (next d) holding spacing w) w w (Guest r) (Fault errno)
  denied_answers = record {
    steps = denied_steps;
    causes = quiet_causes refl (λ whole. ap (λ (o : Option ℕ). is_none o && is_io_errno errno) (sym whole) ∙ counts) (λ refused. refused) refl;
    source = record { file_stays = refl; id_stays = refl; size_stays = refl; epoch_stays = refl; directory_stays = refl };
    run = stay _ w;
  }
