-- What is no request: a tick, and the command that ends the session.
use Rattle.std.proofs.Common.{◌≡◌, ℕ, List, [], true, IsTrue, refl}
use Rattle.std.specs.Prelude.{is_none}
use Rattle.disk_model.specs.World.{World, nothing}
use Rattle.disk_model.proofs.Laws.{stay}
use Rattle.core_events.specs.Events.{Monitor, Tick}
use Rattle.core_events.specs.declared.commands.Command.TheVariants.{Quit}
use Rattle.core_events.specs.Answers.{Done}
use Rattle.image_model.specs.Space.{Store}
use Rattle.plain_model.specs.History.{History}
use Rattle.plain_model.specs.Actions.{Held}
use Rattle.plain_model.specs.Outcome.{no_trouble, outcome, tick, command}
use Rattle.plain_model.proofs.Steps.{tick_outcome, monitor_outcome}
use Rattle.core_node.specs.Step.{NodeSteps}
use Rattle.core_node.proofs.Rises.{rise_of, is_rise, quiet}
use Rattle.core_node.proofs.Causing.{quiet_causes}
use Rattle.drive_core.specs.Drive.{Drive, shown_of, machine_of, next, no_targets, IsHeld, Keeps, Answers}
use Rattle.drive_core.proofs.Laws.{Knows, HasSpace, IsBare}
use Rattle.drive_core.proofs.Fates.{reply_with}
use Rattle.drive_core.proofs.Changes.{none_held, never}
use Rattle.drive_core.proofs.Going.{Served, after, steps}
use Rattle.drive_core.proofs.Still.{Rests, unchanged, still}

ticked : (held : List ℕ → Held) (d : Drive) (store : Store) (freed : ℕ) (h : History) → outcome held no_trouble Tick (machine_of d store freed h) ≡ reply_with (next d) store freed h Done
unfolding outcome tick
ticked held d store freed h = refl

quitted : (held : List ℕ → Held) (d : Drive) (store : Store) (freed : ℕ) (h : History) → outcome held no_trouble (Monitor Quit) (machine_of d store freed h) ≡ reply_with (after d.broken d.room true d) store freed h Done
unfolding outcome command
quitted held d store freed h = refl

module _ (d : Drive) {holds holding : Knows} {space spacing : World → Store} (w : World) (rests : Rests d.facts holds holding) (same : spacing w ≡ space w)
    (has_space : HasSpace d.facts d.room holds space) (has_space_then : HasSpace d.facts d.room holding spacing) (bare : IsBare d.facts holds) where
  tick_served : (freed : ℕ) (h : History) (disks : List (List ℕ)) → IsHeld d (holds w) (space w) w freed h disks
      → Served none_held (rise_of w w) no_trouble d (after d.broken d.room d.ended d) holding space spacing (λ f. f) (λ g. g) w w Tick Done freed h disks
  tick_served freed h disks k = record {
    outcome_is = ticked none_held d (space w) freed h;
    torn = tt;
    sound_outcome = tick_outcome none_held no_trouble (machine_of d (space w) freed h) k.sound;
    space_is = unchanged d d.broken d.room d.ended (space w) (spacing w) freed h same;
    faults = quiet (w.named d.facts.file) (rise_of w w) (machine_of d (space w) freed h) Tick Done (never (is_none d.broken)) refl;
    leaves = still rests w w (stay nothing w) (λ none. none) (λ name none. none) k Tick disks refl;
  }

  tick_steps : IsTrue w.tells → NodeSteps no_targets (shown_of d) (Keeps d holds space w) (Keeps (next d) holding spacing w) w w Tick (record { reply = Done; notices = [] })
  tick_steps told = steps nothing none_held (rise_of w w) no_trouble d d.broken d.room d.ended holds holding space spacing (λ f. f) (λ g. g) w w Tick Done told (stay nothing w) (λ g none. absurd none) (is_rise w w) (λ name. refl) (λ h c is. is)
      has_space has_space_then bare tick_served

  quit_served : (freed : ℕ) (h : History) (disks : List (List ℕ)) → IsHeld d (holds w) (space w) w freed h disks
      → Served none_held (rise_of w w) no_trouble d (after d.broken d.room true d) holding space spacing (λ f. f) (λ g. g) w w (Monitor Quit) Done freed h disks
  quit_served freed h disks k = record {
    outcome_is = quitted none_held d (space w) freed h;
    torn = tt;
    sound_outcome = monitor_outcome none_held no_trouble Quit (machine_of d (space w) freed h) (λ name. tt) k.sound;
    space_is = unchanged d d.broken d.room true (space w) (spacing w) freed h same;
    faults = quiet (w.named d.facts.file) (rise_of w w) (machine_of d (space w) freed h) (Monitor Quit) Done (never (is_none d.broken)) refl;
    leaves = still rests w w (stay nothing w) (λ none. none) (λ name none. none) k (Monitor Quit) disks refl;
  }

  quit_steps : IsTrue w.tells → NodeSteps no_targets (shown_of d) (Keeps d holds space w) (Keeps (record (next d) { ended = true }) holding spacing w) w w (Monitor Quit) (record { reply = Done; notices = [] })
  quit_steps told = steps nothing none_held (rise_of w w) no_trouble d d.broken d.room true holds holding space spacing (λ f. f) (λ g. g) w w (Monitor Quit) Done told (stay nothing w) (λ g none. absurd none) (is_rise w w) (λ name. refl) (λ h c is. is)
      has_space has_space_then bare quit_served

  pub tick_answers : Answers (shown_of d) (shown_of (next d)) (Keeps d holds space w) (Keeps (next d) holding spacing w) w w Tick Done
  tick_answers = record {
    steps = tick_steps;
    causes = quiet_causes refl (λ whole. refl) (λ refused. refused) refl;
    source = record { file_stays = refl; id_stays = refl; size_stays = refl; epoch_stays = refl; directory_stays = refl };
    run = stay _ w;
  }

  pub quit_answers : Answers (shown_of d) (shown_of (record (next d) { ended = true })) (Keeps d holds space w) (Keeps (record (next d) { ended = true }) holding spacing w) w w (Monitor Quit) Done
  quit_answers = record {
    steps = quit_steps;
    causes = quiet_causes refl (λ whole. refl) (λ refused. refused) refl;
    source = record { file_stays = refl; id_stays = refl; size_stays = refl; epoch_stays = refl; directory_stays = refl };
    run = stay _ w;
  }
