-- The laws of what it knows.
use Rattle.std.proofs.Common.{◌≡◌, ℕ, List, [], Some, refl, sym, ap, ◌∙◌, subst, arith}
use Rattle.std.proofs.lemmas.List.Elements.{All-nil}
use Rattle.disk_model.specs.World.{World, Holds}
use Rattle.plain_model.specs.History.{History, now}
use Rattle.plain_model.specs.Jobs.{Job}
use Rattle.core_node.specs.Standing.{TargetFile, StandsFor, TargetStands, HasEntry, Spares}
use Rattle.core_node.specs.Rest.{State, Mixes, IsReady, IsSafe, in_session}
use Rattle.core_layers.proofs.Exports.{mixed_is_safe, reads_ready}
use Rattle.toy_core.specs.declared.toy.Toy.{Toy}
use Rattle.toy_core.specs.Toy.{shown, machine_of, state_of, IsHeld, Keeps, IsNamed}
use Rattle.toy_core.proofs.Outcomes.{image_in_order}
use Rattle.toy_core.proofs.Holding.{directory, sized, held_now, still_holds}

at_state : {t : Toy} {w : World} (P : State → Type 0) → ((h : History) (disks : List (List ℕ)) → IsHeld t w h disks → P (state_of t h disks)) → (s : State) → Keeps t w s → P s
at_state P p s k = subst P (sym k.is) (p k.history k.disks k.holds)

pub stands : (t : Toy) (w : World) (s : State) → Keeps t w s → StandsFor (shown t) w s.machine
stands t w = at_state (λ s. StandsFor (shown t) w s.machine) (λ h disks k. record {
  sound = k.sound;
  numbers = record { size_is = sym (sized t h t.source.image.size k.image.size_is k.sound); epoch_is = refl; serial_is = refl; event_is = refl; broken_is = refl; ended_is = refl };
  bitmaps = record { bitmaps_are = refl; exports_are = refl };
  jobs = record { jobs_are = refl; views_are = refl; targets_are = refl; gone_are = refl; created_is = refl };
  space = record { room_is = refl };
  entries = All-nil (HasEntry []);
  found = λ told. (k.named.found, All-nil (λ (x : TargetFile). w.found x.name ≡ Some x.file));
  source = λ told. k.image.source;
  targets = λ told. All-nil (λ (j : Job). TargetStands w (machine_of t h) j (w.found j.target));
})

pub safe : (t : Toy) (w : World) (s : State) → Keeps t w s → Holds (shown t).file (IsReady (in_session s) (shown t).id s.machine.history) (IsSafe (in_session s) (shown t).id s.machine.history s.disks) w
safe t w = at_state (λ s. Holds t.source.file.0 (IsReady (in_session s) t.source.image.id s.machine.history) (IsSafe (in_session s) t.source.image.id s.machine.history s.disks) w) (λ h disks k. record {
  seen = λ told. reads_ready {d = directory t} k.sound.history_is k.epochs (image_in_order t.source.image (now h) (w.seen t.source.file.0) k.suits k.image, λ e here trusted. omega (arith, here.1));
  each = λ c left. mixed_is_safe {d = directory t} k.sound.history_is k.epochs k.mixes.among (held_now k c left);
})

pub mixes : (t : Toy) (w : World) (s : State) → Keeps t w s → Mixes s.machine.history s.disks
mixes t w = at_state (λ s. Mixes s.machine.history s.disks) (λ h disks k. k.mixes)

named_after : (t : Toy) (old new : World) → Spares (shown t) old new → {h : History} {disks : List (List ℕ)} → IsHeld t old h disks → IsNamed t.source.file.0 new
named_after t old new spares k = record {
  below = (let low = k.named.below in let more = spares.source.given in omega arith);
  found = ap (λ (name : List ℕ). new.found name) spares.source_named ∙ spares.source_found ∙ k.named.found;
}

pub spared : (t : Toy) (old new : World) (s : State) → Spares (shown t) old new → Keeps t old s → Keeps t new s
spared t old new s spares k = record {
  history = k.history;
  disks = k.disks;
  is = k.is;
  holds = still_holds t old new k.history k.disks t.event t.broken k.holds k.holds.sound spares.source.tells (named_after t old new spares k.holds) spares.source.seen spares.source.versions;
}
