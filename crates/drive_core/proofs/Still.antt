-- An event that leaves the file as it is.
use Rattle.std.proofs.Common.{◌≡◌, inl, inr, ℕ, List, [], ◌∷◌, ◌++◌, length, Bool, IsTrue, Option, sym, subst, ◌∙◌, arith}
use Rattle.std.specs.Prelude.{All, Contains}
use Rattle.std.proofs.lemmas.Bool.{cases_Bool}
use Rattle.disk_model.specs.World.{World, Parts, Runs, IsSpared}
use Rattle.disk_model.proofs.Laws.{since_more, since_spared, spare_leads}
use Rattle.disk_model.proofs.Moments.{spares}
use Rattle.core_events.specs.Events.{Event, Guest, Monitor, Tick}
use Rattle.image_model.specs.Space.{Store}
use Rattle.plain_model.specs.History.{History, now}
use Rattle.plain_model.specs.Requests.{is_write}
use Rattle.plain_model.specs.Step.{IsChanged, no_change}
use Rattle.plain_model.proofs.Histories.{length-now}
use Rattle.core_node.specs.Step.{HasHead, kept_during}
use Rattle.core_node.specs.Rest.{IsSafe}
use Rattle.core_node.proofs.Rests.{kept_in_event}
use Rattle.core_layers.specs.Layers.{Facts, IsMixed}
use Rattle.core_layers.proofs.Exports.{mixed_is_safe}
use Rattle.drive_core.specs.Drive.{Drive, machine_of, IsHeld}
use Rattle.drive_core.proofs.Laws.{Knows, InOrder, HasSizes, named_on}
use Rattle.drive_core.proofs.Fates.{changed}
use Rattle.drive_core.proofs.Puts.{held_by}
use Rattle.drive_core.proofs.Going.{Leaves, after}

-- the laws of an image that are met here
pub record Rests (facts : Facts) (holds holding : Knows) : Type 0 where
  pub in_order : InOrder facts holding
  pub sizes : HasSizes facts holding
  pub among : (w : World) (disk : List ℕ) (mixed : List (List ℕ)) → holding w disk mixed → Contains mixed disk
  pub mixes_more : (w : World) (disk : List ℕ) (mixed : List (List ℕ)) (other : List ℕ) → length other ≡ facts.size → holding w disk mixed → holding w disk (mixed ++ other ∷ [])
  pub spared : (old new : World) (disk : List ℕ) (mixed : List (List ℕ)) → IsSpared old new facts.file → holding old disk mixed → holding new disk mixed
  -- the event was set
  pub goes_on : (w : World) (disk : List ℕ) (mixed : List (List ℕ)) → holds w disk mixed → holding w disk mixed

pub unchanged : (d : Drive) (broken : Option ℕ) (room : ℕ) (ended : Bool) (a b : Store) (freed : ℕ) (h : History) → b ≡ a → IsChanged (machine_of d a freed h) (no_change (machine_of d a freed h)) (machine_of (after broken room ended d) b freed h)
unchanged d broken room ended a b freed h same = changed (machine_of d a freed h) (no_change (machine_of d a freed h)) (machine_of (after broken room ended d) b freed h) same (omega arith)

module _ {parts : Parts} {d : Drive} {holds holding : Knows} (rests : Rests d.facts holds holding) (old new : World) (run : Runs parts old new) (spare : parts.files d.facts.file → ⊥) (unnamed : (name : List ℕ) → parts.names name → ⊥) where
  module _ {store : Store} {freed : ℕ} {h : History} {disks : List (List ℕ)} (k : IsHeld d (holds old) store old freed h disks) (event : Event) where
    first : holding old (now h) disks
    first = rests.goes_on old (now h) disks k.holds_it

    here : holding new (now h) disks
    here = rests.spared old new (now h) disks (spares d.facts.file run spare) first

    during : (event : Event) → holding new (now h) (kept_during disks event (now h))
    during (Guest r) = elim (cases_Bool (is_write r.work)) [
      | inl e ↦ rw e (rests.mixes_more new (now h) disks (now h) (rests.sizes new (now h) disks here).0 here)
      | inr e ↦ rw e here
    ]
    during (Monitor c) = here
    during Tick = here

    safe_in : (c : List ℕ) → IsMixed d.facts.id d.facts.directory disks c → IsSafe (d.facts.directory ∷ []) d.facts.id h (kept_during disks event (now h)) c
    safe_in c m =
        let s = mixed_is_safe k.sound.history_is k.epochs k.mixes.among m in
        record { disk = s.disk; like = s.like; kept = kept_in_event disks event (now h) s.disk (s.like.long ∙ sym (length-now h k.sound.history_is.inside)) s.kept; ready = s.ready; trusted = s.trusted }

    pub still : {broken : Option ℕ} {room : ℕ} {ended : Bool} {spacing : World → Store} (mixed : List (List ℕ)) → mixed ≡ kept_during disks event (now h)
        → Leaves d (after broken room ended d) holding spacing freed store.cluster h h (kept_during disks event (now h)) mixed old new
    still {broken} {room} {ended} {spacing} mixed is =
        let told = subst IsTrue (sym run.goes.tells) k.told in
        let in_order = ((rests.in_order new (now h) disks here).seen told).0 in
        record {
          holds = λ sound. held_by {e = after broken room ended d} in_order.sectors told (named_on d.facts.file run (unnamed (old.named d.facts.file)) k.named)
              (subst (holding new (now h)) (sym is) (during event))
              (subst (λ (x : List (List ℕ)). (length (now h) ≡ d.facts.size) × All (λ (other : List ℕ). length other ≡ d.facts.size) x) (sym is) (rests.sizes new (now h) _ (during event)))
              in_order.whole
              (subst (λ (x : List (List ℕ)). Contains x (now h)) (sym is) (rests.among new (now h) _ (during event)))
              k.epochs sound;
          crashes = since_more new old.now d.facts.file (IsMixed d.facts.id d.facts.directory disks) _ safe_in
              (since_spared d.facts.file (IsMixed d.facts.id d.facts.directory disks) run spare (rests.in_order old (now h) disks first).each);
          head = λ start short. spare_leads d.facts.file (HasHead start) (HasHead start) run spare;
        }
