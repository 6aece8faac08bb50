-- What is known where the start of a backup isn't refused.
use Rattle.std.proofs.Common.{rules}
use Rattle.std.proofs.Common.{arith}
use Rattle.std.proofs.lemmas.Grind.{common_steps}
use Rattle.std.proofs.Common.{◌≡◌, ℕ, ◌<◌, List, [], ◌∷◌, length, Bool, false, not, ◌&&◌, refl, sym}
use Rattle.std.specs.Prelude.{Option, Some, None, is_some, is_none, option_and_then}
use Rattle.std.specs.List.{list_any}
use Rattle.std.proofs.lemmas.Option.{none-some}
use Rattle.core_events.specs.declared.commands.BackupArgs.{BackupArgs}
use Rattle.bitmap_model.specs.Bitmap.{BitmapState}
use Rattle.bitmap_model.specs.Bitmaps.{named}
use Rattle.bitmap_model.proofs.Faults.{IsUsable}
use Rattle.script_model.specs.Recording.{is_drive}
use Rattle.image_model.specs.Space.{Store}
use Rattle.plain_model.specs.Jobs.{has_id}
use Rattle.plain_model.specs.Machine.{Machine, size_of, runners, has_target}
use Rattle.monitor_model.specs.Commands.{first_of}
use Rattle.plain_model.specs.Actions.{Held, Target, unusable, uses_bitmap, most_jobs, backup_tests, backup_refusal}

-- ---- tests that find nothing

-- none of the tests finds anything
abbrev pub AllNone : {A : Type 0} → List (Option A) → Type 0
AllNone [] = Unit {0}
AllNone (o ∷ rest) = (o ≡ None) × AllNone rest

pub first_none : {A : Type 0} (tests : List (Option A)) → first_of tests ≡ None → AllNone tests
first_none [] h = tt
first_none (None ∷ rest) h = (refl, first_none rest h)
first_none (Some a ∷ rest) h = absurd (none-some a (sym h))

pub usable_none : (name : List ℕ) (m : Machine) → unusable name m ≡ None → (b : BitmapState) × IsUsable (named name m.bitmaps) b
usable_none name m h = search rules

-- ---- the target

-- the depot holds a backup file of this disk's size
pub record IsTargetOf (size : ℕ) (held : Held) : Type 0 where
  pub blank : Bool
  pub store : Store
  pub is : held ≡ Target blank size store

-- ---- a backup

pub record IsStartable (held : List ℕ → Held) (a : BackupArgs) (m : Machine) : Type 0 where
  pub new_id : list_any (has_id a.job) (runners m) ≡ false
  pub few : length (runners m) < most_jobs
  pub named_one : (uses_bitmap a.sync && is_none a.bitmap) ≡ false
  pub named_none : (not (uses_bitmap a.sync) && is_some a.bitmap) ≡ false
  pub usable : option_and_then (λ name. unusable name m) a.bitmap ≡ None
  pub whole : m.broken ≡ None
  pub off_drive : is_drive a.target ≡ false
  pub new_target : list_any (has_target a.target) (runners m) ≡ false
  pub target : IsTargetOf (size_of m) (held a.target)

startable : (held : List ℕ → Held) (unread : List ℕ → Bool) (a : BackupArgs) (m : Machine) → AllNone (backup_tests held unread a m) → IsStartable held a m
startable held unread a m t = grind (arith, common_steps)

pub backup_none : (held : List ℕ → Held) (unread : List ℕ → Bool) (a : BackupArgs) (m : Machine) → backup_refusal held unread a m ≡ None → IsStartable held a m
unfolding backup_refusal
backup_none held unread a m h = startable held unread a m (first_none (backup_tests held unread a m) h)
