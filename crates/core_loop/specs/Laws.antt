-- The laws, as statements.
use Rattle.std.specs.Prelude.{◌≡◌, ◌⊎◌, ℕ, ◌+◌, ◌-◌, ◌*◌, ◌^◌, ◌<◌, ◌≤◌, List, [], ◌∷◌, ◌++◌, length, take, Bool, Some, None, IsTrue, Option}
use Rattle.disk_model.specs.World.{World, versions, EachNow, EachSince, Holds, IsSound, IsLeftAt}
use Rattle.core_events.specs.Events.{Event}
use Rattle.core_events.specs.Answers.{Fault}
use Rattle.core_events.specs.declared.answers.Errno.TheVariants.{Io}
use Rattle.plain_model.specs.History.{History, IsHistory, now}
use Rattle.core_node.specs.Files.{IsHeldAs}
use Rattle.core_node.specs.Rest.{Directory, Files, Allows, or_marked, IsReady, IsSafe, Mixes, AreLawful}
use Rattle.core_node.specs.Step.{NoNewBlanks}
use Rattle.core_node.specs.Ends.{OpensWithin}
use Rattle.core_loop.specs.Course.{Cut, Move, IsMove}
use Rattle.core_loop.specs.Sessions.{Covers}
use Rattle.core_loop.specs.Crashes.{ChainsGiveDisks}

-- files at rest, as reads give them, make chains that give the disk at the last point
abbrev pub ChainsAtRestGiveDisks : Type 0
ChainsAtRestGiveDisks = (allows : List Directory) (files : Files) (h : History) (disks : List (List ℕ)) (w : World) → AreLawful allows files h disks w → IsTrue w.tells
    → ChainsGiveDisks files h (λ f. Some (w.seen f))

-- an opening that syncs first, and from then on leaves an image that is ready for the history itself, leads from rest to rest
abbrev pub OpeningLeads : Type 0
OpeningLeads = (allows : List Directory) (d : Directory) (id : List ℕ) (h : History) (disks : List (List ℕ)) (f : ℕ) (old new : World) → old.now ≤ new.now → IsHistory h → Mixes h disks
    → Allows allows d → EachNow old f (IsSafe allows id h disks) → OpensWithin f d id h old new
    → EachSince new old.now f (IsSafe (or_marked allows) id h disks) × Holds f (IsReady (or_marked allows) id h) (IsSafe (or_marked allows) id h disks) new

-- a file that is made as a source is at rest for its own history
abbrev pub SourcesBegin : Type 0
SourcesBegin = (allows : List Directory) (id : List ℕ) (h : History) (f : ℕ) (new : World) → IsHistory h → (n : ℕ) × (length (now h) ≡ n * 512) → Holds f (IsReady allows id h) (IsReady allows id h) new
    → AreLawful allows (record { source = f; id = id; backups = [] }) h (now h ∷ []) new

-- the backup files that events may begin anew stay among those that are spoken of, from one session to the next
abbrev pub CoversGoOn : Type 0
CoversGoOn = (files : Files) (events : List Event) (old new : World) → Covers files events old → NoNewBlanks old new → ((name : List ℕ) → new.found name ≡ old.found name) → Covers files events new

-- ---- laws that refuse

-- a read of an unbroken drive is answered with EIO only where the shared count of faults rose between its start and its end, or stands at its last
abbrev pub EioNeedsFaults : Type 0
EioNeedsFaults = (own : ℕ → Bool) (source : List ℕ) (from : Cut) (move : Move) → IsMove IsHeldAs (λ f. IsTrue (own f)) source from move → from.state.machine.broken ≡ None → move.answer.reply ≡ Fault Io
    → (move.start.faults.shared < move.cut.world.faults.shared) ⊎ (2 ^ 64 - 1 ≤ move.cut.world.faults.shared)

-- an event that is told before it is carried out is no move: at its start and its end just the answers before it are printed, and what was said since
abbrev pub AnswersComeAfter : Type 0
AnswersComeAfter = (own : ℕ → Bool) (source : List ℕ) (from : Cut) (move : Move) → IsMove IsHeldAs (λ f. IsTrue (own f)) source from move → IsTrue from.world.prints → 0 < length (move.given.tell move.cut.number move.answer)
    → ((n : ℕ) → move.start.printed ≡ (from.told ++ move.given.said) ++ take (n + 1) (move.given.tell move.cut.number move.answer) → ⊥) × (move.cut.world.printed ≡ from.told ++ move.given.said)

-- ---- a program that is killed

-- what reads give now of a file that is there
abbrev pub IsSeen : World → ℕ → Option (List ℕ) → Type 0
IsSeen w f None = versions w f ≡ []
IsSeen w f (Some c) = (0 < length (versions w f)) × (c ≡ w.seen f)

-- a program that is killed without a power failure leaves what reads give, and a crash at that moment may leave it too
abbrev pub KilledIsACrash : Type 0
KilledIsACrash = (w : World) (left : ℕ → Option (List ℕ)) → IsSound w → ((f : ℕ) → IsSeen w f (left f)) → IsLeftAt w w.now left
