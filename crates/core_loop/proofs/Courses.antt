-- Courses that go on, and what crashes leave over them.
use Rattle.std.proofs.Common.{◌≡◌, inl, inr, ℕ, ◌<◌, ◌≤◌, List, [], ◌∷◌, ◌++◌, length, true, false, Option, refl, sym, ap, ◌∙◌, append_assoc, arith}
use Rattle.std.proofs.lemmas.Bool.{cases_Bool}
use Rattle.std.proofs.lemmas.List.{append-nil}
use Rattle.disk_model.specs.World.{World, Parts, Runs}
use Rattle.disk_model.proofs.Moments.{run_on, run_more, stay}
use Rattle.core_events.specs.Events.{Event, Guest, Monitor, Tick}
use Rattle.plain_model.specs.History.{now}
use Rattle.plain_model.specs.Requests.{is_write}
use Rattle.plain_model.specs.Lawful.{Kept}
use Rattle.core_node.specs.Rest.{Files, State, LeftIn}
use Rattle.core_node.specs.Files.{Reading}
use Rattle.core_node.proofs.Rests.{kept_more}
use Rattle.core_loop.specs.Course.{IsWithin, Cut, Move, IsMove, AreMoves, Heard, Answered, exports_at, heard_in, heard_badly, last_cut, LeftAt, texts}
use Rattle.core_node.specs.Step.{kept_during, during}

-- ---- parts

-- all calls but those that make a file
abbrev pub any_call : Parts
any_call = record { files = λ f. Unit {0}; reads = λ f. Unit {0}; names = λ name. ⊥; text = Unit {0}; wire = Unit {0} }

-- ---- another disk that a crash may mix

pub kept_in_event : (disks : List (List ℕ)) (event : Event) (other disk : List ℕ) → length disk ≡ length other → Kept disks disk → Kept (kept_during disks event other) disk
kept_in_event disks (Guest r) other disk long kept = elim (cases_Bool (is_write r.work)) [
  | inl e ↦ rw e (kept_more disks other disk long kept)
  | inr e ↦ rw e kept
]
kept_in_event disks (Monitor c) other disk long kept = kept
kept_in_event disks Tick other disk long kept = kept

module _ {files : Files} where
  pub lawful_in_event : (s : State) (event : Event) (other : List ℕ) {left : ℕ → Option (List ℕ)} → length other ≡ length s.machine.history.start
      → LeftIn files s left → LeftIn files (during s event other) left
  lawful_in_event s event other long lawful = record {
    source = λ c is.
        let safe = lawful.source c is in
        record { disk = safe.disk; like = safe.like; kept = kept_in_event s.disks event other safe.disk (safe.like.long ∙ sym long) safe.kept; ready = safe.ready; trusted = safe.trusted };
    backups = lawful.backups;
  }

-- ---- one move more

pub last_more : (from : Cut) (moves : List Move) (move : Move) → last_cut from (moves ++ move ∷ []) ≡ move.cut
last_more from [] move = refl
last_more from (m ∷ moves) move = last_more m.cut moves move

-- what is heard in it: the exports before it, and its answer
pub heard_on : (from : Cut) (moves : List Move) (move : Move)
    → heard_in from (moves ++ move ∷ []) ≡ (heard_in from moves ++ exports_at (last_cut from moves) ∷ []) ++ Answered move.answer true ∷ []
heard_on from [] move = refl
heard_on from (m ∷ moves) move = ap (λ (heard : List Heard). exports_at from ∷ (Answered m.answer true ∷ heard)) (heard_on m.cut moves move)

-- and where that wasn't told
pub badly_on : (from : Cut) (moves : List Move) (move : Move)
    → heard_badly from (moves ++ move ∷ []) ≡ (heard_in from moves ++ exports_at (last_cut from moves) ∷ []) ++ Answered move.answer false ∷ []
badly_on from [] move = refl
badly_on from (m ∷ []) move = refl
badly_on from (m ∷ (n ∷ moves)) move = ap (λ (heard : List Heard). exports_at from ∷ (Answered m.answer true ∷ heard)) (badly_on m.cut (n ∷ moves) move)

-- calls that make no file are among all of these
pub any_run : {parts : Parts} {a b : World} → ((name : List ℕ) → parts.names name → ⊥) → Runs parts a b → Runs any_call a b
any_run none run = run_more (record { files = λ g is. tt; reads = λ g is. tt; names = λ name is. absurd (none name is); text = λ is. tt; wire = λ is. tt }) run

module _ (reading : Reading) (own : ℕ → Type 0) (name : List ℕ) where
  pub moves_more : (from : Cut) (moves : List Move) (move : Move) → AreMoves reading own name from moves → IsMove reading own name (last_cut from moves) move
      → AreMoves reading own name from (moves ++ move ∷ [])
  moves_more from [] move steps step = (step, tt)
  moves_more from (m ∷ moves) move steps step = (steps.0, moves_more m.cut moves move steps.1 step)

  -- over all of them nothing is touched but files, the text and the wire
  pub moves_run : (from : Cut) (moves : List Move) → AreMoves reading own name from moves → Runs any_call from.world (last_cut from moves).world
  moves_run from [] steps = stay any_call from.world
  moves_run from (m ∷ moves) steps = run_on (any_run (λ name none. none) steps.0.between)
      (run_on (any_run (λ name none. none) steps.0.work) (moves_run m.cut moves steps.1))

  pub later_cut : (from : Cut) (move : Move) → IsMove reading own name from move → from.world.now ≤ move.cut.world.now
  later_cut from move step = let a = step.between.goes.later in let b = step.work.goes.later in omega arith

  -- moments rise
  pub rising : (from : Cut) (moves : List Move) → AreMoves reading own name from moves → from.world.now ≤ (last_cut from moves).world.now
  rising from [] steps = omega arith
  rising from (m ∷ moves) steps = omega (arith, later_cut from m steps.0, rising m.cut moves steps.1)

  -- what is to be printed are the texts of the answers
  pub told_are : (from : Cut) (moves : List Move) → AreMoves reading own name from moves → (last_cut from moves).told ≡ from.told ++ texts moves
  told_are from [] steps = sym (append-nil from.told)
  told_are from (m ∷ moves) steps =
      told_are m.cut moves steps.1 ∙ ap (λ (t : List ℕ). t ++ texts moves) steps.0.told_is
      ∙ append_assoc from.told (m.given.said ++ m.given.tell m.cut.number m.answer) (texts moves)

  module _ {files : Files} where
    -- a crash after all of the moves
    pub after_all : (k : ℕ) {left : ℕ → Option (List ℕ)} (from : Cut) (moves : List Move) → AreMoves reading own name from moves
        → (last_cut from moves).world.now ≤ k
        → LeftIn files (last_cut from moves).state left → LeftAt files k left from moves
    after_all k from [] steps past lawful = lawful
    after_all k from (m ∷ moves) steps past lawful = inr (omega (arith, rising m.cut moves steps.1), after_all k m.cut moves steps.1 past lawful)

    -- a crash within the next event
    pub within_next : (k : ℕ) {left : ℕ → Option (List ℕ)} (from : Cut) (moves : List Move) (move : Move) → AreMoves reading own name from moves
        → (last_cut from moves).world.now ≤ k → k < move.cut.world.now
        → (s : State) × IsWithin (last_cut from moves) move s × LeftIn files s left
        → LeftAt files k left from (moves ++ move ∷ [])
    within_next k from [] move steps past before lawful = inl (before, lawful)
    within_next k from (m ∷ moves) move steps past before lawful = inr (omega (arith, rising m.cut moves steps.1), within_next k m.cut moves move steps.1 past before lawful)

    -- an earlier crash
    pub before_next : (k : ℕ) {left : ℕ → Option (List ℕ)} (from : Cut) (moves : List Move) (move : Move) → k < move.cut.world.now
        → (LeftIn files (last_cut from moves).state left
        → LeftIn files (during (last_cut from moves).state move.given.event (now move.cut.state.machine.history)) left)
        → LeftAt files k left from moves → LeftAt files k left from (moves ++ move ∷ [])
    before_next k from [] move before more lawful = inl
        (before, (during from.state move.given.event (now move.cut.state.machine.history), inl refl, more lawful))
    before_next k from (m ∷ moves) move before more (inl here) = inl here
    before_next k from (m ∷ moves) move before more (inr there) = inr (there.0, before_next k m.cut moves move before more there.1)

-- ---- texts

pub texts_more : (moves : List Move) (move : Move)
    → texts (moves ++ move ∷ []) ≡ texts moves ++ (move.given.said ++ move.given.tell move.cut.number move.answer)
texts_more [] move = append-nil (move.given.said ++ move.given.tell move.cut.number move.answer)
texts_more (m ∷ moves) move =
    let head : List ℕ = m.given.said ++ m.given.tell m.cut.number m.answer in
    ap (λ (t : List ℕ). head ++ t) (texts_more moves move)
    ∙ sym (append_assoc head (texts moves) (move.given.said ++ move.given.tell move.cut.number move.answer))
