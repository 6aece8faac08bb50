-- The same words and files are due one end at most.
use Rattle.std.proofs.Common.{◌≡◌, ◌⊎◌, inl, inr, ⊎_elim, ℕ, List, IsSome, Option, None, refl, sym, ap, subst, ◌∙◌, arith}
use Rattle.disk_model.specs.World.{World}
use Rattle.qback_top.specs.declared.words.Task.{Task}
use Rattle.qback_top.specs.declared.words.Task.TheVariants.{CreateSource, CreateTarget, Info, Replay}
use Rattle.qback_top.specs.Words.{IsTask, HaveNoForm, IsReplay, IsInfo}
use Rattle.qback_top.specs.Endings.{Ending, NoForm, Missing, Exists, Refused, BadLine, Made, Told, Ran, status_of}
use Rattle.qback_top.specs.Replays.{ReplayDue, IsTooLong, IsUnbuilt}
use Rattle.qback_top.specs.Creations.{Makes, MakeDue}
use Rattle.qback_top.specs.Infos.{InfoDue}
use Rattle.qback_top.specs.Ends.{CommandDue, IsDue}
use Rattle.qback_top.specs.Laws.{IsDone}
use Rattle.qback_top.proofs.OneTask.{one_task}
use Rattle.qback_top.proofs.OneReplay.{one_replay_due}
use Rattle.qback_top.proofs.OneInfo.{one_info_due}

-- ---- creations

-- a task makes one file
one_name : (task : Task) (a b : List ℕ) → Makes task a → Makes task b → a ≡ b
one_name (CreateSource file size bits id) a b h k = h ∙ sym k
one_name (CreateTarget file size bits under) a b h k = h ∙ sym k
one_name (Info file) a b h k = absurd h
one_name (Replay file script) a b h k = absurd h

some_or_none : (a b : List ℕ) (found : List ℕ → Option ℕ) → a ≡ b → IsSome (found a) → found b ≡ None → ⊥
some_or_none a b found e s f = let g : found a ≡ None = cc in absurd (let t = subst IsSome g s in cc)

-- two readings of the same words make the same file
same_made : (words : List (List ℕ)) (t s : Task) (a b : List ℕ) → IsTask words t → IsTask words s → Makes t a → Makes s b → a ≡ b
same_made words t s a b h k makes other = one_name s a b (subst (λ (task : Task). Makes task a) (one_task words t s h k) makes) other

one_make_due : (words : List (List ℕ)) (w : World) (a b : Ending) → MakeDue words w a → MakeDue words w b → a ≡ b
one_make_due words w (Exists n) (Exists m) h k = ap Exists (same_made words h.0 k.0 n m h.1 k.1 h.2 k.2)
one_make_due words w (Exists n) (Made t) h k = absurd (some_or_none n k.1.0 w.found (same_made words h.0 t n k.1.0 h.1 k.0 h.2 k.1.1) h.3 k.1.2)
one_make_due words w (Made t) (Exists m) h k = absurd (some_or_none m h.1.0 w.found (same_made words k.0 t m h.1.0 k.1 h.0 k.2 h.1.1) k.3 h.1.2)
one_make_due words w (Made t) (Made s) h k = ap Made (one_task words t s h.0 k.0)
one_make_due words w NoForm b h k = absurd h
one_make_due words w (Missing n) b h k = absurd h
one_make_due words w (Refused n r) b h k = absurd h
one_make_due words w (BadLine n) b h k = absurd h
one_make_due words w (Told t) b h k = absurd h
one_make_due words w (Ran n os) b h k = absurd h
one_make_due words w a NoForm h k = absurd k
one_make_due words w a (Missing n) h k = absurd k
one_make_due words w a (Refused n r) h k = absurd k
one_make_due words w a (BadLine n) h k = absurd k
one_make_due words w a (Told t) h k = absurd k
one_make_due words w a (Ran n os) h k = absurd k

-- ---- what a command's words say

replay_says : (words : List (List ℕ)) (w : World) (e : Ending) → ReplayDue words w e → (file : List ℕ) × (script : List ℕ) × IsReplay words file script
replay_says words w (Missing name) h = (h.0, h.1, h.2)
replay_says words w (Refused name reason) h = ⊎_elim (λ (l : IsTooLong words w name × _). (l.0.0, name, l.0.3.form)) (λ (u : IsUnbuilt words w name × _). (name, u.0.0, u.0.3.form)) h
replay_says words w (BadLine n) h = (h.0, h.1, h.4.form)
replay_says words w (Ran n os) h = (h.0, h.1, h.3.form)
replay_says words w NoForm h = absurd h
replay_says words w (Exists name) h = absurd h
replay_says words w (Made task) h = absurd h
replay_says words w (Told text) h = absurd h

make_says : (words : List (List ℕ)) (w : World) (e : Ending) → MakeDue words w e → (task : Task) × (name : List ℕ) × IsTask words task × Makes task name
make_says words w (Exists name) h = (h.0, name, h.1, h.2)
make_says words w (Made task) h = (task, h.1.0, h.0, h.1.1)
make_says words w NoForm h = absurd h
make_says words w (Missing n) h = absurd h
make_says words w (Refused n r) h = absurd h
make_says words w (BadLine n) h = absurd h
make_says words w (Told t) h = absurd h
make_says words w (Ran n os) h = absurd h

info_says : (words : List (List ℕ)) (w : World) (e : Ending) → InfoDue words w e → (file : List ℕ) × IsInfo words file
info_says words w (Missing name) h = (name, h.0)
info_says words w (Refused name reason) h = (name, h.1)
info_says words w (Told text) h = (h.0, h.2)
info_says words w NoForm h = absurd h
info_says words w (Exists name) h = absurd h
info_says words w (BadLine n) h = absurd h
info_says words w (Made task) h = absurd h
info_says words w (Ran n os) h = absurd h

-- ---- no two commands

replay_or_make : (words : List (List ℕ)) (w : World) (a b : Ending) → ReplayDue words w a → MakeDue words w b → ⊥
replay_or_make words w a b h k =
    let r = replay_says words w a h in
    let m = make_says words w b k in
    subst (λ (task : Task). Makes task m.1) (one_task words m.0 (Replay r.0 r.1) m.2 r.2) m.3

info_or_make : (words : List (List ℕ)) (w : World) (a b : Ending) → InfoDue words w a → MakeDue words w b → ⊥
info_or_make words w a b h k =
    let i = info_says words w a h in
    let m = make_says words w b k in
    subst (λ (task : Task). Makes task m.1) (one_task words m.0 (Info i.0) m.2 i.1) m.3

replay_or_info : (words : List (List ℕ)) (w : World) (a b : Ending) → ReplayDue words w a → InfoDue words w b → ⊥
replay_or_info words w a b h k =
    let r = replay_says words w a h in
    let i = info_says words w b k in
    let e : Replay r.0 r.1 ≡ Info i.0 = one_task words (Replay r.0 r.1) (Info i.0) r.2 i.1 in
    absurd cc

-- ---- the laws

command_says : (words : List (List ℕ)) (w : World) (e : Ending) → CommandDue words w e → (task : Task) × IsTask words task
command_says words w e due = ⊎_elim
    (λ (r : ReplayDue words w e). let s = replay_says words w e r in (Replay s.0 s.1, s.2))
    (⊎_elim (λ (m : MakeDue words w e). let s = make_says words w e m in (s.0, s.2)) (λ (i : InfoDue words w e). let s = info_says words w e i in (Info s.0, s.1)))
    due

one_command_due : (words : List (List ℕ)) (w : World) (a b : Ending) → CommandDue words w a → CommandDue words w b → a ≡ b
one_command_due words w a b h k = ⊎_elim
    (λ (r : ReplayDue words w a). ⊎_elim (λ (s : ReplayDue words w b). one_replay_due words w a b r s)
    (⊎_elim (λ (m : MakeDue words w b). absurd (replay_or_make words w a b r m)) (λ (i : InfoDue words w b). absurd (replay_or_info words w a b r i))) k)
    (⊎_elim
    (λ (m : MakeDue words w a). ⊎_elim (λ (s : ReplayDue words w b). absurd (replay_or_make words w b a s m))
    (⊎_elim (λ (n : MakeDue words w b). one_make_due words w a b m n) (λ (i : InfoDue words w b). absurd (info_or_make words w b a i m))) k)
    (λ (i : InfoDue words w a). ⊎_elim (λ (s : ReplayDue words w b). absurd (replay_or_info words w b a s i))
    (⊎_elim (λ (n : MakeDue words w b). absurd (info_or_make words w a b i n)) (λ (j : InfoDue words w b). one_info_due words w a b i j)) k))
    h

-- without a form nothing else is due
due_as : (words : List (List ℕ)) (w : World) (e : Ending) → IsDue words w e → ((e ≡ NoForm) × HaveNoForm words) ⊎ CommandDue words w e
due_as words w NoForm due = inl (refl, due)
due_as words w (Missing name) due = inr due
due_as words w (Exists name) due = inr due
due_as words w (Refused name reason) due = inr due
due_as words w (BadLine n) due = inr due
due_as words w (Made task) due = inr due
due_as words w (Told text) due = inr due
due_as words w (Ran n os) due = inr due

pub one_due : (words : List (List ℕ)) (w : World) (a b : Ending) → IsDue words w a → IsDue words w b → a ≡ b
one_due words w a b h k = ⊎_elim
    (λ (none : (a ≡ NoForm) × HaveNoForm words). ⊎_elim
    (λ (other : (b ≡ NoForm) × HaveNoForm words). none.0 ∙ sym other.0)
    (λ (due : CommandDue words w b). let s = command_says words w b due in absurd (none.1 s.0 s.1))
    (due_as words w b k))
    (λ (due : CommandDue words w a). ⊎_elim
    (λ (other : (b ≡ NoForm) × HaveNoForm words). let s = command_says words w a due in absurd (other.1 s.0 s.1))
    (λ (again : CommandDue words w b). one_command_due words w a b due again)
    (due_as words w b k))
    (due_as words w a h)

pub status_tells : (ending : Ending) → (status_of ending ≡ 0 → IsDone ending) × (status_of ending ≡ 1 → ending ≡ NoForm) × (status_of ending ≡ 5 → (n : ℕ) × (ending ≡ BadLine n)) × (status_of ending ≡ 8 → (name : List ℕ) × (ending ≡ Exists name))
status_tells NoForm = (λ e. absurd (omega arith), λ e. refl, λ e. absurd (omega arith), λ e. absurd (omega arith))
status_tells (Missing name) = (λ e. absurd (omega arith), λ e. absurd (omega arith), λ e. absurd (omega arith), λ e. absurd (omega arith))
status_tells (Exists name) = (λ e. absurd (omega arith), λ e. absurd (omega arith), λ e. absurd (omega arith), λ e. (name, refl))
status_tells (Refused name reason) = (λ e. absurd (omega arith), λ e. absurd (omega arith), λ e. absurd (omega arith), λ e. absurd (omega arith))
status_tells (BadLine n) = (λ e. absurd (omega arith), λ e. absurd (omega arith), λ e. (n, refl), λ e. absurd (omega arith))
status_tells (Made task) = (λ e. inr (inl (task, refl)), λ e. absurd (omega arith), λ e. absurd (omega arith), λ e. absurd (omega arith))
status_tells (Told text) = (λ e. inr (inr (text, refl)), λ e. absurd (omega arith), λ e. absurd (omega arith), λ e. absurd (omega arith))
status_tells (Ran number lines) = (λ e. inl (number, lines, refl), λ e. absurd (omega arith), λ e. absurd (omega arith), λ e. absurd (omega arith))
