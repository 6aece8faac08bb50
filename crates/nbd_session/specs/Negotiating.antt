-- What an option that is here came to.
use Rattle.std.specs.Prelude.{◌≡◌, ◌⊎◌, ℕ, List, ◌++◌, Some, if◌then◌else◌}
use Rattle.core_events.specs.declared.infos.ExportInfo.{ExportInfo}
use Rattle.nbd_model.specs.Sessions.{Session, Taken, Answered, is_set, without_selection, selected, listed}
use Rattle.nbd_session.specs.Connections.{IsHungUp}
use Rattle.nbd_session.specs.declared.negotiating.Dealt.{Dealt}
use Rattle.nbd_session.specs.declared.negotiating.Dealt.TheVariants as dealt

-- it is answered, and this is agreed on then
pub record IsAnswered (taken : Taken) (used : ℕ) (next : Session) (old new : List ℕ) : Type 0 where
  pub sent : List ℕ
  pub is : taken ≡ Answered used sent next
  pub added : new ≡ old ++ sent

abbrev pub IsDealt : Taken → ℕ → Session → List ℕ → List ℕ → Dealt → Type 0
IsDealt taken used next old new dealt.Answered = IsAnswered taken used next old new
IsDealt taken used next old new dealt.HangUp = IsHungUp taken old new

-- an option that has no content
abbrev pub IsPlain : ℕ → Type 0
IsPlain option = (option ≡ 3) ⊎ (option ≡ 8)

-- an option that sets contexts drops the earlier selection, also where it is refused
abbrev pub dropped : ℕ → Session → Session
dropped option s = if is_set option then without_selection s else s

-- contexts of this export are listed or selected
abbrev pub told : ℕ → ℕ → List (List ℕ) → ExportInfo → Session → Taken
told used option queries e s = if is_set option then selected used option queries (Some e) (dropped option s) else listed used option queries (Some e) (dropped option s)
