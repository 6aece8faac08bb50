-- What a session keeps, as the definitions of connections have it.
use Rattle.std.specs.Prelude.{◌≡◌, ℕ, List, ◌++◌}
use Rattle.nbd_model.specs.Sessions as sessions
use Rattle.nbd_model.specs.Requests.{Head}
use Rattle.nbd_codec.specs.declared.heads.RequestHead.{RequestHead}
use Rattle.nbd_session.specs.declared.agreed.Phase.{Phase}
use Rattle.nbd_session.specs.declared.agreed.Phase.TheVariants.{Greeted, Haggling, Transmitting}
use Rattle.nbd_session.specs.declared.agreed.Agreed.{Agreed}

abbrev pub plain_phase : Phase → List ℕ → sessions.Phase
plain_phase Greeted export = sessions.Greeted
plain_phase Haggling export = sessions.Haggling
plain_phase Transmitting export = sessions.Transmitting export

abbrev pub plain_agreed : Agreed → sessions.Session
plain_agreed a =
    record { phase = plain_phase a.phase a.export; no_zeroes = a.no_zeroes; structured = a.structured; selected = a.selected; selected_of = a.selected_of }

abbrev pub plain_head : RequestHead → Head
plain_head h = record { flags = h.flags; kind = h.kind; cookie = h.cookie; offset = h.offset; length = h.length }

-- more may stand behind what stood there
pub record Grows (old new : List ℕ) : Type 0 where
  pub more : List ℕ
  pub is : new ≡ old ++ more
