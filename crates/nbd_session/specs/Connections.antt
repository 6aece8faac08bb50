-- A connection between two messages: what each call leads from and to.
use Rattle.std.specs.Prelude.{◌≡◌, ◌⊎◌, ℕ, List, [], ◌∷◌, ◌++◌, drop, false, Option, Some, None}
use Rattle.core_events.specs.Events as events
use Rattle.core_events.specs.Views.{plain_request}
use Rattle.core_events.specs.declared.infos.ExportInfo.{ExportInfo}
use Rattle.core_events.specs.declared.events.Next.{Next}
use Rattle.core_events.specs.declared.events.Next.TheVariants as next
use Rattle.core_events.specs.declared.events.Event.TheVariants.{Guest, Monitor, Tick}
use Rattle.core_events.specs.declared.answers.Errno.TheVariants.{NoMemory}
use Rattle.nbd_model.specs.Requests.{Head, error_reply, error_number}
use Rattle.nbd_model.specs.Sessions.{Session, Taken, More, Answered, Asks, HangsUp, new_session, taken_of}
use Rattle.nbd_session.specs.Turns.{Turn, Idle, Due, Left}

-- what a connection is: its state, the bytes that came and weren't taken, and whether a request waits
pub record Connection : Type 0 where
  pub session : Session
  pub unread : List ℕ
  pub turn : Turn

abbrev pub new_connection : Connection
new_connection = record { session = new_session; unread = []; turn = Idle }

abbrev pub fed : List ℕ → Connection → Connection
fed bytes c = record c { unread = c.unread ++ bytes }

-- what a call gives: what was found, what is sent, and the connection behind it
pub record Step : Type 0 where
  pub request : Option events.Request
  pub sent : List ℕ
  pub after : Connection

-- a request of a message; the others are left
abbrev pub asks : Head → List events.Request → Connection → Option Step
asks head [] c = None
asks head (r ∷ left) c = Some (record { request = Some r; sent = []; after = record c { turn = Due head left 0 false } })

-- the first whole message gives this request; none where it gives none
abbrev pub request_step : List ExportInfo → Connection → Taken → Option Step
request_step exports c More = None
request_step exports c (Answered used sent s) = None
request_step exports c (Asks used head requests) = asks head requests (record c { unread = drop used c.unread })
request_step exports c (HangsUp sent) = None

-- a request that is left is asked; while a reply is due none is
abbrev pub next_step : List ExportInfo → Connection → Turn → Option Step
next_step exports c Idle = request_step exports c (taken_of exports c.session c.unread)
next_step exports c (Due head left answered ended) = None
next_step exports c (Left head next left answered ended) = Some (record { request = Some next; sent = []; after = record c { turn = Due head left answered ended } })

-- a message is answered without an event
abbrev pub answer_step : Connection → Taken → Option Step
answer_step c More = None
answer_step c (Answered used sent s) = Some (record { request = None; sent = sent; after = record c { session = s; unread = drop used c.unread } })
answer_step c (Asks used head requests) = None
answer_step c (HangsUp sent) = None

-- there was no memory to take a request in
abbrev pub lacking_step : Connection → Taken → Option Step
lacking_step c More = None
lacking_step c (Answered used sent s) = None
lacking_step c (Asks used head requests) = Some (record { request = None; sent = error_reply c.session.structured head (error_number NoMemory); after = record c { unread = drop used c.unread } })
lacking_step c (HangsUp sent) = None

-- the call gave this step
pub record IsStep (step : Option Step) (request : Option events.Request) (old new : List ℕ) (Holds : Connection → Type 0) : Type 0 where
  pub given : Step
  pub is : step ≡ Some given
  pub asked : given.request ≡ request
  pub sent : new ≡ old ++ given.sent
  pub holds : Holds given.after

-- it hangs up, after these bytes
pub record IsHungUp (taken : Taken) (old new : List ℕ) : Type 0 where
  pub sent : List ℕ
  pub is : taken ≡ HangsUp sent
  pub added : new ≡ old ++ sent

-- no whole message is there, or a reply is due
abbrev pub HasNothing : Turn → Taken → Type 0
HasNothing Idle taken = taken ≡ More
HasNothing (Due head left answered ended) taken = Unit {0}
HasNothing (Left head next left answered ended) taken = ⊥

pub record Waits (c : Connection) (taken : Taken) (old new : List ℕ) (Holds : Connection → Type 0) : Type 0 where
  pub is : HasNothing c.turn taken
  pub sent : new ≡ old
  pub holds : Holds c

-- `Answered` tells of both: a message that gives no event, and one that no memory was found for
abbrev pub Gives : List ExportInfo → Connection → List ℕ → List ℕ → (Connection → Type 0) → Next → Type 0
Gives exports c old new Holds next.More = Waits c (taken_of exports c.session c.unread) old new Holds
Gives exports c old new Holds next.Answered =
    (c.turn ≡ Idle) × (IsStep (answer_step c (taken_of exports c.session c.unread)) None old new Holds ⊎ IsStep (lacking_step c (taken_of exports c.session c.unread)) None old new Holds)
Gives exports c old new Holds (next.Take (Guest r)) = IsStep (next_step exports c c.turn) (Some (plain_request r)) old new Holds
Gives exports c old new Holds (next.Take (Monitor command)) = ⊥
Gives exports c old new Holds (next.Take Tick) = ⊥
Gives exports c old new Holds next.HangUp = (c.turn ≡ Idle) × IsHungUp (taken_of exports c.session c.unread) old new

-- a request that is taken asks something
abbrev pub AsksSomething : Taken → Type 0
AsksSomething More = Unit {0}
AsksSomething (Answered used sent s) = Unit {0}
AsksSomething (Asks used head []) = ⊥
AsksSomething (Asks used head (r ∷ requests)) = Unit {0}
AsksSomething (HangsUp sent) = Unit {0}

abbrev pub RequestsAskSomething : Type 0
RequestsAskSomething = (exports : List ExportInfo) (s : Session) (bytes : List ℕ) → AsksSomething (taken_of exports s bytes)
