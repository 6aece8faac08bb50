-- The laws, as statements.
use Rattle.std.specs.Prelude.{◌≡◌, ℕ, ◌≤◌, ◌^◌, []}
use Rattle.core_events.specs.declared.events.Event.{Event}
use Rattle.core_events.specs.declared.answers.Answer.{Answer}
use Rattle.core_events.specs.Answers.{bytes_needed, runs_needed, Fits, HasRoom, KeepsRoom, KeepsContents, IsEmptyAnswer, Done}
use Rattle.core_events.specs.Views.{plain_event, plain_answer}

-- an event may bring 2^25 bytes at most
abbrev pub BytesAreBounded : Type 0
BytesAreBounded = (event : Event) → bytes_needed event ≤ 2 ^ 25

-- an answer with room for so many bytes fits each event that may bring so many at most
abbrev pub RoomFitsEachEvent : Type 0
RoomFitsEachEvent = (count : ℕ) (answer : Answer) (event : Event) → HasRoom count answer → bytes_needed event ≤ count → Fits answer event

-- one event may bring no more than another
pub record NeedsNoMore (one other : Event) : Type 0 where
  pub bytes : bytes_needed one ≤ bytes_needed other
  pub runs : runs_needed one ≤ runs_needed other

-- an answer that fits an event fits each that may bring no more
abbrev pub FitsEachSmaller : Type 0
FitsEachSmaller = (answer : Answer) (one other : Event) → NeedsNoMore one other → Fits answer other → Fits answer one

-- what an answer fits it fits as long as its room stays
abbrev pub FitsWhileRoomStays : Type 0
FitsWhileRoomStays = (old new : Answer) (event : Event) → KeepsRoom old new → Fits old event → Fits new event

-- events of one value need the same room
abbrev pub NeedsFollowValue : Type 0
NeedsFollowValue = (answer : Answer) (one other : Event) → plain_event one ≡ plain_event other → Fits answer one → Fits answer other

-- an answer whose contents stay keeps its value
abbrev pub ContentsKeepValue : Type 0
ContentsKeepValue = (old new : Answer) → KeepsContents old new → plain_answer new ≡ plain_answer old

-- the value of an empty answer
abbrev pub EmptyIsDone : Type 0
EmptyIsDone = (answer : Answer) → IsEmptyAnswer answer → plain_answer answer ≡ record { reply = Done; notices = [] }
