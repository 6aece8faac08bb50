-- What the calls for the next message come to.
use Rattle.std.proofs.Common.{◌≡◌, ◌≢◌, ℕ, ◌+◌, ◌≤◌, ◌<◌, ◌^◌, List, [], ◌++◌, length, take, drop, true, false, refl, arith, sym, ap, ◌∙◌, subst}
use Rattle.std.proofs.lemmas.Grind.{common_steps}
use Rattle.std.specs.Prelude.{nat_lt, nat_le, Result, Ok, Err, IfOk, OnErr}
use Rattle.std.specs.declared.alloc.AllocError.{AllocError}
use Rattle.core_events.specs.declared.infos.ExportInfo.{ExportInfo}
use Rattle.core_events.specs.declared.events.Next.{Next}
use Rattle.core_events.specs.declared.events.Next.TheVariants as next
use Rattle.nbd_model.specs.Numbers.{u32_at, err_too_big}
use Rattle.nbd_model.specs.Options.{option_error}
use Rattle.nbd_model.specs.Sessions as sessions
use Rattle.nbd_model.specs.Sessions.{Taken, More, Answered, HangsUp, taken_of, option_taken, skipped, greeted}
use Rattle.nbd_codec.specs.declared.heads.OptionHead.{OptionHead}
use Rattle.nbd_session.specs.Turns as turns
use Rattle.nbd_session.specs.Connections.{Connection, Gives, IsHungUp}
use Rattle.nbd_session.specs.Negotiating.{IsAnswered, IsDealt, dropped}
use Rattle.nbd_session.specs.declared.negotiating.Dealt.{Dealt}
use Rattle.nbd_session.specs.declared.negotiating.Dealt.TheVariants as dealt
use Rattle.nbd_session.specs.Parts.{plain_agreed}
use Rattle.nbd_session.specs.Reading.{IsAt, given_by, Does, IsBounded, Answers, WaitsForHead}
use Rattle.nbd_session.specs.declared.agreed.Phase.TheVariants.{Greeted}
use Rattle.nbd_session.specs.declared.session.Session.{Session}
use Rattle.nbd_session.specs.declared.session.Turn.TheVariants as code
use Rattle.nbd_session.specs.declared.session.Reading.TheVariants as reading
use Rattle.nbd_session.proofs.Steps.{gives_more, gives_hung, gives_answered, kept_of, given_head, taken_flags, idle}

-- ---- options

pub ends_option : (exports : List ExportInfo) (old new : Session) (number : ℕ) (out sent : List ℕ) → old.turn ≡ code.Idle → old.reading ≡ reading.LongOption number 0 → new.unread ≡ old.unread → new.reading ≡ reading.Head
    → new.turn ≡ code.Idle → plain_agreed new.agreed ≡ dropped number (plain_agreed old.agreed) → sent ≡ out ++ option_error number err_too_big → (c : Connection) → IsAt old c → Does exports c new out sent next.Answered
ends_option exports old new number out sent turn is unread head still agreed added c at =
    let n = length at.done in
    let here : nat_lt (length old.unread) 0 ≡ false = grind arith in
    let gave : given_by old.reading exports old.agreed n old.unread ≡ skipped (n + 0) number (plain_agreed old.agreed) = rw (is, here) refl in
    gives_answered exports old new c out sent (option_error number err_too_big) 0 at turn (gave ∙ ap (λ s. Answered (n + 0) (option_error number err_too_big) s) (sym agreed)) unread head still added

content_here : (exports : List ExportInfo) (old : Session) (head : OptionHead) (content : List ℕ) (n : ℕ) → old.reading ≡ reading.Content head → head.length ≤ length old.unread → content ≡ take head.length old.unread
    → given_by old.reading exports old.agreed n old.unread ≡ option_taken (n + head.length) head.number content exports (plain_agreed old.agreed)
content_here exports old head content n is there same = let here : nat_lt (length old.unread) head.length ≡ false = grind arith in rw (is, here, same) refl

pub content_hung : (exports : List ExportInfo) (old new : Session) (head : OptionHead) (content out sent : List ℕ) → old.turn ≡ code.Idle → old.reading ≡ reading.Content head → head.length ≤ length old.unread
    → content ≡ take head.length old.unread → (d : Dealt) → d ≡ dealt.HangUp
    → ((used : ℕ) → IsDealt (option_taken used head.number content exports (plain_agreed old.agreed)) used (plain_agreed new.agreed) out sent d) → (c : Connection) → IsAt old c → Does exports c new out sent next.HangUp
content_hung exports old new head content out sent turn is there same d hangs hung c at =
    let used = length at.done + head.length in
    let P : Dealt → Type 0 = λ x. IsDealt (option_taken used head.number content exports (plain_agreed old.agreed)) used (plain_agreed new.agreed) out sent x in
    let h : IsHungUp (option_taken used head.number content exports (plain_agreed old.agreed)) out sent = subst P hangs (hung used) in
    gives_hung exports old new c out sent h.sent at turn (content_here exports old head content (length at.done) is there same ∙ h.is) h.added

pub content_answered : (exports : List ExportInfo) (old new : Session) (head : OptionHead) (content out sent : List ℕ) → old.turn ≡ code.Idle → old.reading ≡ reading.Content head → head.length ≤ length old.unread
    → content ≡ take head.length old.unread → (d : Dealt) → d ≡ dealt.Answered
    → ((used : ℕ) → IsDealt (option_taken used head.number content exports (plain_agreed old.agreed)) used (plain_agreed new.agreed) out sent d) → new.unread ≡ drop head.length old.unread → new.reading ≡ reading.Head → new.turn ≡ code.Idle → (c : Connection) → IsAt old c → Does exports c new out sent next.Answered
content_answered exports old new head content out sent turn is there same d answers dealt unread first still c at =
    let used = length at.done + head.length in
    let P : Dealt → Type 0 = λ x. IsDealt (option_taken used head.number content exports (plain_agreed old.agreed)) used (plain_agreed new.agreed) out sent x in
    let h : IsAnswered (option_taken used head.number content exports (plain_agreed old.agreed)) used (plain_agreed new.agreed) out sent = subst P answers (dealt used) in
    gives_answered exports old new c out sent h.sent head.length at turn (content_here exports old head content (length at.done) is there same ∙ h.is) unread first still h.added

-- ---- the client's flags

hung_by : (flags : ℕ) (s : sessions.Session) → 3 < flags → greeted flags s ≡ HangsUp []
hung_by flags s wrong = let is : nat_lt 3 flags ≡ true = grind arith in rw is refl

taken_by : (flags : ℕ) (s : sessions.Session) → flags ≤ 3 → greeted flags s ≡ Answered 4 [] (record s { phase = sessions.Haggling; no_zeroes = nat_le 2 flags })
taken_by flags s right = let is : nat_lt 3 flags ≡ false = grind arith in rw is refl

pub flags_wait : (exports : List ExportInfo) (old : Session) (c : Connection) (out : List ℕ) → IsAt old c → old.turn ≡ code.Idle → old.reading ≡ reading.Head → old.agreed.phase ≡ Greeted → length old.unread < 4
    → Does exports c old out out next.More
flags_wait exports old c out at turn head phase short =
    let here : nat_lt (length old.unread) 4 ≡ true = grind arith in
    let flags : taken_of exports (plain_agreed old.agreed) old.unread ≡ More = taken_flags exports old.agreed old.unread phase ∙ rw here refl in
    gives_more exports old c out at turn (given_head exports old (length at.done) head ∙ flags) (omega arith)

pub flags_hang : (exports : List ExportInfo) (old new : Session) (c : Connection) (out : List ℕ) → IsAt old c → old.turn ≡ code.Idle → old.reading ≡ reading.Head → old.agreed.phase ≡ Greeted → 4 ≤ length old.unread
    → 3 < u32_at old.unread 0 → Does exports c new out out next.HangUp
flags_hang exports old new c out at turn head phase there wrong =
    let here : nat_lt (length old.unread) 4 ≡ false = grind arith in
    let flags : taken_of exports (plain_agreed old.agreed) old.unread ≡ greeted (u32_at old.unread 0) (plain_agreed old.agreed) = taken_flags exports old.agreed old.unread phase ∙ rw here refl in
    let hangs : greeted (u32_at old.unread 0) (plain_agreed old.agreed) ≡ HangsUp [] = hung_by (u32_at old.unread 0) (plain_agreed old.agreed) wrong in
    gives_hung exports old new c out out [] at turn (given_head exports old (length at.done) head ∙ flags ∙ hangs) (grind (arith, common_steps))

pub flags_taken : (exports : List ExportInfo) (old new : Session) (c : Connection) (out : List ℕ) → IsAt old c → old.turn ≡ code.Idle → old.reading ≡ reading.Head → old.agreed.phase ≡ Greeted → 4 ≤ length old.unread
    → u32_at old.unread 0 ≤ 3 → plain_agreed new.agreed ≡ record (plain_agreed old.agreed) { phase = sessions.Haggling; no_zeroes = nat_le 2 (u32_at old.unread 0) } → new.unread ≡ drop 4 old.unread
    → new.reading ≡ reading.Head → new.turn ≡ code.Idle → Does exports c new out out next.Answered
flags_taken exports old new c out at turn head phase there right agreed unread first still =
    let here : nat_lt (length old.unread) 4 ≡ false = grind arith in
    let flags : taken_of exports (plain_agreed old.agreed) old.unread ≡ greeted (u32_at old.unread 0) (plain_agreed old.agreed) = taken_flags exports old.agreed old.unread phase ∙ rw here refl in
    let zero : length at.done ≡ 0 = kept_of old c at reading.Head head in
    let count : 4 ≡ length at.done + 4 = omega arith in
    gives_answered exports old new c out out [] 4 at turn
    (given_head exports old (length at.done) head ∙ flags ∙ taken_by (u32_at old.unread 0) (plain_agreed old.agreed) right ∙ ap (λ s. Answered 4 [] s) (sym agreed) ∙ ap (λ k. Answered k [] (plain_agreed new.agreed)) count)
    unread first still (grind (arith, common_steps))

pub head_waits : (exports : List ExportInfo) (old : Session) (c : Connection) (out : List ℕ) → IsAt old c → old.turn ≡ code.Idle → old.reading ≡ reading.Head → old.agreed.phase ≢ Greeted → WaitsForHead old exports
    → Does exports c old out out next.More
head_waits exports old c out at turn head later waits = let w = waits head later in gives_more exports old c out at turn (given_head exports old (length at.done) head ∙ w.0) (let short : length old.unread < 28 = w.1 in omega arith)

-- ---- calls

pub message_hung : (exports : List ExportInfo) (old new : Session) (out : List ℕ) → old.turn ≡ code.Idle → ((c : Connection) → IsAt old c → taken_of exports c.session c.unread ≡ HangsUp [])
    → (c : Connection) → IsAt old c → Does exports c new out out next.HangUp
message_hung exports old new out turn hung c at =
    record { gives = (idle old c at turn, record { sent = []; is = hung c at; added = grind (arith, common_steps) }); bounded = tt }

pub answers_from : (exports : List ExportInfo) (old mid new : Session) (out sent : List ℕ) (r : Result Next AllocError) → ((c : Connection) → IsAt old c → IsAt mid c) → Answers exports mid new out sent r → Answers exports old new out sent r
answers_from exports old mid new out sent (Ok n) on answers = λ c at. answers c (on c at)
answers_from exports old mid new out sent (Err e) on answers = (λ c at. answers.0 c (on c at), answers.1)

pub given_of : (exports : List ExportInfo) (old new : Session) (out sent : List ℕ) (r : Result Next AllocError) → Answers exports old new out sent r
    → IfOk r (λ (n : Next). (c : Connection) → IsAt old c → Gives exports c out sent (IsAt new) n)
given_of exports old new out sent (Ok n) answers = λ c at. (answers c at).gives
given_of exports old new out sent (Err e) answers = tt

few_of : (n : Next) (unread : List ℕ) → IsBounded n unread → n ≡ next.More → length unread < 2 ^ 25
few_of n unread bounded is = let P : Next → Type 0 = λ x. IsBounded x unread in let h : IsBounded next.More unread = subst P is bounded in h

pub bounded_of : (exports : List ExportInfo) (old new : Session) (out sent : List ℕ) (r : Result Next AllocError) → Answers exports old new out sent r
    → IfOk r (λ (n : Next). (c : Connection) → IsAt old c → c.turn ≡ turns.Idle → n ≡ next.More → length new.unread < 2 ^ 25)
bounded_of exports old new out sent (Ok n) answers = λ c at turn is. few_of n new.unread (answers c at).bounded is
bounded_of exports old new out sent (Err e) answers = tt

pub kept_by : (exports : List ExportInfo) (old new : Session) (out sent : List ℕ) (r : Result Next AllocError) → Answers exports old new out sent r → OnErr r ((c : Connection) → IsAt old c → IsAt new c)
kept_by exports old new out sent (Ok n) answers = tt
kept_by exports old new out sent (Err e) answers = answers.0

pub sent_by : (exports : List ExportInfo) (old new : Session) (out sent : List ℕ) (r : Result Next AllocError) → Answers exports old new out sent r → OnErr r (sent ≡ out)
sent_by exports old new out sent (Ok n) answers = tt
sent_by exports old new out sent (Err e) answers = answers.1
