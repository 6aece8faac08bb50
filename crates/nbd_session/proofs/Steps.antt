-- What a session does is what the definitions say of the connection that it is the state of.
use Rattle.std.proofs.Common.{◌≡◌, ℕ, ◌+◌, ◌-◌, ◌≤◌, ◌<◌, ◌⊎◌, inl, inr, List, [], ◌∷◌, ◌++◌, length, take, drop, get_or, Bool, true, false, refl, arith, sym, ap, ◌∙◌, append_assoc, subst, min, add-zero, ◌^◌, map}
use Rattle.std.proofs.lemmas.Grind.{common_steps}
use Rattle.std.proofs.lemmas.List.{take-append-drop, drop_all}
use Rattle.std.proofs.Math.Seq.{drop-append-add}
use Rattle.std.specs.Prelude.{nat_lt, nat_le, ◌==◌, Some, None, Result, Ok, Err, if◌then◌else◌}
use Rattle.std.specs.declared.alloc.AllocError.{AllocError}
use Rattle.core_events.specs.Views.{plain_request}
use Rattle.core_events.specs.declared.events.Request.{Request}
use Rattle.core_events.specs.declared.events.Next.{Next}
use Rattle.core_events.specs.declared.events.Event.TheVariants.{Guest, Monitor, Tick}
use Rattle.core_events.specs.declared.events.Work.TheVariants.{Status}
use Rattle.nbd_model.specs.Numbers.{longest_data, u32_at}
use Rattle.nbd_codec.specs.declared.heads.RequestHead.{RequestHead}
use Rattle.nbd_session.specs.declared.session.Asked.{Asked}
use Rattle.core_events.specs.Events as events
use Rattle.core_events.specs.declared.infos.ExportInfo.{ExportInfo}
use Rattle.core_events.specs.declared.events.Next.TheVariants as next
use Rattle.core_events.specs.declared.answers.Errno.TheVariants.{NoMemory}
use Rattle.nbd_model.specs.Requests.{Head, error_reply, error_number, is_refused, requests_of, asked, written, write_kind, status_kind, one_run, bytes_behind}
use Rattle.nbd_model.specs.Sessions as sessions
use Rattle.nbd_model.specs.Sessions.{Taken, More, Answered, Asks, HangsUp, taken_of, taken_in, greeted}
use Rattle.nbd_session.specs.Turns as turns
use Rattle.nbd_session.specs.Connections.{Connection, answer_step, lacking_step, next_step, request_step, fed}
use Rattle.nbd_session.specs.Parts.{plain_agreed, plain_phase, plain_head}
use Rattle.nbd_session.specs.declared.agreed.Phase.{Phase}
use Rattle.nbd_session.specs.declared.agreed.Phase.TheVariants.{Greeted}
use Rattle.nbd_session.specs.Reading.{IsAt, given_by, Keeps, IsShort, IsBegun, skips, without, TurnIs, Does, left_behind, request_at, work_of, first_asked, AsksFirst, Answers}
use Rattle.nbd_session.specs.declared.agreed.Agreed.{Agreed}
use Rattle.nbd_session.specs.declared.session.Reading.{Reading}
use Rattle.nbd_session.specs.declared.session.Reading.TheVariants as reading
use Rattle.nbd_session.specs.declared.session.Turn.{Turn}
use Rattle.nbd_session.specs.declared.session.Turn.TheVariants as code
use Rattle.nbd_session.specs.declared.session.Session.{Session}

-- ---- bytes that are skipped

shorter : (xs rest : List ℕ) (left : ℕ) → length xs ≤ left → nat_lt (length (xs ++ rest)) left ≡ nat_lt (length rest) (left - length xs)
shorter xs rest left most = grind (arith, common_steps)

sum_same : (n k left : ℕ) → k ≤ left → n + left ≡ n + k + (left - k)
sum_same n k left most = omega arith

none_long : (xs : List ℕ) → length xs ≤ 0 → xs ≡ []
none_long [] most = refl
none_long (x ∷ xs) most = absurd (omega arith)

kept_on : (r : Reading) (exports : List ExportInfo) (a : Agreed) (n : ℕ) (xs rest : List ℕ) → length xs ≤ 0 → given_by r exports a n (xs ++ rest) ≡ given_by r exports a (n + length xs) rest
kept_on r exports a n xs rest most = rw (none_long xs most, add-zero n) refl

pub skipped_on : (r : Reading) (exports : List ExportInfo) (a : Agreed) (n : ℕ) (xs rest : List ℕ) → length xs ≤ skips r
    → given_by r exports a n (xs ++ rest) ≡ given_by (without r (length xs)) exports a (n + length xs) rest
skipped_on reading.Head exports a n xs rest most = kept_on reading.Head exports a n xs rest most
skipped_on (reading.Content head) exports a n xs rest most = kept_on (reading.Content head) exports a n xs rest most
skipped_on (reading.LongOption number left) exports a n xs rest most = rw (shorter xs rest left most, sum_same n (length xs) left most) refl
skipped_on (reading.Bytes head) exports a n xs rest most = kept_on (reading.Bytes head) exports a n xs rest most
skipped_on (reading.Skipped head left) exports a n xs rest most = rw (shorter xs rest left most, sum_same n (length xs) left most) refl

-- ---- a message ends

ended_unread : (done unread : List ℕ) (size : ℕ) → drop (length done + size) (done ++ unread) ≡ drop size unread
ended_unread done unread size = drop-append-add done unread size

at_head : (new : Session) (session : sessions.Session) (unread : List ℕ) (turn : turns.Turn) → unread ≡ new.unread → session ≡ plain_agreed new.agreed → new.reading ≡ reading.Head → TurnIs new.agreed new.turn turn
    → IsAt new (record { session = session; unread = unread; turn = turn })
at_head new session unread turn rest agreed head is =
    record {
      done = [];
      unread = rest;
      agreed = agreed;
      turn = is;
      gives = λ exports more. let P : Reading → Type 0 = λ r. taken_of exports (plain_agreed new.agreed) more ≡ given_by r exports new.agreed 0 more in subst P (sym head) refl;
      keeps = let P : Reading → Type 0 = λ r. Keeps r 0 new.agreed new.unread in subst P (sym head) refl;
    }

-- what the connection's bytes give
given : (exports : List ExportInfo) (old : Session) (c : Connection) (at : IsAt old c) → taken_of exports c.session c.unread ≡ given_by old.reading exports old.agreed (length at.done) old.unread
given exports old c at =
    ap (λ s. taken_of exports s c.unread) at.agreed ∙ ap (taken_of exports (plain_agreed old.agreed)) at.unread ∙ at.gives exports old.unread

pub idle : (old : Session) (c : Connection) → IsAt old c → old.turn ≡ code.Idle → c.turn ≡ turns.Idle
idle old c at is = let P : Turn → Type 0 = λ t. TurnIs old.agreed t c.turn in let h : TurnIs old.agreed code.Idle c.turn = subst P is at.turn in h

pub gives_more : (exports : List ExportInfo) (old : Session) (c : Connection) (out : List ℕ) → (at : IsAt old c) → old.turn ≡ code.Idle → given_by old.reading exports old.agreed (length at.done) old.unread ≡ More
    → length old.unread < 2 ^ 25 → Does exports c old out out next.More
gives_more exports old c out at turn none few =
    record { gives = record { is = rw (idle old c at turn) (given exports old c at ∙ none); sent = refl; holds = at }; bounded = few }

pub gives_hung : (exports : List ExportInfo) (old new : Session) (c : Connection) (out next_out sent : List ℕ) → (at : IsAt old c) → old.turn ≡ code.Idle
    → given_by old.reading exports old.agreed (length at.done) old.unread ≡ HangsUp sent → next_out ≡ out ++ sent → Does exports c new out next_out next.HangUp
gives_hung exports old new c out next_out sent at turn hung added =
    record { gives = (idle old c at turn, record { sent = sent; is = given exports old c at ∙ hung; added = added }); bounded = tt }

pub gives_answered : (exports : List ExportInfo) (old new : Session) (c : Connection) (out next_out sent : List ℕ) (size : ℕ) → (at : IsAt old c) → old.turn ≡ code.Idle
    → given_by old.reading exports old.agreed (length at.done) old.unread ≡ Answered (length at.done + size) sent (plain_agreed new.agreed) → new.unread ≡ drop size old.unread → new.reading ≡ reading.Head → new.turn ≡ code.Idle
    → next_out ≡ out ++ sent → Does exports c new out next_out next.Answered
gives_answered exports old new c out next_out sent size at turn answered unread head still added =
    let rest : drop (length at.done + size) c.unread ≡ new.unread = ap (drop (length at.done + size)) at.unread ∙ ended_unread at.done old.unread size ∙ sym unread in
    let same : TurnIs new.agreed new.turn c.turn = rw still (idle old c at turn) in
    let gave = given exports old c at ∙ answered in
    record {
      gives = (
        idle old c at turn,
        inl (record {
          given = record { request = None; sent = sent; after = record c { session = plain_agreed new.agreed; unread = drop (length at.done + size) c.unread } };
          is = ap (answer_step c) gave;
          asked = refl;
          sent = added;
          holds = at_head new _ _ _ rest refl head same;
        }),
      );
      bounded = tt;
    }

pub gives_lacking : (exports : List ExportInfo) (old new : Session) (c : Connection) (h : Head) (requests : List events.Request) (out next_out : List ℕ) (size : ℕ) → (at : IsAt old c) → old.turn ≡ code.Idle
    → given_by old.reading exports old.agreed (length at.done) old.unread ≡ Asks (length at.done + size) h requests → new.agreed ≡ old.agreed → new.unread ≡ drop size old.unread → new.reading ≡ reading.Head → new.turn ≡ code.Idle
    → next_out ≡ out ++ error_reply old.agreed.structured h (error_number NoMemory) → Does exports c new out next_out next.Answered
gives_lacking exports old new c h requests out next_out size at turn asks agreed unread head still added =
    let rest : drop (length at.done + size) c.unread ≡ new.unread = ap (drop (length at.done + size)) at.unread ∙ ended_unread at.done old.unread size ∙ sym unread in
    let same : TurnIs new.agreed new.turn c.turn = rw still (idle old c at turn) in
    let gave = given exports old c at ∙ asks in
    record {
      gives = (
        idle old c at turn,
        inr (record {
          given = record { request = None; sent = error_reply c.session.structured h (error_number NoMemory); after = record c { unread = drop (length at.done + size) c.unread } };
          is = ap (lacking_step c) gave;
          asked = refl;
          sent = added ∙ ap (λ (s : sessions.Session). out ++ error_reply s.structured h (error_number NoMemory)) (sym at.agreed);
          holds = at_head new c.session _ _ rest (at.agreed ∙ ap plain_agreed (sym agreed)) head same;
        }),
      );
      bounded = tt;
    }

pub gives_asked : (exports : List ExportInfo) (old new : Session) (c : Connection) (h : Head) (r : Request) (left : List events.Request) (asked : Asked) (out : List ℕ) (size : ℕ) (at : IsAt old c) → old.turn ≡ code.Idle
    → given_by old.reading exports old.agreed (length at.done) old.unread ≡ Asks (length at.done + size) h (plain_request r ∷ left) → new.agreed ≡ old.agreed → new.unread ≡ drop size old.unread → new.reading ≡ reading.Head
    → new.turn ≡ code.Due asked → TurnIs old.agreed (code.Due asked) (turns.Due h left 0 false) → Does exports c new out out (next.Take (Guest r))
gives_asked exports old new c h r left asked out size at turn asks agreed unread head due is =
    let rest : drop (length at.done + size) c.unread ≡ new.unread = ap (drop (length at.done + size)) at.unread ∙ ended_unread at.done old.unread size ∙ sym unread in
    let same : TurnIs new.agreed new.turn (turns.Due h left 0 false) = rw (agreed, due) is in
    let gave = given exports old c at ∙ asks in
    record {
      gives = record {
        given = record { request = Some (plain_request r); sent = []; after = record c { unread = drop (length at.done + size) c.unread; turn = turns.Due h left 0 false } };
        is = ap (next_step exports c) (idle old c at turn) ∙ ap (request_step exports c) gave;
        asked = refl;
        sent = grind (arith, common_steps);
        holds = at_head new c.session _ _ rest (at.agreed ∙ ap plain_agreed (sym agreed)) head same;
      };
      bounded = tt;
    }

pub kept_of : (old : Session) (c : Connection) (at : IsAt old c) (r : Reading) → old.reading ≡ r → Keeps r (length at.done) old.agreed old.unread
kept_of old c at r is = let P : Reading → Type 0 = λ x. Keeps x (length at.done) old.agreed old.unread in subst P is at.keeps

-- ---- requests

requests_by : (export : List ℕ) (selected : List (List ℕ)) (h : Head) (bytes : List ℕ) → is_refused selected h ≡ false → ((h.kind == write_kind) ≡ false → bytes ≡ []) → written h bytes ≡ bytes
    → requests_of export selected h bytes
    ≡ asked export h (work_of h (get_or selected 0 [])) bytes ∷ (if h.kind == status_kind then map (λ context. asked export h (Status context (one_run h)) []) (drop 1 selected) else [])
requests_by export [] h bytes refused none whole = grind (arith, common_steps)
requests_by export (s ∷ selected) h bytes refused none whole = grind (arith, common_steps)

asks_first : (exports : List ExportInfo) (old new : Session) (head : RequestHead) (size : ℕ) (out sent : List ℕ) (r : Result Next AllocError) → old.turn ≡ code.Idle
    → ((c : Connection) → IsAt old c → (n : ℕ) → given_by old.reading exports old.agreed n old.unread
    ≡ Asks (n + size) (plain_head head) (request_at old.agreed (plain_head head) 0 (take size old.unread) ∷ left_behind old.agreed (plain_head head) 0))
    → AsksFirst head size old new out sent r → Answers exports old new out sent r
asks_first exports old new head size out sent (Ok (next.Take (Guest r))) turn asks did =
    let left = left_behind old.agreed (plain_head head) 0 in
    λ c at. rw did.2 (gives_asked exports old new c (plain_head head) r left (first_asked head) out size at turn
    (asks c at (length at.done) ∙ ap (λ q. Asks (length at.done + size) (plain_head head) (q ∷ left)) (sym did.0)) (ap (λ (s : Session). s.agreed) did.1) (ap (λ (s : Session). s.unread) did.1)
    (ap (λ (s : Session). s.reading) did.1) (ap (λ (s : Session). s.turn) did.1) refl)
asks_first exports old new head size out sent (Ok (next.Take (Monitor command))) turn asks did = absurd did
asks_first exports old new head size out sent (Ok (next.Take Tick)) turn asks did = absurd did
asks_first exports old new head size out sent (Ok next.More) turn asks did = absurd did
asks_first exports old new head size out sent (Ok next.HangUp) turn asks did = absurd did
asks_first exports old new head size out sent (Ok next.Answered) turn asks did =
    λ c at. gives_lacking exports old new c (plain_head head) _ out sent size at turn (asks c at (length at.done)) (ap (λ (s : Session). s.agreed) did.0) (ap (λ (s : Session). s.unread) did.0)
    (ap (λ (s : Session). s.reading) did.0) (ap (λ (s : Session). s.turn) did.0 ∙ turn) did.1
asks_first exports old new head size out sent (Err e) turn asks did = (λ c at. rw did.0 at, did.1)

behind_none : (h : Head) (unread : List ℕ) → (h.kind == write_kind) ≡ false → take (bytes_behind h) unread ≡ []
behind_none h unread is = rw is refl

behind_whole : (h : Head) (bytes : List ℕ) → bytes_behind h ≤ longest_data → (h.kind == write_kind) ≡ true → written h bytes ≡ bytes
behind_whole h bytes few is = grind (arith, common_steps)

behind_written : (h : Head) (unread : List ℕ) (b : Bool) → (h.kind == write_kind) ≡ b → bytes_behind h ≤ longest_data → written h (take (bytes_behind h) unread) ≡ take (bytes_behind h) unread
behind_written h unread true is few = behind_whole h (take (bytes_behind h) unread) few is
behind_written h unread false is few = rw (behind_none h unread is) (grind (arith, common_steps))

pub takes_bytes : (exports : List ExportInfo) (old new : Session) (head : RequestHead) (size : ℕ) (out sent : List ℕ) (r : Result Next AllocError) → old.turn ≡ code.Idle → old.reading ≡ reading.Bytes head
    → size ≡ bytes_behind (plain_head head) → size ≤ length old.unread → AsksFirst head size old new out sent r → Answers exports old new out sent r
takes_bytes exports old new head size out sent r turn is behind there did =
    let h = plain_head head in
    let here : nat_lt (length old.unread) (bytes_behind h) ≡ false = grind arith in
    let content : take (bytes_behind h) old.unread ≡ take size old.unread = ap (λ n. take n old.unread) (sym behind) in
    asks_first exports old new head size out sent r turn
    (λ c at n.
    let keeps = kept_of old c at (reading.Bytes head) is in
    let all = requests_by old.agreed.export old.agreed.selected h (take (bytes_behind h) old.unread) keeps.1 (behind_none h old.unread) (behind_written h old.unread _ refl keeps.0) in
    rw (is, here, all, content, behind) refl) did

pub takes_skipped : (exports : List ExportInfo) (old new : Session) (head : RequestHead) (out sent : List ℕ) (r : Result Next AllocError) → old.turn ≡ code.Idle → old.reading ≡ reading.Skipped head 0
    → is_refused old.agreed.selected (plain_head head) ≡ false → AsksFirst head 0 old new out sent r → Answers exports old new out sent r
takes_skipped exports old new head out sent r turn is refused did =
    let h = plain_head head in
    let here : nat_lt (length old.unread) 0 ≡ false = grind arith in
    let all = requests_by old.agreed.export old.agreed.selected h [] refused (λ _. refl) (grind (arith, common_steps)) in
    asks_first exports old new head 0 out sent r turn (λ c at n. rw (is, here, refused, all) refl) did

-- ---- bytes that are fed

idle_or : (r : Reading) (d : ℕ) (a : Agreed) (u : List ℕ) → Keeps r d a u → (skips r ≡ 0) ⊎ (u ≡ [])
idle_or reading.Head d a u keeps = inl refl
idle_or (reading.Content head) d a u keeps = inl refl
idle_or (reading.LongOption number left) d a u keeps = keeps
idle_or (reading.Bytes head) d a u keeps = inl refl
idle_or (reading.Skipped head left) d a u keeps = keeps

joined : (done u bytes : List ℕ) (n k : ℕ) → n ≡ min k (length bytes) → (k ≡ 0) ⊎ (u ≡ []) → (done ++ u) ++ bytes ≡ (done ++ take n bytes) ++ (u ++ drop n bytes)
joined done u bytes n k is (inl none) = let zero : n ≡ 0 = omega arith in rw zero (grind (arith, common_steps, append_assoc))
joined done u bytes n k is (inr none) = let all = take-append-drop n bytes in rw none (grind (arith, common_steps, append_assoc))

past : (left n m : ℕ) (u rest : List ℕ) (b : Bool) → nat_le left m ≡ b → n ≡ min left m → u ≡ [] → length rest ≡ m → (left - n ≡ 0) ⊎ (u ++ drop n rest ≡ [])
past left n m u rest true le is none long = inl (grind arith)
past left n m u rest false le is none long = inr (let end : drop n rest ≡ [] = drop_all n rest (grind arith) in rw (none, end) refl)

all_or : (left n : ℕ) (u bytes : List ℕ) → n ≡ min left (length bytes) → (left ≡ 0) ⊎ (u ≡ []) → (left - n ≡ 0) ⊎ (u ++ drop n bytes ≡ [])
all_or left n u bytes is (inl none) = inl (omega arith)
all_or left n u bytes is (inr none) = past left n (length bytes) u bytes _ refl is none refl

keeps_on : (r : Reading) (a : Agreed) (d n : ℕ) (u bytes : List ℕ) → n ≡ min (skips r) (length bytes) → Keeps r d a u → Keeps (without r n) (d + n) a (u ++ drop n bytes)
keeps_on reading.Head a d n u bytes is keeps = omega arith
keeps_on (reading.Content head) a d n u bytes is keeps = keeps
keeps_on (reading.LongOption number left) a d n u bytes is keeps = all_or left n u bytes is keeps
keeps_on (reading.Bytes head) a d n u bytes is keeps = keeps
keeps_on (reading.Skipped head left) a d n u bytes is keeps = all_or left n u bytes is keeps

-- so many of these bytes were skipped
skips_so : (r : Reading) (exports : List ExportInfo) (a : Agreed) (done bytes rest : List ℕ) (n : ℕ) → n ≤ skips r → n ≤ length bytes
    → ((more : List ℕ) → taken_of exports (plain_agreed a) (done ++ more) ≡ given_by r exports a (length done) more)
    → taken_of exports (plain_agreed a) ((done ++ take n bytes) ++ rest) ≡ given_by (without r n) exports a (length (done ++ take n bytes)) rest
skips_so r exports a done bytes rest n few there gives =
    let long : length (take n bytes) ≡ n = grind (arith, common_steps) in
    let sum : length done + n ≡ length (done ++ take n bytes) = grind (arith, common_steps) in
    ap (taken_of exports (plain_agreed a)) (append_assoc done (take n bytes) rest) ∙ gives (take n bytes ++ rest) ∙ skipped_on r exports a (length done) (take n bytes) rest (omega arith)
    ∙ ap (λ k. given_by (without r k) exports a (length done + k) rest) long ∙ ap (λ k. given_by (without r n) exports a k rest) sum

pub fed_at : (old new : Session) (bytes : List ℕ) (n : ℕ) → n ≡ min (skips old.reading) (length bytes) → new ≡ record old { unread = old.unread ++ drop n bytes; reading = without old.reading n }
    → (c : Connection) → IsAt old c → IsAt new (fed bytes c)
fed_at old new bytes n is did c at =
    let few : n ≤ skips old.reading = omega arith in
    let there : n ≤ length bytes = omega arith in
    let sum : length at.done + n ≡ length (at.done ++ take n bytes) = grind (arith, common_steps) in
    let P : ℕ → Type 0 = λ k. Keeps (without old.reading n) k old.agreed (old.unread ++ drop n bytes) in
    rw did record {
      done = at.done ++ take n bytes;
      unread = ap (λ l. l ++ bytes) at.unread ∙ joined at.done old.unread bytes n (skips old.reading) is (idle_or old.reading (length at.done) old.agreed old.unread at.keeps);
      agreed = at.agreed;
      turn = at.turn;
      gives = λ exports rest. skips_so old.reading exports old.agreed at.done bytes rest n few there (at.gives exports);
      keeps = subst P sum (keeps_on old.reading old.agreed (length at.done) n old.unread bytes is at.keeps);
    }

-- ---- a head is read

short_keeps : (r : Reading) (a : Agreed) (d n : ℕ) (rest : List ℕ) → n ≡ min (skips r) (length rest) → IsShort r a → Keeps (without r n) d a (drop n rest)
short_keeps reading.Head a d n rest is short = absurd short
short_keeps (reading.Content head) a d n rest is short = short
short_keeps (reading.LongOption number left) a d n rest is short = past left n (length rest) [] rest _ refl is refl refl
short_keeps (reading.Bytes head) a d n rest is short = short
short_keeps (reading.Skipped head left) a d n rest is short = past left n (length rest) [] rest _ refl is refl refl

none_done : (old : Session) (c : Connection) → IsAt old c → old.reading ≡ reading.Head → c.unread ≡ old.unread
none_done old c at head =
    let empty : at.done ≡ [] = none_long at.done (let zero : length at.done ≡ 0 = kept_of old c at reading.Head head in omega arith) in
    at.unread ∙ ap (λ l. l ++ old.unread) empty

pub head_read : (old new : Session) (r : Reading) (size n : ℕ) → old.reading ≡ reading.Head → ((exports : List ExportInfo) → IsBegun r size exports old.agreed old.unread)
    → n ≡ min (skips r) (length old.unread - size) → new ≡ record old { unread = drop (size + n) old.unread; reading = without r n } → (c : Connection) → IsAt old c → IsAt new c
head_read old new r size n head begun is did c at =
    let u = old.unread in
    let first = begun [] in
    let front = take size u in
    let rest = drop size u in
    let within : size ≤ length u = first.within in
    let front_long : length front ≡ size = grind (arith, common_steps) in
    let rest_long : length rest ≡ length u - size = grind (arith, common_steps) in
    let split : drop (size + n) u ≡ drop n rest = grind (arith, common_steps) in
    let whole : u ≡ (front ++ take n rest) ++ drop n rest =
    sym (append_assoc front (take n rest) (drop n rest) ∙ ap (λ l. front ++ l) (take-append-drop n rest) ∙ take-append-drop size u) in
    rw did record {
      done = front ++ take n rest;
      unread = none_done old c at head ∙ whole ∙ ap (λ l. (front ++ take n rest) ++ l) (sym split);
      agreed = at.agreed;
      turn = at.turn;
      gives = λ exports more. skips_so r exports old.agreed front rest more n (omega arith) (omega arith) (λ tail. (begun exports).gives tail ∙ ap (λ k. given_by r exports old.agreed k tail) (sym front_long));
      keeps = rw split (short_keeps r old.agreed (length (front ++ take n rest)) n rest (omega arith) first.short);
    }

-- ---- contexts that are left

pub left_asked : (exports : List ExportInfo) (old new : Session) (asked : Asked) (r : Request) (out : List ℕ) → old.turn ≡ code.Left asked
    → plain_request r ≡ request_at old.agreed (plain_head asked.head) asked.answered [] → new ≡ record old { turn = code.Due asked } → (c : Connection) → IsAt old c → Does exports c new out out (next.Take (Guest r))
left_asked exports old new asked r out turn is did c at =
    let P : Turn → Type 0 = λ t. TurnIs old.agreed t c.turn in
    let h : TurnIs old.agreed (code.Left asked) c.turn = subst P turn at.turn in
    rw did record {
      gives = record {
        given = record {
          request = Some (request_at old.agreed (plain_head asked.head) asked.answered []);
          sent = [];
          after = record c { turn = turns.Due (plain_head asked.head) (left_behind old.agreed (plain_head asked.head) asked.answered) asked.answered asked.ended };
        };
        is = ap (next_step exports c) h.1;
        asked = ap Some (sym is);
        sent = grind (arith, common_steps);
        holds = record { done = at.done; unread = at.unread; agreed = at.agreed; turn = refl; gives = at.gives; keeps = at.keeps };
      };
      bounded = tt;
    }

-- ---- the client's flags

pub taken_flags : (exports : List ExportInfo) (a : Agreed) (bytes : List ℕ) → a.phase ≡ Greeted → taken_of exports (plain_agreed a) bytes ≡ (if nat_lt (length bytes) 4 then More else greeted (u32_at bytes 0) (plain_agreed a))
unfolding taken_of
taken_flags exports a bytes is = ap (λ (p : Phase). taken_in (plain_phase p a.export) exports (plain_agreed a) bytes) is

pub given_head : (exports : List ExportInfo) (old : Session) (n : ℕ) → old.reading ≡ reading.Head → given_by old.reading exports old.agreed n old.unread ≡ taken_of exports (plain_agreed old.agreed) old.unread
given_head exports old n is = ap (λ r. given_by r exports old.agreed n old.unread) is

pub not_head : (r : Reading) (a : Agreed) (n : ℕ) → IsShort r a → without r n ≡ reading.Head → ⊥
not_head reading.Head a n short is = short
not_head (reading.Content head) a n short is = cc
not_head (reading.LongOption number left) a n short is = cc
not_head (reading.Bytes head) a n short is = cc
not_head (reading.Skipped head left) a n short is = cc
