-- What options come to.
use Rattle.std.proofs.Common.{◌≡◌, ◌≤◌, ℕ, ◌+◌, ◌<◌, List, [], ◌++◌, length, drop, get_or, true, refl, arith, ap, ◌∙◌, subst, append_assoc, ◌⊎◌, inl, inr}
use Rattle.std.proofs.lemmas.Grind.{common_steps}
use Rattle.std.specs.Prelude.{Result, Ok, Err, IfOk, OnOk, Some, Bool, if◌then◌else◌}
use Rattle.std.specs.declared.alloc.AllocError.{AllocError}
use Rattle.core_events.specs.declared.infos.ExportInfo.{ExportInfo}
use Rattle.nbd_model.specs.Numbers.{server, info, ack}
use Rattle.nbd_model.specs.Options.{option_reply, counted_text, list_replies, export_info, block_info, info_replies, info_of, InfoAsk, export_of, meta_of, MetaAsk, most_queries}
use Rattle.nbd_model.specs.Sessions.{Session, Taken, option_taken, info_option, meta_option, is_go, begun, informed}
use Rattle.nbd_session.specs.Negotiating.{IsDealt, IsAnswered, told}
use Rattle.nbd_session.specs.declared.negotiating.Dealt.{Dealt}
use Rattle.nbd_session.proofs.Growing.{sends_on}

pub list_on : (option : ℕ) (exports : List ExportInfo) (i : ℕ) (x : ExportInfo) (out next all : List ℕ) → i < length exports → x ≡ get_or exports i x
    → next ≡ out ++ option_reply option server (counted_text x.name) → out ++ list_replies option (drop i exports) ≡ all → next ++ list_replies option (drop (i + 1) exports) ≡ all
list_on option exports i x out next all there is sent invariant =
    sends_on (list_replies option) (list_replies option) exports i x out (option_reply option server (counted_text x.name)) next all there is refl sent invariant

-- three replies, one after another
pub three : (out a b c x y z : List ℕ) → a ≡ out ++ x → b ≡ a ++ y → c ≡ b ++ z → c ≡ out ++ (x ++ y ++ z)
three out a b c x y z one two last = grind (arith, common_steps, append_assoc)

pub info_sent : (r : Result (Unit {0}) AllocError) (option : ℕ) (sizes : Bool) (e : ExportInfo) (content out a b c : List ℕ) → content ≡ export_info e → a ≡ out ++ option_reply option info content
    → b ≡ a ++ (if sizes then option_reply option info block_info else []) → OnOk r (c ≡ b ++ option_reply option ack []) → OnOk r (c ≡ out ++ info_replies option sizes e)
info_sent (Ok u) option sizes e content out a b c is one two last =
    three out a b c (option_reply option info (export_info e)) (if sizes then option_reply option info block_info else []) (option_reply option ack [])
    (one ∙ ap (λ l. out ++ option_reply option info l) is) two last
info_sent (Err u) option sizes e content out a b c is one two last = tt

-- ---- options

pub dealt_as : (r : Result Dealt AllocError) (T U : ℕ → Taken) (next : Session) (old new : List ℕ) → ((used : ℕ) → T used ≡ U used) → IfOk r (λ d. (used : ℕ) → IsDealt (T used) used next old new d)
    → IfOk r (λ d. (used : ℕ) → IsDealt (U used) used next old new d)
dealt_as (Ok d) T U next old new same dealt = λ used. let P : Taken → Type 0 = λ t. IsDealt t used next old new d in subst P (same used) (dealt used)
dealt_as (Err e) T U next old new same dealt = tt

pub taken_go : (used option : ℕ) (content : List ℕ) (exports : List ExportInfo) (s : Session) → (option ≡ 6) ⊎ ((option ≡ 6 → ⊥) × (option ≡ 7)) → info_option used option exports (info_of content) s ≡ option_taken used option content exports s
taken_go used option content exports s (inl is) = rw is refl
taken_go used option content exports s (inr is) = rw is.1 refl

pub taken_set : (used option : ℕ) (content : List ℕ) (exports : List ExportInfo) (s : Session) → (option ≡ 9) ⊎ ((option ≡ 9 → ⊥) × (option ≡ 10)) → meta_option used option exports (meta_of content) s ≡ option_taken used option content exports s
taken_set used option content exports s (inl is) = rw is refl
taken_set used option content exports s (inr is) = rw is.1 refl

pub told_is : (used option : ℕ) (content : List ℕ) (exports : List ExportInfo) (s : Session) (ask : MetaAsk) (e : ExportInfo) → meta_of content ≡ Some ask → export_of ask.name exports ≡ Some e
    → length ask.queries ≤ most_queries → s.structured ≡ true → told used option ask.queries e s ≡ meta_option used option exports (meta_of content) s
told_is used option content exports s ask e form known few structured = rw (form) (grind (arith, common_steps))

pub informs : (used option : ℕ) (content : List ℕ) (exports : List ExportInfo) (s next : Session) (ask : InfoAsk) (e : ExportInfo) (old new : List ℕ) → info_of content ≡ Some ask
    → export_of ask.name exports ≡ Some e → next ≡ (if is_go option then begun e.name s else s) → new ≡ old ++ info_replies option ask.sizes e
    → IsAnswered (info_option used option exports (info_of content) s) used next old new
informs used option content exports s next ask e old new form known is sent =
    record { sent = info_replies option ask.sizes e; is = ap (λ o. info_option used option exports o s) form ∙ ap (λ o. informed used option ask.sizes o s) known ∙ grind (arith, common_steps); added = sent }
