-- How a message begins.
use Rattle.std.proofs.Common.{◌≡◌, ℕ, ◌≤◌, ◌<◌, List, [], ◌++◌, length, take, drop, Bool, true, false, refl, arith, sym, ap, ◌∙◌, subst}
use Rattle.std.proofs.lemmas.Grind.{common_steps}
use Rattle.std.proofs.lemmas.Bool.{ltb-false}
use Rattle.std.proofs.lemmas.List.{take-append-drop}
use Rattle.std.specs.Prelude.{nat_lt, ◌==◌, ◌||◌, bytes_eq, if◌then◌else◌}
use Rattle.core_events.specs.declared.infos.ExportInfo.{ExportInfo}
use Rattle.nbd_model.specs.Numbers.{u32_at, option_magic, request_magic, longest_option, longest_skipped, longest_data}
use Rattle.nbd_model.specs.Requests.{Head, head_of, head_length, bytes_behind, disc_kind, requests_of, is_refused}
use Rattle.nbd_model.specs.Sessions.{Taken, More, HangsUp, whole_option, whole_request, by_magic, taken_in, taken_of}
use Rattle.nbd_codec.specs.declared.heads.Parsed.TheVariants as parsed
use Rattle.nbd_codec.specs.declared.heads.OptionHead.{OptionHead}
use Rattle.nbd_codec.specs.declared.heads.RequestHead.{RequestHead}
use Rattle.nbd_codec.specs.Heads.{parsed_by, parsed_option, parsed_request, coded_head}
use Rattle.nbd_session.specs.Parts.{plain_agreed, plain_phase, plain_head}
use Rattle.nbd_session.specs.Reading.{Opens, opened_option, opened_request}
use Rattle.nbd_session.specs.declared.agreed.Agreed.{Agreed}
use Rattle.nbd_session.specs.declared.agreed.Phase.{Phase}
use Rattle.nbd_session.specs.declared.agreed.Phase.TheVariants.{Haggling, Transmitting}
use Rattle.nbd_session.specs.declared.asking.Opened.TheVariants.{HangsUp as Hangs, Reads}
use Rattle.nbd_session.specs.declared.session.Reading.TheVariants as reading
use Rattle.nbd_session.proofs.Heads.{option_by, option_reads, request_by, request_reads}

pub taken_option : (exports : List ExportInfo) (a : Agreed) (bytes : List ℕ) → a.phase ≡ Haggling → taken_of exports (plain_agreed a) bytes ≡ by_magic option_magic 16 bytes (whole_option bytes exports (plain_agreed a))
unfolding taken_of
taken_option exports a bytes is = ap (λ (p : Phase). taken_in (plain_phase p a.export) exports (plain_agreed a) bytes) is

pub taken_request : (exports : List ExportInfo) (a : Agreed) (bytes : List ℕ) → a.phase ≡ Transmitting
    → taken_of exports (plain_agreed a) bytes ≡ by_magic request_magic head_length bytes (whole_request bytes a.export (plain_agreed a))
unfolding taken_of
taken_request exports a bytes is = ap (λ (p : Phase). taken_in (plain_phase p a.export) exports (plain_agreed a) bytes) is

pub by_more : {H : Type 0} (magic : List ℕ) (size : ℕ) (head : H) (bytes : List ℕ) (x : Taken) → parsed_by magic size head bytes ≡ parsed.More → by_magic magic size bytes x ≡ More
by_more magic size head bytes x is = grind (arith, common_steps)

pub by_short : {H : Type 0} (magic : List ℕ) (size : ℕ) (head : H) (bytes : List ℕ) → parsed_by magic size head bytes ≡ parsed.More → size ≤ 28 → length bytes < 28
by_short magic size head bytes is most = grind (arith, common_steps)

pub by_wrong : {H : Type 0} (magic : List ℕ) (size : ℕ) (head : H) (bytes : List ℕ) (x : Taken) → parsed_by magic size head bytes ≡ parsed.WrongMagic → by_magic magic size bytes x ≡ HangsUp []
by_wrong magic size head bytes x is = grind (arith, common_steps)

record IsGot {H : Type 0} (magic : List ℕ) (size : ℕ) (head h : H) (bytes : List ℕ) : Type 0 where
  there : size ≤ length bytes
  magic_is : bytes_eq (take (length magic) bytes) magic ≡ true
  is : h ≡ head

by_got : {H : Type 0} (magic : List ℕ) (size : ℕ) (head h : H) (k : ℕ) (bytes : List ℕ) → parsed_by magic size head bytes ≡ parsed.Got h k → IsGot magic size head h bytes
by_got magic size head h k bytes is = record { there = grind (arith, common_steps); magic_is = grind (arith, common_steps); is = grind (arith, common_steps) }

whole_by : (exports : List ExportInfo) (a : Agreed) (bytes : List ℕ) (n : ℕ) (x : Taken) → taken_of exports (plain_agreed a) (take n bytes ++ drop n bytes) ≡ x → taken_of exports (plain_agreed a) bytes ≡ x
whole_by exports a bytes n x is = ap (taken_of exports (plain_agreed a)) (sym (take-append-drop n bytes)) ∙ is

option_begun : (exports : List ExportInfo) (a : Agreed) (bytes : List ℕ) (size number : ℕ) (b d : Bool) → nat_lt longest_skipped size ≡ b → nat_lt longest_option size ≡ d → 16 ≤ length bytes
    → ((rest : List ℕ) → taken_of exports (plain_agreed a) (take 16 bytes ++ rest) ≡ option_by size number rest exports (plain_agreed a))
    → Opens (if b then Hangs else if d then Reads (reading.LongOption number size) 16 else Reads (reading.Content (record { number = number; length = size })) 16) exports a bytes
option_begun exports a bytes size number true d hung long there all = whole_by exports a bytes 16 _ (all (drop 16 bytes) ∙ rw hung refl)
option_begun exports a bytes size number false true hung long there all = record { some = omega arith; within = there; gives = λ rest. all rest ∙ rw (hung, long) refl; short = tt }
option_begun exports a bytes size number false false hung long there all =
    record { some = omega arith; within = there; gives = λ rest. all rest ∙ rw (hung, long) refl; short = ltb-false longest_option size long }

pub option_opens : (exports : List ExportInfo) (a : Agreed) (bytes : List ℕ) (head : OptionHead) (k : ℕ) → a.phase ≡ Haggling → parsed_option bytes ≡ parsed.Got head k → Opens (opened_option head) exports a bytes
option_opens exports a bytes head k phase is =
    let got = by_got option_magic 16 _ head k bytes is in
    let P : OptionHead → Type 0 = λ h. Opens (opened_option h) exports a bytes in
    subst P (sym got.is) (option_begun exports a bytes (u32_at bytes 12) (u32_at bytes 8) _ _ refl refl got.there
    (λ rest. taken_option exports a (take 16 bytes ++ rest) phase ∙ option_reads bytes rest exports (plain_agreed a) got.there got.magic_is))

unwritten : (export : List ℕ) (contexts : List (List ℕ)) (h : Head) (bytes : List ℕ) → nat_lt longest_data (bytes_behind h) ≡ true → requests_of export contexts h bytes ≡ requests_of export contexts h []
unwritten export contexts h bytes long = grind (arith, common_steps)

request_begun : (exports : List ExportInfo) (a : Agreed) (bytes : List ℕ) (head : RequestHead) (b d e : Bool) → (head.kind == disc_kind) ≡ b → is_refused a.selected (plain_head head) ≡ d
    → nat_lt longest_data (bytes_behind (plain_head head)) ≡ e → 28 ≤ length bytes
    → ((rest : List ℕ) → taken_of exports (plain_agreed a) (take 28 bytes ++ rest) ≡ request_by (plain_head head) rest a.export (plain_agreed a))
    → Opens (if b then Hangs else if d || e then Reads (reading.Skipped head (bytes_behind (plain_head head))) 28 else Reads (reading.Bytes head) 28) exports a bytes
request_begun exports a bytes head true d e hung refused long there all = whole_by exports a bytes 28 _ (all (drop 28 bytes) ∙ rw hung refl)
request_begun exports a bytes head false true e hung refused long there all = record { some = omega arith; within = there; gives = λ rest. all rest ∙ rw (hung, refused) refl; short = tt }
request_begun exports a bytes head false false true hung refused long there all =
    record {
      some = omega arith;
      within = there;
      gives = λ rest. all rest ∙ rw (hung, refused, unwritten a.export a.selected (plain_head head) (take (bytes_behind (plain_head head)) rest) long) refl;
      short = tt;
    }
request_begun exports a bytes head false false false hung refused long there all =
    record { some = omega arith; within = there; gives = λ rest. all rest ∙ rw (hung, refused) refl; short = (ltb-false longest_data _ long, refused) }

pub request_opens : (exports : List ExportInfo) (a : Agreed) (bytes : List ℕ) (head : RequestHead) (k : ℕ) → a.phase ≡ Transmitting → parsed_request bytes ≡ parsed.Got head k → Opens (opened_request a.selected head) exports a bytes
request_opens exports a bytes head k phase is =
    let got = by_got request_magic head_length (coded_head (head_of bytes)) head k bytes is in
    let same : plain_head head ≡ head_of bytes = ap plain_head got.is in
    request_begun exports a bytes head _ _ _ refl refl refl got.there
    (λ rest. taken_request exports a (take 28 bytes ++ rest) phase ∙ request_reads bytes rest a.export (plain_agreed a) got.there got.magic_is ∙ ap (λ h. request_by h rest a.export (plain_agreed a)) (sym same))
