-- The negotiation: what an option asks, and what it is answered (NBD protocol, "Option types").
use Rattle.std.specs.Prelude.{ℕ, zero, suc, ◌+◌, ◌-◌, ◌*◌, List, [], ◌∷◌, ◌++◌, take, drop, length, map, filter, find, Bool, true, false, not, ◌&&◌, ◌||◌, ◌==◌, nat_lt, nat_le, nat_eq, Option, Some, None, is_some, option_map, option_and_then, if◌then◌else◌, codes, bytes_eq}
use Rattle.std.specs.List.{list_any, starts_with}
use Rattle.core_events.specs.declared.commands.SourceName.{SourceName}
use Rattle.core_events.specs.declared.infos.ExportInfo.{ExportInfo}
use Rattle.nbd_model.specs.Numbers.{be16, be32, be64, u16_at, u32_at, option_reply_magic, ack, server, info, meta_context, err_invalid, err_unknown, err_too_big}

-- ---- replies

abbrev pub option_reply : ℕ → ℕ → List ℕ → List ℕ
option_reply option kind content = option_reply_magic ++ be32 option ++ be32 kind ++ be32 (length content) ++ content

-- an error's reply has no content
abbrev pub option_error : ℕ → ℕ → List ℕ
option_error option kind = option_reply option kind []

-- a text with its length before it
abbrev pub counted_text : List ℕ → List ℕ
counted_text text = be32 (length text) ++ text

-- ---- exports

abbrev pub export_of : List ℕ → List ExportInfo → Option ExportInfo
export_of name exports = find (λ (e : ExportInfo). bytes_eq name e.name) exports

-- flags, flush, FUA and zeroes on one that may be written; flags, read only and flush on any other
abbrev pub transmission_flags : ExportInfo → ℕ
transmission_flags e = if e.writable then 77 else 7

abbrev pub size_and_flags : ExportInfo → List ℕ
size_and_flags e = be64 e.size ++ be16 (transmission_flags e)

-- a name once, at its first place
abbrev pub once_each : List (List ℕ) → List (List ℕ)
once_each [] = []
once_each (name ∷ names) = name ∷ filter (λ other. not (bytes_eq name other)) (once_each names)

-- the contexts of an export: how it is stored, and then one for each of its bitmaps, in their order, a repeated one at its first place
abbrev pub bitmap_context : SourceName → List ℕ
bitmap_context s = codes "qemu:dirty-bitmap:" ++ s.name

abbrev pub contexts_of : ExportInfo → List (List ℕ)
contexts_of e = once_each (codes "base:allocation" ∷ map bitmap_context e.contexts)

abbrev pub list_replies : ℕ → List ExportInfo → List ℕ
list_replies option [] = option_reply option ack []
list_replies option (e ∷ exports) = option_reply option server (counted_text e.name) ++ list_replies option exports

-- ---- contents

-- a text with its length before it, and what follows
pub record Cut : Type 0 where
  pub text : List ℕ
  pub rest : List ℕ

abbrev pub cut_text : List ℕ → Option Cut
cut_text bytes =
    if nat_le 4 (length bytes) && nat_le (u32_at bytes 0) (length bytes - 4) then
    Some (record { text = take (u32_at bytes 0) (drop 4 bytes); rest = drop (4 + u32_at bytes 0) bytes })
    else None

-- INFO and GO: a name, and the kinds of information that are asked
pub record InfoAsk : Type 0 where
  pub name : List ℕ
  pub sizes : Bool

-- the kind of sizes of blocks is 3
abbrev pub asks_kind : ℕ → List ℕ → Bool
asks_kind kind (a ∷ b ∷ rest) = (a * 256 + b == kind) || asks_kind kind rest
asks_kind kind (a ∷ []) = false
asks_kind kind [] = false

abbrev pub info_from : Cut → Option InfoAsk
info_from c =
    if nat_le 2 (length c.rest) && (length c.rest == 2 + 2 * u16_at c.rest 0) then
    Some (record { name = c.text; sizes = asks_kind 3 (drop 2 c.rest) })
    else None

abbrev pub info_of : List ℕ → Option InfoAsk
info_of content = option_and_then info_from (cut_text content)

-- LIST_META_CONTEXT and SET_META_CONTEXT: an export's name, and queries
pub record MetaAsk : Type 0 where
  pub name : List ℕ
  pub queries : List (List ℕ)

-- so many texts, and nothing behind them
abbrev pub texts_of : ℕ → List ℕ → Option (List (List ℕ))
texts_of zero [] = Some []
texts_of zero (b ∷ bytes) = None
texts_of (suc n) bytes = option_and_then (λ (c : Cut). option_map (λ texts. c.text ∷ texts) (texts_of n c.rest)) (cut_text bytes)

abbrev pub meta_from : Cut → Option MetaAsk
meta_from c =
    if nat_le 4 (length c.rest) then option_map (λ queries. record { name = c.text; queries = queries }) (texts_of (u32_at c.rest 0) (drop 4 c.rest)) else None

abbrev pub meta_of : List ℕ → Option MetaAsk
meta_of content = option_and_then meta_from (cut_text content)

-- ---- information

abbrev pub export_info : ExportInfo → List ℕ
export_info e = be16 0 ++ size_and_flags e

-- sizes of blocks: least, preferred and greatest
abbrev pub block_info : List ℕ
block_info = be16 3 ++ be32 1 ++ be32 4096 ++ be32 33554432

abbrev pub info_replies : ℕ → Bool → ExportInfo → List ℕ
info_replies option sizes e =
    option_reply option info (export_info e) ++ (if sizes then option_reply option info block_info else []) ++ option_reply option ack []

-- ---- contexts

-- how many queries one option may have
abbrev pub most_queries : ℕ
most_queries = 16

abbrev pub context_reply : ℕ → ℕ → List ℕ → List ℕ
context_reply option id name = option_reply option meta_context (be32 id ++ name)

-- a namespace, or the front of bitmaps' contexts, as a query
abbrev pub is_namespace : List ℕ → Bool
is_namespace query = bytes_eq query (codes "base:") || (bytes_eq query (codes "qemu:") || bytes_eq query (codes "qemu:dirty-bitmap:"))

-- the query answers the context: it is the whole name, or a namespace in front of it
abbrev pub answers : List ℕ → List ℕ → Bool
answers context query = bytes_eq query context || (is_namespace query && starts_with nat_eq context query)

-- without queries all contexts are listed, else each that some query answers
abbrev pub is_listed : List (List ℕ) → List ℕ → Bool
is_listed [] context = true
is_listed (q ∷ queries) context = list_any (answers context) (q ∷ queries)

abbrev pub listed_replies : ℕ → List (List ℕ) → List ℕ
listed_replies option [] = option_reply option ack []
listed_replies option (name ∷ names) = context_reply option 0 name ++ listed_replies option names

-- those that are whole names of contexts, each once, in the order of the queries
abbrev pub selected_by : List (List ℕ) → ExportInfo → List (List ℕ)
selected_by queries e = once_each (filter (λ query. list_any (bytes_eq query) (contexts_of e)) queries)

-- selected contexts are numbered from 1
abbrev pub selected_replies : ℕ → ℕ → List (List ℕ) → List ℕ
selected_replies option id [] = option_reply option ack []
selected_replies option id (name ∷ names) = context_reply option id name ++ selected_replies option (id + 1) names

-- why contexts aren't listed or selected: without structured replies, in a bad form, for an unknown export, or by too many queries
abbrev pub meta_fault : Bool → List ExportInfo → Option MetaAsk → Option ℕ
meta_fault false exports ask = Some err_invalid
meta_fault true exports None = Some err_invalid
meta_fault true exports (Some ask) = if is_some (export_of ask.name exports) then (if nat_lt most_queries (length ask.queries) then Some err_too_big else None) else Some err_unknown
