-- The heads of options and requests, and what the first bytes of a stream are read as (NBD protocol, "Fixed newstyle negotiation", "Request message").
use Rattle.std.specs.Prelude.{ℕ, List, take, length, nat_lt, if◌then◌else◌, bytes_eq}
use Rattle.nbd_model.specs.Numbers.{u32_at, option_magic, request_magic}
use Rattle.nbd_model.specs.Requests.{Head, head_of, head_length}
use Rattle.nbd_codec.specs.declared.heads.Parsed.{Parsed}
use Rattle.nbd_codec.specs.declared.heads.Parsed.TheVariants.{More, Got, WrongMagic}
use Rattle.nbd_codec.specs.declared.heads.OptionHead.{OptionHead}
use Rattle.nbd_codec.specs.declared.heads.RequestHead.{RequestHead}

-- a head of this length, once it is whole and has this magic
abbrev pub parsed_by : {H : Type 0} → List ℕ → ℕ → H → List ℕ → Parsed H
parsed_by magic size head bytes =
    if nat_lt (length bytes) size then More else if bytes_eq (take (length magic) bytes) magic then Got head size else WrongMagic

abbrev pub parsed_option : List ℕ → Parsed OptionHead
parsed_option bytes = parsed_by option_magic 16 (record { number = u32_at bytes 8; length = u32_at bytes 12 }) bytes

-- the head of the code, as `nbd_model` has it
abbrev pub coded_head : Head → RequestHead
coded_head h = record { flags = h.flags; kind = h.kind; cookie = h.cookie; offset = h.offset; length = h.length }

abbrev pub parsed_request : List ℕ → Parsed RequestHead
parsed_request bytes = parsed_by request_magic head_length (coded_head (head_of bytes)) bytes
