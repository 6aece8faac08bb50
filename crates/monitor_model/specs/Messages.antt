-- The messages of a stream to the monitor: where each begins and ends.
use Rattle.std.specs.Prelude.{ℕ, ◌+◌, ◌-◌, ◌^◌, List, [], ◌∷◌, length, Bool, true, false, ◌||◌, ◌==◌, nat_le, nat_lt, Option, Some, None, option_map, if◌then◌else◌}

-- space, tab, CR and LF stand between messages
abbrev pub is_between : ℕ → Bool
is_between b = (b == 32) || ((b == 9) || ((b == 13) || (b == 10)))

-- how many braces and brackets are open, whether a string is open, and whether a backslash stands before
pub record Scan : Type 0 where
  pub depth : ℕ
  pub in_string : Bool
  pub escaped : Bool

abbrev pub opens : ℕ → Bool
opens b = (b == 123) || (b == 91)

abbrev pub closes : ℕ → Bool
closes b = (b == 125) || (b == 93)

-- past one byte within a string
abbrev pub in_text : Scan → ℕ → Scan
in_text s b =
    if s.escaped then record s { escaped = false }
    else if b == 92 then record s { escaped = true }
    else if b == 34 then record s { in_string = false }
    else s

-- past one byte outside of strings
abbrev pub outside : Scan → ℕ → Scan
outside s b =
    if b == 34 then record s { in_string = true }
    else if opens b then record s { depth = s.depth + 1 }
    else if closes b then record s { depth = s.depth - 1 }
    else s

abbrev pub past : Scan → ℕ → Scan
past s b = if s.in_string then in_text s b else outside s b

-- after how many of these bytes the depth comes to 0
abbrev pub closed_after : Scan → List ℕ → Option ℕ
closed_after s [] = None
closed_after s (b ∷ bytes) = if (past s b).depth == 0 then Some 1 else option_map (λ n. n + 1) (closed_after (past s b) bytes)

-- how many of these bytes stand before the first line feed
abbrev pub before_feed : List ℕ → Option ℕ
before_feed [] = None
before_feed (b ∷ bytes) = if b == 10 then Some 0 else option_map (λ n. n + 1) (before_feed bytes)

-- how many bytes the message has that begins with this one: an object ends with its closing brace, anything else before a line feed
abbrev pub message_length : ℕ → List ℕ → Option ℕ
message_length b bytes = if b == 123 then closed_after (record { depth = 0; in_string = false; escaped = false }) (b ∷ bytes) else before_feed (b ∷ bytes)

pub data Cut : Type 0 where
  -- the bytes are no whole message
  More : Cut
  -- a message stands from byte `start` to before byte `end`
  Message : (start end : ℕ) → Cut
  TooLong : Cut

-- a stream may go on for so many bytes without an end of its message
abbrev pub longest_message : ℕ
longest_message = 2 ^ 20

-- the end is seen among so many bytes: that of an object with its last byte, any other with the line feed behind it
abbrev pub is_seen : ℕ → ℕ → Bool
is_seen b n = if b == 123 then nat_le n longest_message else nat_lt n longest_message

abbrev pub cut_at : ℕ → ℕ → Option ℕ → ℕ → Cut
cut_at b start (Some n) left = if is_seen b n then Message start (start + n) else TooLong
cut_at b start None left = if nat_le longest_message left then TooLong else More

abbrev pub cut_from : ℕ → List ℕ → Cut
cut_from start [] = More
cut_from start (b ∷ bytes) = if is_between b then cut_from (start + 1) bytes else cut_at b start (message_length b bytes) (length (b ∷ bytes))

-- the first message of these bytes
abbrev pub cut_of : List ℕ → Cut
cut_of bytes = cut_from 0 bytes
