-- The laws of a stream to the monitor, as statements.
use Rattle.std.specs.Prelude.{◌≡◌, ◌≢◌, ℕ, ◌<◌, ◌≤◌, List, ◌++◌, length}
use Rattle.monitor_model.specs.Messages.{Cut, More, Message, TooLong, cut_of}

-- where the first message ends doesn't depend on the bytes that follow it: so a stream may be cut anywhere
abbrev pub MessagesEndAlike : Type 0
MessagesEndAlike = (bytes more : List ℕ) → cut_of bytes ≢ More → cut_of (bytes ++ more) ≡ cut_of bytes

-- a message ends among the bytes that are there, and behind one of them at least
pub record EndsWithin (start end : ℕ) (bytes : List ℕ) : Type 0 where
  pub order : start ≤ end
  pub some : 0 < end
  pub within : end ≤ length bytes

abbrev pub CutsWithin : List ℕ → Cut → Type 0
CutsWithin bytes More = Unit {0}
CutsWithin bytes (Message start end) = EndsWithin start end bytes
CutsWithin bytes TooLong = Unit {0}

abbrev pub MessagesEndWithin : Type 0
MessagesEndWithin = (bytes : List ℕ) → CutsWithin bytes (cut_of bytes)
