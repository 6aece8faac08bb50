-- Where messages end: bytes behind an end don't move it, and each end lies among the bytes that are there.
use Rattle.std.proofs.lemmas.Grind.{common_steps}
use Rattle.std.proofs.Common.{◌≡◌, ◌≢◌, ℕ, ◌+◌, ◌<◌, ◌≤◌, List, [], ◌∷◌, ◌++◌, length, true, refl, arith}
use Rattle.std.specs.Prelude.{Some, None, ◌==◌}
use Rattle.monitor_model.specs.Messages.{Scan, past, closed_after, before_feed, message_length, Cut, More, Message, TooLong, cut_from, cut_of}
use Rattle.monitor_model.specs.Laws.{CutsWithin}

-- ---- the end of an object

closed_on : (s : Scan) (a b : List ℕ) (n : ℕ) → closed_after s a ≡ Some n → closed_after s (a ++ b) ≡ Some n
closed_on s [] b n h = cc
closed_on s (x ∷ a) b n h = grind (arith, common_steps, closed_on (past s x) a b)

closed_within : (s : Scan) (a : List ℕ) (n : ℕ) → closed_after s a ≡ Some n → (1 ≤ n) × (n + 1 ≤ 1 + length a)
closed_within s [] n h = cc
closed_within s (x ∷ a) n h = grind (arith, common_steps, closed_within (past s x) a)

closed_late : (s : Scan) (a b : List ℕ) (n : ℕ) → closed_after s a ≡ None → closed_after s (a ++ b) ≡ Some n → 1 + length a ≤ n
closed_late s [] b n h e = (closed_within s b n e).0
closed_late s (x ∷ a) b n h e = grind (arith, common_steps, closed_late (past s x) a b)

-- ---- the line feed

feed_on : (a b : List ℕ) (n : ℕ) → before_feed a ≡ Some n → before_feed (a ++ b) ≡ Some n
feed_on [] b n h = cc
feed_on (x ∷ a) b n h = grind (arith, common_steps, feed_on a b)

feed_within : (a : List ℕ) (n : ℕ) → before_feed a ≡ Some n → (0 ≤ n) × (n + 1 ≤ 0 + length a)
feed_within [] n h = cc
feed_within (x ∷ a) n h = grind (arith, common_steps, feed_within a)

feed_late : (a b : List ℕ) (n : ℕ) → before_feed a ≡ None → before_feed (a ++ b) ≡ Some n → 0 + length a ≤ n
feed_late [] b n h e = omega arith
feed_late (x ∷ a) b n h e = grind (arith, common_steps, feed_late a b)

-- ---- the length of a message

length_on : (b : ℕ) (bytes more : List ℕ) (m : ℕ) → message_length b bytes ≡ Some m → message_length b (bytes ++ more) ≡ Some m
length_on b bytes more m h = grind (arith, common_steps, closed_on, feed_on)

length_late : (b : ℕ) (bytes more : List ℕ) (m : ℕ) → message_length b bytes ≡ None → message_length b (bytes ++ more) ≡ Some m
    → ((b == 123) ≡ true → length (b ∷ bytes) < m) × (length (b ∷ bytes) ≤ m)
length_late b bytes more m h e = grind (arith, common_steps, closed_late, feed_late)

-- ---- the cut

-- bytes that follow change no cut but a lack of bytes
pub from_on : (start : ℕ) (bytes more : List ℕ) → cut_from start bytes ≢ More → cut_from start (bytes ++ more) ≡ cut_from start bytes
from_on start [] more h = absurd (h refl)
from_on start (b ∷ bytes) more h = grind (arith, common_steps, from_on (start + 1) bytes more, length_on b bytes more, length_late b bytes more)

-- a message of so many bytes in all
abbrev Within : ℕ → Cut → Type 0
Within total More = Unit {0}
Within total (Message start end) = (start ≤ end) × (0 < end) × (end ≤ total)
Within total TooLong = Unit {0}

from_within : (start total : ℕ) (bytes : List ℕ) → start + length bytes ≤ total → Within total (cut_from start bytes)
from_within start total [] fits = tt
from_within start total (b ∷ bytes) fits = grind (arith, common_steps, from_within (start + 1) total bytes, closed_within, feed_within)

cuts_within : (bytes : List ℕ) (c : Cut) → Within (length bytes) c → CutsWithin bytes c
cuts_within bytes c h = grind (arith, common_steps)

pub of_within : (bytes : List ℕ) → CutsWithin bytes (cut_of bytes)
of_within bytes = cuts_within bytes (cut_of bytes) (from_within 0 (length bytes) bytes (omega arith))
