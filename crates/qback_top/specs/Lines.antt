-- What carrying out a script's lines does, where files are told.
use Rattle.std.specs.Prelude.{◌≡◌, ◌⊎◌, ℕ, ◌+◌, ◌≤◌, ◌++◌, List, length, take, IsTrue}
use Rattle.disk_model.specs.World.{World, EachNow, PrintsPart}
use Rattle.qc_layout.specs.FirstForm.{IsFirstForm, disk_of}
use Rattle.qback_top.specs.Orders.{Order, Sync, printed_by, disk_by, until_end, closes, end_line, answers_from, carried_from, printed_from, disk_from}
use Rattle.qback_top.specs.declared.image.Image.{Image}
use Rattle.qback_top.specs.Open.{IsOpen, Spares, Between, KeepsRest}

-- one order was carried out on file f, and answered; after a sync each crash leaves the file as reads give it
pub record Answered (old new : World) (after : Image) (f : ℕ) (order : Order) : Type 0 where
  pub opened : IsOpen after (new.seen f)
  pub disk : disk_of (new.seen f) ≡ disk_by (disk_of (old.seen f)) order
  pub keeps : KeepsRest (old.seen f) (new.seen f)
  pub printed : IsTrue old.prints → new.printed ≡ old.printed ++ printed_by (disk_of (old.seen f)) order
  pub synced : order ≡ Sync → EachNow new f (λ c. c ≡ new.seen f)

-- One order was begun on file f, and perhaps carried out: each byte of the disk is as before or as the order leaves it, no other
-- byte changed, and a part of its answer was printed.
pub record Begun (old new : World) (f : ℕ) (order : Order) : Type 0 where
  pub spares : Spares (old.seen f) (new.seen f)
  pub disk : Between (disk_of (old.seen f)) (disk_by (disk_of (old.seen f)) order) (disk_of (new.seen f))
  pub printed : PrintsPart (printed_by (disk_of (old.seen f)) order) old new
  -- nothing of the answer was printed before the order was carried out
  pub first : IsTrue old.prints → (new.printed ≡ old.printed) ⊎ (disk_of (new.seen f) ≡ disk_by (disk_of (old.seen f)) order)

-- file f was closed, where the run ends by a closing: each crash leaves it as reads give it
abbrev pub IsClosed : List Order → ℕ → World → Type 0
IsClosed orders f w = IsTrue (closes orders) → EachNow w f (λ c. c ≡ w.seen f)

-- these orders were carried out on file f and answered, up to one that ends the run, and the run was ended
pub record RanLines (old new : World) (f : ℕ) (orders : List Order) : Type 0 where
  pub form : IsFirstForm (new.seen f)
  pub disk : disk_of (new.seen f) ≡ disk_from (disk_of (old.seen f)) orders
  pub keeps : KeepsRest (old.seen f) (new.seen f)
  pub printed : IsTrue old.prints → new.printed ≡ old.printed ++ printed_from (disk_of (old.seen f)) orders
  pub closed : IsClosed orders f new

-- A part of this text was printed, from its start on: no byte of its end, which answers the end of the run, unless file f was closed.
abbrev pub PrintsUntilClosed : List Order → List ℕ → ℕ → World → World → Type 0
PrintsUntilClosed orders text f old new = IsTrue old.prints → (n : ℕ) × (new.printed ≡ old.printed ++ take n text) × ((n + length (end_line orders) ≤ length text) ⊎ IsClosed orders f new)

-- From this disk on the first k of the orders before the end were carried out, and perhaps one more was begun: each byte of the disk
-- is as those or as that leaves it. The answers to those were printed, no more before that one was carried out, and no more than its
-- answer unless file f was closed.
pub record Reached (from : List ℕ) (orders : List Order) (k f : ℕ) (old new : World) : Type 0 where
  pub disk : Between (carried_from from (take k (until_end orders))) (carried_from from (take (k + 1) (until_end orders))) (disk_of (new.seen f))
  pub printed : IsTrue old.prints → (n : ℕ) × (new.printed ≡ old.printed ++ take n (printed_from from orders))
      × (length (answers_from from (take k (until_end orders))) ≤ n)
      × ((n ≡ length (answers_from from (take k (until_end orders)))) ⊎ (disk_of (new.seen f) ≡ carried_from from (take (k + 1) (until_end orders))))
      × ((n ≤ length (answers_from from (take (k + 1) (until_end orders)))) ⊎ IsClosed orders f new)

-- some of these orders were carried out
pub record BegunLines (old new : World) (f : ℕ) (orders : List Order) : Type 0 where
  pub spares : Spares (old.seen f) (new.seen f)
  pub reached : (k : ℕ) × Reached (disk_of (old.seen f)) orders k f old new
  pub printed : PrintsUntilClosed orders (printed_from (disk_of (old.seen f)) orders) f old new
