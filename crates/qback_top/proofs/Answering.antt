-- One order carried out on an image and answered, from what the calls on the way tell.
use Rattle.std.proofs.Common.{◌≡◌, inl, inr, ℕ, ◌+◌, ◌≤◌, Bool, true, false, List, ◌++◌, length, IsTrue, refl, sym, ap, subst, ◌∙◌}
use Rattle.disk_model.specs.Files.{overlay, reading}
use Rattle.disk_model.specs.World.{World, Runs, only_file, only_text, PrintsPart, EachNow}
use Rattle.disk_model.proofs.Moments.{now_spared, stay}
use Rattle.qc_layout.specs.FirstForm.{disk_of, disk_size}
use Rattle.qback_top.specs.Orders.{Order, Write, Read, Sync, Say, fits, printed_by, disk_by, invalid_line}
use Rattle.plain_model.specs.Console.{data_line, ok_line}
use Rattle.qback_top.specs.declared.image.Image.{Image}
use Rattle.qback_top.specs.Open.{IsOpen, Spares, Between, KeepsRest}
use Rattle.qback_top.specs.Lines.{Answered, Begun}
use Rattle.qback_top.proofs.Disk.{length-disk_of}
use Rattle.qback_top.proofs.OrderLaws.{fits_inside, length-disk_by}
use Rattle.qback_top.proofs.Tables.{keeps_none, spares_none}
use Rattle.qback_top.proofs.Torn.{between_first, between_second}
use Rattle.qback_top.proofs.Saying.{text_same, part_none, part_after, said_after}

-- ---- an order and the range that it names

-- a range that was tested lies in the disk
range_inside : {image : Image} {file : List ℕ} {b : Bool} (at n : ℕ) → IsOpen image file → b ≡ fits image.size at n → b ≡ true → at + n ≤ disk_size file
range_inside {image} at n opened test held = subst (λ (k : ℕ). at + n ≤ k) opened.size (fits_inside image.size at n (sym test ∙ held))

-- what the test says of the image's size, it says of the disk's
test_of : {image : Image} {file : List ℕ} {b : Bool} (at n : ℕ) → IsOpen image file → b ≡ fits image.size at n → fits (length (disk_of file)) at n ≡ b
test_of {image} {file} at n opened test = ap (λ (k : ℕ). fits k at n) (length-disk_of file ∙ sym opened.size) ∙ sym test

-- an order on this disk has this answer, and leaves that disk
pub record Tells (disk : List ℕ) (o : Order) (text after : List ℕ) : Type 0 where
  pub answer : printed_by disk o ≡ text
  pub left : disk_by disk o ≡ after

pub say_tells : {o : Order} {text : List ℕ} (disk : List ℕ) → o ≡ Say text → Tells disk o text disk
say_tells disk is = record { answer = rw is refl; left = rw is refl }

pub sync_tells : (disk : List ℕ) → Tells disk Sync ok_line disk
sync_tells disk = record { answer = refl; left = refl }

-- a read outside of the disk
pub read_refused : {image : Image} {file : List ℕ} {b : Bool} (at n : ℕ) → IsOpen image file → b ≡ fits image.size at n → b ≡ false → Tells (disk_of file) (Read at n) invalid_line (disk_of file)
read_refused {image} {file} {b} at n opened test failed =
    let f : fits (length (disk_of file)) at n ≡ false = test_of at n opened test ∙ failed in
    record { answer = rw f refl; left = refl }

-- the text that is said tells the bytes that were read
pub read_done : {image : Image} {file : List ℕ} {b : Bool} (at n : ℕ) (bytes text : List ℕ) → IsOpen image file → b ≡ fits image.size at n → b ≡ true
    → (at + n ≤ disk_size file → bytes ≡ reading (disk_of file) at n) → text ≡ data_line bytes → Tells (disk_of file) (Read at n) text (disk_of file)
read_done {image} {file} {b} at n bytes text opened test held read said =
    let f : fits (length (disk_of file)) at n ≡ true = test_of at n opened test ∙ held in
    let whole : text ≡ data_line (reading (disk_of file) at n) = said ∙ ap data_line (read (range_inside at n opened test held)) in
    record { answer = rw f (sym whole); left = refl }

-- a write outside of the disk
pub write_refused : {image : Image} {file : List ℕ} {b : Bool} (at n : ℕ) (bytes : List ℕ) → n ≡ length bytes → IsOpen image file → b ≡ fits image.size at n → b ≡ false → Tells (disk_of file) (Write at bytes) invalid_line (disk_of file)
write_refused {image} {file} {b} at n bytes count opened test failed =
    let f : fits (length (disk_of file)) at (length bytes) ≡ false = ap (fits (length (disk_of file)) at) (sym count) ∙ test_of at n opened test ∙ failed in
    record { answer = rw f refl; left = rw f refl }

-- a write within it
pub write_done : {image : Image} {file : List ℕ} {b : Bool} (at n : ℕ) (bytes : List ℕ) → n ≡ length bytes → IsOpen image file → b ≡ fits image.size at n → b ≡ true
    → (at + length bytes ≤ disk_size file) × Tells (disk_of file) (Write at bytes) ok_line (overlay (disk_of file) at bytes)
write_done {image} {file} {b} at n bytes count opened test held =
    let f : fits (length (disk_of file)) at (length bytes) ≡ true = ap (fits (length (disk_of file)) at) (sym count) ∙ test_of at n opened test ∙ held in
    (rw (← count) (range_inside at n opened test held), record { answer = rw f refl; left = rw f refl })

-- ---- orders that were answered

-- calls on file f, and then a print, carried out an order that has this answer and leaves that disk
pub record Did (old mid new : World) (f : ℕ) (o : Order) (text after : List ℕ) : Type 0 where
  pub tells : Tells (disk_of (old.seen f)) o text after
  pub run : Runs (only_file f) old mid
  pub print : Runs only_text mid new

pub did : {old mid new : World} {f : ℕ} {o : Order} {text after : List ℕ} → Tells (disk_of (old.seen f)) o text after → Runs (only_file f) old mid → Runs only_text mid new → Did old mid new f o text after
did tells run print = record { tells = tells; run = run; print = print }

module _ {old mid new : World} {f : ℕ} {o : Order} {text after : List ℕ} (d : Did old mid new f o text after) where
  -- what was synced before the print is synced after it
  synced_on : EachNow mid f (λ c. c ≡ mid.seen f) → EachNow new f (λ c. c ≡ new.seen f)
  synced_on synced = subst (λ (file : List ℕ). EachNow new f (λ c. c ≡ file)) (sym (text_same f d.print)) (now_spared f (λ c. c ≡ mid.seen f) d.print (λ none. none) synced)

  -- the file has that disk, and the answer was printed
  pub answered : {image : Image} → IsOpen image (mid.seen f) × (disk_of (mid.seen f) ≡ after) × KeepsRest (old.seen f) (mid.seen f) → (o ≡ Sync → EachNow mid f (λ c. c ≡ mid.seen f))
      → (IsTrue mid.prints → new.printed ≡ mid.printed ++ text) → Answered old new image f o
  answered {image} wrote synced said =
      let same = text_same f d.print in
      record {
        opened = subst (IsOpen image) (sym same) wrote.0;
        disk = ap disk_of same ∙ wrote.1 ∙ sym d.tells.left;
        keeps = subst (KeepsRest (old.seen f)) (sym same) wrote.2;
        printed = λ prints. said_after new text d.run (λ none. none) said prints ∙ ap (λ (t : List ℕ). old.printed ++ t) (sym d.tells.answer);
        synced = λ is. synced_on (synced is);
      }

  -- the order was carried out, and a part of the answer was printed
  pub begun : Spares (old.seen f) (mid.seen f) → disk_of (mid.seen f) ≡ after → PrintsPart text mid new → Begun old new f o
  begun spares left part = record {
    spares = subst (Spares (old.seen f)) (sym (text_same f d.print)) spares;
    disk = between_second (disk_of (old.seen f)) (disk_by (disk_of (old.seen f)) o) (disk_of (new.seen f)) (length-disk_by (disk_of (old.seen f)) o) (ap disk_of (text_same f d.print) ∙ left ∙ sym d.tells.left);
    printed = subst (λ (t : List ℕ). PrintsPart t old new) (sym d.tells.answer) (part_after new text d.run (λ none. none) part);
    first = λ prints. inr (ap disk_of (text_same f d.print) ∙ left ∙ sym d.tells.left);
  }

-- the same where the calls left the file as it was
module _ {old mid new : World} {f : ℕ} {o : Order} {text : List ℕ} (d : Did old mid new f o text (disk_of (old.seen f))) (same : mid.seen f ≡ old.seen f) where
  pub answered_same : {image : Image} → IsOpen image (old.seen f) → (o ≡ Sync → EachNow mid f (λ c. c ≡ mid.seen f)) → (IsTrue mid.prints → new.printed ≡ mid.printed ++ text) → Answered old new image f o
  answered_same {image} opened = answered d (subst (IsOpen image) (sym same) opened, ap disk_of same, subst (KeepsRest (old.seen f)) (sym same) (keeps_none (old.seen f)))

  pub begun_same : PrintsPart text mid new → Begun old new f o
  begun_same = begun d (subst (Spares (old.seen f)) (sym same) (spares_none (old.seen f))) (ap disk_of same)

-- nothing was done but a print
module _ {old new : World} {f : ℕ} {o : Order} {text : List ℕ} (tells : Tells (disk_of (old.seen f)) o text (disk_of (old.seen f))) (print : Runs only_text old new) where
  said_alone : Did old old new f o text (disk_of (old.seen f))
  said_alone = did tells (stay (only_file f) old) print

  pub answered_said : {image : Image} → IsOpen image (old.seen f) → (o ≡ Sync → ⊥) → (IsTrue old.prints → new.printed ≡ old.printed ++ text) → Answered old new image f o
  answered_said opened other printed = answered_same said_alone refl opened (λ is. absurd (other is)) printed

  pub begun_said : PrintsPart text old new → Begun old new f o
  begun_said part = begun_same said_alone refl part

-- these orders sync nothing
pub write_no_sync : {at : ℕ} {bytes : List ℕ} → Write at bytes ≡ Sync → ⊥
write_no_sync e = absurd cc

pub read_no_sync : {at n : ℕ} → Read at n ≡ Sync → ⊥
read_no_sync e = absurd cc

pub say_no_sync : {o : Order} {text : List ℕ} → o ≡ Say text → o ≡ Sync → ⊥
say_no_sync is e = absurd cc

-- ---- orders that were not answered

-- nothing of the order was done
pub begun_none : (old new : World) (f : ℕ) (o : Order) → new.seen f ≡ old.seen f → new.printed ≡ old.printed → Begun old new f o
begun_none old new f o same silent = record {
  spares = subst (Spares (old.seen f)) (sym same) (spares_none (old.seen f));
  disk = between_first (disk_of (old.seen f)) (disk_by (disk_of (old.seen f)) o) (disk_of (new.seen f)) (ap disk_of same);
  printed = part_none (printed_by (disk_of (old.seen f)) o) old new silent;
  first = λ prints. inl silent;
}

-- a write was done in part
pub begun_part : {old new : World} {f : ℕ} {o : Order} {text after : List ℕ} → Tells (disk_of (old.seen f)) o text after → Runs (only_file f) old new → Spares (old.seen f) (new.seen f) → Between (disk_of (old.seen f)) after (disk_of (new.seen f)) → Begun old new f o
begun_part {old} {new} {f} {o} tells run spares between = record {
  spares = spares;
  disk = subst (λ (disk : List ℕ). Between (disk_of (old.seen f)) disk (disk_of (new.seen f))) (sym tells.left) between;
  printed = part_none (printed_by (disk_of (old.seen f)) o) old new ((run.text (λ none. none)).printed);
  first = λ prints. inl ((run.text (λ none. none)).printed);
}
