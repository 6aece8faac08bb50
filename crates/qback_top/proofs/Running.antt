-- The lines of a script carried out one after another, from what each tells.
use Rattle.std.proofs.Common.{length-take, ◌≡◌, ◌⊎◌, inl, inr, ℕ, ◌+◌, ◌*◌, ◌^◌, ◌≤◌, length-append, List, [], ◌∷◌, ◌++◌, length, map, take, drop, append_assoc, true, false, IsTrue, Option, Some, refl, sym, ap, subst, ◌∙◌, arith}
use Rattle.std.specs.Option.{MatchOption}
use Rattle.std.proofs.lemmas.Bool.{cases_Bool}
use Rattle.std.proofs.Math.Seq.{take-append_seam, take-append-add}
use Rattle.std.proofs.lemmas.List.{append-nil, take-append-drop}
use Rattle.std.specs.Prelude.{bytes_eq}
use Rattle.disk_model.specs.World.{World, Parts, Runs, only_text, file_and_text, PrintsPart, Syncs, HasSynced, IsSound, EachNow}
use Rattle.disk_model.proofs.Moments.{now_synced, now_spared, rose_after}
use Rattle.qc_layout.specs.FirstForm.{IsFirstForm, disk_of}
use Rattle.core_events.specs.declared.events.Way.{Way}
use Rattle.core_events.specs.declared.events.Way.TheVariants.{Node, Export}
use Rattle.core_events.specs.declared.events.Work.{Work}
use Rattle.core_events.specs.declared.events.Work.TheVariants as work
use Rattle.script_model.specs.Words.{lines_of, without_return}
use Rattle.script_model.specs.Lines.{Line, Spells, HasNoForm, Say, drive}
use Rattle.script_model.proofs.Sayings.{one_line}
use Rattle.script_codec.specs.declared.lines.Line as declared
use Rattle.script_codec.specs.declared.lines.Line.TheVariants as code
use Rattle.script_codec.specs.Views.{plain_line}
use Rattle.qback_top.specs.Orders.{Order, Stop, Quit, drive_order, request_order, order_of, printed_by, disk_by, until_end, closes, end_line, answers_from, carried_from, printed_from, disk_from}
use Rattle.plain_model.specs.Console.{ok_line, stopped_line}
use Rattle.qback_top.specs.declared.image.Image.{Image}
use Rattle.qback_top.specs.declared.stop.Stop as reason
use Rattle.qback_top.specs.declared.stop.Stop.TheVariants.{Memory, Fault}
use Rattle.qback_top.specs.Stops.{Needs}
use Rattle.qback_top.specs.Open.{IsOpen, Spares, Between, KeepsRest}
use Rattle.qback_top.specs.Lines.{Answered, Begun, RanLines, BegunLines, IsClosed}
use Rattle.qback_top.proofs.OrderLaws.{GoesOn, goes_on, answers-append, carried-append, answers_none, answers_on, answers_one, carried_none, carried_one}
use Rattle.qback_top.proofs.Tables.{keeps_none, keeps_on, spares_on}
use Rattle.qback_top.proofs.Torn.{between_first}
use Rattle.qback_top.proofs.Saying.{text_same}

-- ---- the lines that are left

-- the first of these texts says this line, and the others follow
pub record IsLine (texts rest : List (List ℕ)) (l : Line) : Type 0 where
  pub raw : List ℕ
  pub text : List ℕ
  pub is : texts ≡ raw ∷ rest
  pub trim : text ≡ without_return raw
  pub spelled : Spells text l

-- what the first text says is the first line
pub first_line : {texts rest : List (List ℕ)} {l : Line} (lines : List Line) → IsLine texts rest l → Say texts lines → (more : List Line) × (lines ≡ l ∷ more) × Say rest more
first_line {texts} {rest} {l} lines line says = by_cases lines (subst (λ (ts : List (List ℕ)). Say ts lines) line.is says)
  where
    by_cases : (ls : List Line) → Say (line.raw ∷ rest) ls → (more : List Line) × (ls ≡ l ∷ more) × Say rest more
    by_cases [] s = absurd s
    by_cases (m ∷ ms) s = (ms, ap (λ (k : Line). k ∷ ms) (one_line (without_return line.raw) m l s.0 (subst (λ (t : List ℕ). Spells t l) line.trim line.spelled)), s.1)

-- past a line that has a form, the rest says something
pub says_on : {texts rest : List (List ℕ)} {l : Line} → IsLine texts rest l → (lines : List Line) × Say texts lines → (more : List Line) × Say rest more
says_on line says =
    let first = first_line says.0 line says.1 in
    (first.0, first.2)

-- what was found in a line's text
pub line_found : (found : Option declared.Line) (text : List ℕ) (l : declared.Line) → found ≡ Some l → MatchOption found (HasNoForm text) (λ x. Spells text (plain_line x)) → Spells text (plain_line l)
line_found found text l e m = subst (λ (o : Option declared.Line). MatchOption o (HasNoForm text) (λ x. Spells text (plain_line x))) e m

-- no texts say no lines
pub no_lines : (text : List ℕ) → text ≡ [] → (lines : List Line) → Say (lines_of text) lines → lines ≡ []
no_lines text e lines says = by_cases lines (subst (λ (t : List ℕ). Say (lines_of t) lines) e says)
  where
    by_cases : (ls : List Line) → Say [] ls → ls ≡ []
    by_cases [] s = refl
    by_cases (l ∷ ls) s = absurd s

-- ---- lines that don't end the run

drive_goes_on : (w : Work) (at n : ℕ) (bytes : List ℕ) → GoesOn (drive_order w at n bytes)
drive_goes_on work.Read at n bytes = goes_on _ (λ e. absurd cc) (λ e. absurd cc)
drive_goes_on (work.Write fua) at n bytes = goes_on _ (λ e. absurd cc) (λ e. absurd cc)
drive_goes_on (work.Zero fua no_hole) at n bytes = goes_on _ (λ e. absurd cc) (λ e. absurd cc)
drive_goes_on work.Flush at n bytes = goes_on _ (λ e. absurd cc) (λ e. absurd cc)
drive_goes_on (work.Status context one) at n bytes = goes_on _ (λ e. absurd cc) (λ e. absurd cc)

request_goes_on : (way : Way) (w : Work) (at n : ℕ) (bytes : List ℕ) → GoesOn (request_order way w at n bytes)
request_goes_on (Node name) w at n bytes = elim (cases_Bool (bytes_eq name drive)) [
  | inl e ↦ rw e (drive_goes_on w at n bytes)
  | inr e ↦ rw e (goes_on _ (λ f. absurd cc) (λ f. absurd cc))
]
request_goes_on (Export name) w at n bytes = goes_on _ (λ e. absurd cc) (λ e. absurd cc)

-- a line that neither stops nor quits doesn't end it
pub line_goes_on : (l : declared.Line) → (l ≡ code.Stop → ⊥) → (l ≡ code.Quit → ⊥) → GoesOn (order_of (plain_line l))
line_goes_on (code.Ask r) stop quit = request_goes_on r.way r.work r.offset r.length r.bytes.items.items
line_goes_on (code.Qmp json) stop quit = goes_on _ (λ e. absurd cc) (λ e. absurd cc)
line_goes_on code.Tick stop quit = goes_on _ (λ e. absurd cc) (λ e. absurd cc)
line_goes_on code.Stop stop quit = absurd (stop refl)
line_goes_on code.Quit stop quit = absurd (quit refl)
line_goes_on code.Nothing stop quit = goes_on _ (λ e. absurd cc) (λ e. absurd cc)

-- ---- the lines so far

-- these texts are left of those that say these orders, and the orders before them were carried out and answered
pub record RanSoFar (old now : World) (image : Image) (f : ℕ) (texts : List (List ℕ)) (all : List Order) : Type 0 where
  pub done : List Order
  pub left : List Line
  pub says : Say texts left
  pub parts : until_end all ≡ done ++ until_end (map order_of left)
  pub closing : closes all ≡ closes (map order_of left)
  pub opened : IsOpen image (now.seen f)
  pub keeps : KeepsRest (old.seen f) (now.seen f)
  pub disk : disk_of (now.seen f) ≡ carried_from (disk_of (old.seen f)) done
  pub printed : IsTrue old.prints → now.printed ≡ old.printed ++ answers_from (disk_of (old.seen f)) done

-- what is so of the lines so far: the image at the start and now, the text that is left and all of it
abbrev pub KeepsOn : World → World → Image → Image → List ℕ → List ℕ → Type 0
KeepsOn old now image after rest text = record {
  file : after.file ≡ image.file;
  size : after.size ≡ image.size;
  l1 : after.l1 ≡ image.l1;
  end : after.end + (2 ^ 22 + 16384) * length rest ≤ image.end + (2 ^ 22 + 16384) * length text;
  says : (lines : List Line) × Say (lines_of rest) lines;
  told : IsTrue old.tells → IsOpen image (old.seen image.file.0) → (lines : List Line) → Say (lines_of text) lines → RanSoFar old now after image.file.0 (lines_of rest) (map order_of lines);
  run : Runs (file_and_text image.file.0) old now;
}

-- at the start all of them are left
pub lines_begin : (w : World) (image : Image) (f : ℕ) (texts : List (List ℕ)) (lines : List Line) → IsOpen image (w.seen f) → Say texts lines → RanSoFar w w image f texts (map order_of lines)
lines_begin w image f texts lines opened says = record {
  done = [];
  left = lines;
  says = says;
  parts = refl;
  closing = refl;
  opened = opened;
  keeps = keeps_none (w.seen f);
  disk = sym (carried_none (disk_of (w.seen f)));
  printed = λ prints. sym (append-nil w.printed) ∙ ap (λ (t : List ℕ). w.printed ++ t) (sym (answers_none (disk_of (w.seen f))));
}

-- the orders that are left, where this line is the first
module _ {old now : World} {image : Image} {f : ℕ} {texts rest : List (List ℕ)} {l : Line} {all : List Order} (line : IsLine texts rest l) (r : RanSoFar old now image f texts all) where
  abbrev more : List Line
  more = (first_line r.left line r.says).0

  pub left_is : map order_of r.left ≡ order_of l ∷ map order_of more
  left_is = ap (map order_of) (first_line r.left line r.says).1

  until_is : GoesOn (order_of l) → until_end (map order_of r.left) ≡ order_of l ∷ until_end (map order_of more)
  until_is goes = ap until_end left_is ∙ goes.until (map order_of more)

-- a line that was answered is one more
pub lines_on : {parts : Parts} {old mid new : World} {image after : Image} {m f : ℕ} {texts rest : List (List ℕ)} {l : Line} {all : List Order} → IsLine texts rest l → GoesOn (order_of l) → m ≡ f → IsTrue old.tells → Runs parts old mid
    → RanSoFar old mid image f texts all → (IsTrue mid.tells → IsOpen image (mid.seen m) → Answered mid new after m (order_of l)) → RanSoFar old new after f rest all
lines_on {parts} {old} {mid} {new} {image} {after} {m} {f} {texts} {rest} {l} {all} line goes same told run r answered =
    let did : Answered mid new after f (order_of l) = subst (λ (k : ℕ). IsTrue mid.tells → IsOpen image (mid.seen k) → Answered mid new after k (order_of l)) same answered (subst IsTrue (sym run.goes.tells) told) r.opened in
    let start = disk_of (old.seen f) in
    let o = order_of l in
    record {
      done = r.done ++ o ∷ [];
      left = more line r;
      says = (first_line r.left line r.says).2;
      parts = r.parts ∙ ap (λ (os : List Order). r.done ++ os) (until_is line r goes) ∙ sym (append_assoc r.done (o ∷ []) (until_end (map order_of (more line r))));
      closing = r.closing ∙ ap closes (left_is line r) ∙ goes.closing (map order_of (more line r));
      opened = did.opened;
      keeps = keeps_on r.opened.form r.keeps did.keeps;
      disk = did.disk ∙ ap (λ (d : List ℕ). disk_by d o) r.disk ∙ sym (carried_one (carried_from start r.done) o) ∙ sym (carried-append start r.done (o ∷ []));
      printed = λ prints. did.printed (subst IsTrue (sym run.goes.prints) prints) ∙ ap (λ (t : List ℕ). t ++ printed_by (disk_of (mid.seen f)) o) (r.printed prints)
          ∙ append_assoc old.printed (answers_from start r.done) (printed_by (disk_of (mid.seen f)) o)
          ∙ ap (λ (t : List ℕ). old.printed ++ (answers_from start r.done ++ t)) (ap (λ (d : List ℕ). printed_by d o) r.disk ∙ sym (answers_one (carried_from start r.done) o))
          ∙ ap (λ (t : List ℕ). old.printed ++ t) (sym (answers-append start r.done (o ∷ [])));
    }

-- ---- runs that stop early

module _ {old now : World} {image : Image} {f : ℕ} {texts : List (List ℕ)} {all : List Order} (r : RanSoFar old now image f texts all) where
  abbrev pub left_orders : List Order
  left_orders = until_end (map order_of r.left)

  abbrev count : ℕ
  count = length r.done

  -- the orders that were carried out, and with the next one
  taken_here : take count (until_end all) ≡ r.done
  taken_here = ap (take count) r.parts ∙ take-append_seam r.done left_orders

  taken_next : take (count + 1) (until_end all) ≡ r.done ++ take 1 left_orders
  taken_next = ap (take (count + 1)) r.parts ∙ take-append-add r.done left_orders 1

  -- the disk after them
  disk_here : carried_from (disk_of (old.seen f)) (take count (until_end all)) ≡ disk_of (now.seen f)
  disk_here = ap (carried_from (disk_of (old.seen f))) taken_here ∙ sym r.disk

  disk_next : carried_from (disk_of (old.seen f)) (take (count + 1) (until_end all)) ≡ carried_from (disk_of (now.seen f)) (take 1 left_orders)
  disk_next = ap (carried_from (disk_of (old.seen f))) taken_next ∙ carried-append (disk_of (old.seen f)) r.done (take 1 left_orders) ∙ ap (λ (d : List ℕ). carried_from d (take 1 left_orders)) (sym r.disk)

  -- what is printed for them
  abbrev said : List ℕ
  said = answers_from (disk_of (old.seen f)) r.done

  said_here : answers_from (disk_of (old.seen f)) (take count (until_end all)) ≡ said
  said_here = ap (answers_from (disk_of (old.seen f))) taken_here

  said_next : answers_from (disk_of (old.seen f)) (take (count + 1) (until_end all)) ≡ said ++ answers_from (disk_of (now.seen f)) (take 1 left_orders)
  said_next = ap (answers_from (disk_of (old.seen f))) taken_next ∙ answers-append (disk_of (old.seen f)) r.done (take 1 left_orders) ∙ ap (λ (d : List ℕ). said ++ answers_from d (take 1 left_orders)) (sym r.disk)

  -- and what is left to print
  abbrev pub left_text : List ℕ
  left_text = answers_from (disk_of (now.seen f)) left_orders ++ end_line all

  pub whole_text : said ++ left_text ≡ printed_from (disk_of (old.seen f)) all
  unfolding printed_from
  whole_text =
      let start = disk_of (old.seen f) in
      ap (λ (d : List ℕ). said ++ (answers_from d left_orders ++ end_line all)) r.disk ∙ sym (append_assoc said (answers_from (carried_from start r.done) left_orders) (end_line all))
      ∙ ap (λ (t : List ℕ). t ++ end_line all) (sym (answers-append start r.done left_orders) ∙ ap (answers_from start) (sym r.parts))

  -- Of what is left to print, this was printed: nothing before the next order was carried out, and no more than its answer and no
  -- byte of the end's unless file f was closed.
  pub record SaysNext (new : World) : Type 0 where
    pub next : List ℕ
    pub rest : List ℕ
    pub is : next ++ rest ≡ left_text
    pub printed : new.printed ≡ now.printed ++ next
    pub first : (next ≡ []) ⊎ (disk_of (new.seen f) ≡ carried_from (disk_of (now.seen f)) (take 1 left_orders))
    pub few : ((length next ≤ length (answers_from (disk_of (now.seen f)) (take 1 left_orders))) × (length (end_line all) ≤ length rest)) ⊎ IsClosed all f new

  module _ {new : World} (prints : IsTrue old.prints) (s : SaysNext new) where
    printed_far : new.printed ≡ old.printed ++ take (length (said ++ s.next)) (printed_from (disk_of (old.seen f)) all)
    printed_far =
        let joined : (said ++ s.next) ++ s.rest ≡ printed_from (disk_of (old.seen f)) all = append_assoc said s.next s.rest ∙ ap (λ (t : List ℕ). said ++ t) s.is ∙ whole_text in
        s.printed ∙ ap (λ (t : List ℕ). t ++ s.next) (r.printed prints) ∙ append_assoc old.printed said s.next
        ∙ ap (λ (t : List ℕ). old.printed ++ t) (sym (take-append_seam (said ++ s.next) s.rest) ∙ ap (take (length (said ++ s.next))) joined)

    end_is_left : (length (said ++ s.next) + length (end_line all) ≤ length (printed_from (disk_of (old.seen f)) all)) ⊎ IsClosed all f new
    end_is_left = elim s.few [
      | inl few ↦ inl (
          let whole = ap length whole_text in
          let left = ap length s.is in
          omega (arith, few.1, length-append said s.next, length-append said left_text, length-append s.next s.rest))
      | inr closed ↦ inr closed
    ]

    said_far : (length (answers_from (disk_of (old.seen f)) (take count (until_end all))) ≤ length (said ++ s.next))
        × ((length (said ++ s.next) ≡ length (answers_from (disk_of (old.seen f)) (take count (until_end all)))) ⊎ (disk_of (new.seen f) ≡ carried_from (disk_of (old.seen f)) (take (count + 1) (until_end all))))
        × ((length (said ++ s.next) ≤ length (answers_from (disk_of (old.seen f)) (take (count + 1) (until_end all)))) ⊎ IsClosed all f new)
    said_far =
        let here = ap length said_here in
        let long = length-append said s.next in (
          omega arith,
          elim s.first [ inl none ↦ inl (let empty = ap length none in omega arith) | inr done ↦ inr (done ∙ sym disk_next) ],
          elim s.few [
            | inl few ↦ inl (
                let next = ap length said_next in
                omega (arith, few.0, length-append said (answers_from (disk_of (now.seen f)) (take 1 left_orders))))
            | inr closed ↦ inr closed
          ],
        )

  -- the run stopped there
  pub begun_lines : {new : World} → Spares (old.seen f) (new.seen f) → Between (disk_of (now.seen f)) (carried_from (disk_of (now.seen f)) (take 1 left_orders)) (disk_of (new.seen f)) → (IsTrue old.prints → SaysNext new) → BegunLines old new f all
  begun_lines {new} spares between says = record {
    spares = spares;
    reached = (
      count,
      record {
        disk = subst (λ (d : List ℕ). Between d (carried_from (disk_of (old.seen f)) (take (count + 1) (until_end all))) (disk_of (new.seen f))) (sym disk_here)
            (subst (λ (d : List ℕ). Between (disk_of (now.seen f)) d (disk_of (new.seen f))) (sym disk_next) between);
        printed = λ prints. let s = says prints in let far = said_far prints s in (length (said ++ s.next), printed_far prints s, far.0, far.1, far.2);
      },
    );
    printed = λ prints. let s = says prints in (length (said ++ s.next), printed_far prints s, end_is_left prints s);
  }

  -- the next line was not begun
  pub begun_stay : {new : World} → new.seen f ≡ now.seen f → new.printed ≡ now.printed → BegunLines old new f all
  begun_stay {new} same silent = begun_lines (subst (Spares (old.seen f)) (sym same) r.keeps.spares) (between_first _ _ (disk_of (new.seen f)) (ap disk_of same)) (λ prints. record {
    next = [];
    rest = left_text;
    is = refl;
    printed = silent ∙ sym (append-nil now.printed);
    first = inl refl;
    few = inl (omega arith, omega (arith, length-append (answers_from (disk_of (now.seen f)) left_orders) (end_line all)));
  })

-- it was begun
pub begun_on : {parts : Parts} {old mid new : World} {image : Image} {m f : ℕ} {texts rest : List (List ℕ)} {l : Line} {all : List Order} → IsLine texts rest l → GoesOn (order_of l) → m ≡ f → IsTrue old.tells → Runs parts old mid
    → RanSoFar old mid image f texts all → (IsTrue mid.tells → IsOpen image (mid.seen m) → Begun mid new m (order_of l)) → BegunLines old new f all
begun_on {parts} {old} {mid} {new} {image} {m} {f} {texts} {rest} {l} {all} line goes same told run r begun =
    let o = order_of l in
    let did : Begun mid new f o = subst (λ (k : ℕ). IsTrue mid.tells → IsOpen image (mid.seen k) → Begun mid new k o) same begun (subst IsTrue (sym run.goes.tells) told) r.opened in
    let disk = disk_of (mid.seen f) in
    let answer = printed_by disk o in
    let after = answers_from (disk_by disk o) (until_end (map order_of (more line r))) in
    let is = until_is line r goes in
    let one : carried_from disk (take 1 (left_orders r)) ≡ disk_by disk o = ap (λ (os : List Order). carried_from disk (take 1 os)) is ∙ carried_one disk o in
    let first : answers_from disk (take 1 (left_orders r)) ≡ answer = ap (λ (os : List Order). answers_from disk (take 1 os)) is ∙ answers_one disk o in
    let whole : answer ++ (after ++ end_line all) ≡ left_text r = sym (append_assoc answer after (end_line all)) ∙ ap (λ (t : List ℕ). t ++ end_line all) (sym (answers_on disk o (until_end (map order_of (more line r)))) ∙ ap (answers_from disk) (sym is)) in
    begun_lines r (spares_on r.keeps did.spares) (subst (λ (d : List ℕ). Between disk d (disk_of (new.seen f))) (sym one) did.disk) (λ prints. let on = subst IsTrue (sym run.goes.prints) prints in elim (did.first on) [
      | inl silent ↦ record { next = []; rest = left_text r; is = refl; printed = silent ∙ sym (append-nil mid.printed); first = inl refl; few = inl (omega arith, omega (arith, length-append (answers_from disk (left_orders r)) (end_line all))) }
      | inr done ↦
          let p = did.printed on in
          record {
            next = take p.0 answer;
            rest = drop p.0 answer ++ (after ++ end_line all);
            is = sym (append_assoc (take p.0 answer) (drop p.0 answer) (after ++ end_line all)) ∙ ap (λ (t : List ℕ). t ++ (after ++ end_line all)) (take-append-drop p.0 answer) ∙ whole;
            printed = p.1;
            first = inr (done ∙ sym one);
            few = inl (
              (let long = ap length first in omega (arith, length-take p.0 answer)),
              omega (arith, length-append (drop p.0 answer) (after ++ end_line all), length-append after (end_line all)),
            );
          }
    ])

-- why a later call failed is why the run did
pub needs_after : {parts : Parts} (old mid new : World) (stop : reason.Stop) → Runs parts old mid → Needs mid new stop → Needs old new stop
needs_after old mid new Memory run needs = tt
needs_after old mid new Fault run needs = rose_after old.faults.shared mid.faults.shared new.faults.shared run.goes.counts.shared needs

-- ---- the end

-- no order was left, the file was closed if the run closes it, and then the end's answer was to be printed
pub record Ended (old mid new : World) (image : Image) (f : ℕ) (texts : List (List ℕ)) (all : List Order) : Type 0 where
  pub prints : mid.prints ≡ old.prints
  pub so_far : RanSoFar old mid image f texts all
  pub none_left : until_end (map order_of so_far.left) ≡ []
  pub same : new.seen f ≡ mid.seen f
  pub closed : IsClosed all f new

module _ {old mid new : World} {image : Image} {f : ℕ} {texts : List (List ℕ)} {all : List Order} (e : Ended old mid new image f texts all) where
  -- the end's answer is the whole of what is left to print
  end_is_all : end_line all ≡ left_text e.so_far
  end_is_all = ap (λ (t : List ℕ). t ++ end_line all) (sym (ap (answers_from (disk_of (mid.seen f))) e.none_left ∙ answers_none (disk_of (mid.seen f))))

  same_disk : carried_from (disk_of (mid.seen f)) (take 1 (left_orders e.so_far)) ≡ disk_of (mid.seen f)
  same_disk = ap (λ (os : List Order). carried_from (disk_of (mid.seen f)) (take 1 os)) e.none_left ∙ carried_none (disk_of (mid.seen f))

  -- a part of it was printed
  pub begun_end : PrintsPart (end_line all) mid new → BegunLines old new f all
  begun_end part = begun_lines e.so_far (subst (Spares (old.seen f)) (sym e.same) e.so_far.keeps.spares) (between_first _ _ (disk_of (new.seen f)) (ap disk_of e.same)) (λ prints.
      let p = part (subst IsTrue (sym e.prints) prints) in
      record {
        next = take p.0 (end_line all);
        rest = drop p.0 (end_line all);
        is = take-append-drop p.0 (end_line all) ∙ end_is_all;
        printed = p.1;
        first = inr (ap disk_of e.same ∙ sym same_disk);
        few = inr e.closed;
      })

  -- all of it was
  pub ran_end : (IsTrue mid.prints → new.printed ≡ mid.printed ++ end_line all) → RanLines old new f all
  unfolding disk_from
  ran_end said =
      let r = e.so_far in
      let start = disk_of (old.seen f) in
      let all_done : until_end all ≡ r.done = r.parts ∙ ap (λ (os : List Order). r.done ++ os) e.none_left ∙ append-nil r.done in
      record {
        form = subst IsFirstForm (sym e.same) r.opened.form;
        disk = ap disk_of e.same ∙ r.disk ∙ ap (carried_from start) (sym all_done);
        keeps = subst (KeepsRest (old.seen f)) (sym e.same) r.keeps;
        printed = λ prints. said (subst IsTrue (sym e.prints) prints) ∙ ap (λ (t : List ℕ). t ++ end_line all) (r.printed prints) ∙ append_assoc old.printed (answers_from start r.done) (end_line all)
            ∙ ap (λ (t : List ℕ). old.printed ++ (answers_from start r.done ++ t)) end_is_all ∙ ap (λ (t : List ℕ). old.printed ++ t) (whole_text r);
        closed = e.closed;
      }

-- ---- its ends

-- a line that stops leaves the file as it is
pub stopped : {old mid new : World} {image : Image} {f : ℕ} {texts rest : List (List ℕ)} {l : Line} {all : List Order} → mid.prints ≡ old.prints → Runs only_text mid new → IsLine texts rest l → order_of l ≡ Stop → RanSoFar old mid image f texts all
    → Ended old mid new image f texts all × (end_line all ≡ stopped_line)
stopped {old} {mid} {new} {image} {f} {texts} {rest} {l} {all} prints print line is r =
    let first : map order_of r.left ≡ Stop ∷ map order_of (more line r) = left_is line r ∙ ap (λ (o : Order). o ∷ map order_of (more line r)) is in
    let open_end : closes all ≡ false = r.closing ∙ ap closes first in (
      record { prints = prints; so_far = r; none_left = ap until_end first; same = text_same f print; closed = λ yes. absurd (let never : IsTrue false = subst IsTrue open_end yes in cc) },
      rw open_end refl,
    )

-- they are none, or the first of them quits
pub record ClosesHere (lines : List Line) : Type 0 where
  pub none_left : until_end (map order_of lines) ≡ []
  pub closing : closes (map order_of lines) ≡ true

pub closes_empty : (lines : List Line) → lines ≡ [] → ClosesHere lines
closes_empty lines e = record { none_left = ap (λ (ls : List Line). until_end (map order_of ls)) e; closing = ap (λ (ls : List Line). closes (map order_of ls)) e }

pub closes_quit : {texts rest : List (List ℕ)} {l : Line} (lines : List Line) → IsLine texts rest l → order_of l ≡ Quit → Say texts lines → ClosesHere lines
closes_quit lines line is says =
    let first = first_line lines line says in
    let orders : map order_of lines ≡ Quit ∷ map order_of first.0 = ap (map order_of) first.1 ∙ ap (λ (o : Order). o ∷ map order_of first.0) is in
    record { none_left = ap until_end orders; closing = ap closes orders }

-- where no line is left, or one that quits, the file is synced and then the answer to the closing is printed
pub closed : {old mid synced new : World} {image : Image} {f : ℕ} {texts : List (List ℕ)} {all : List Order} → IsSound mid → mid.prints ≡ old.prints → Syncs f mid synced → HasSynced f mid synced → Runs only_text synced new
    → (r : RanSoFar old mid image f texts all) → ClosesHere r.left → Ended old mid new image f texts all × (end_line all ≡ ok_line)
closed {old} {mid} {synced} {new} {image} {f} {texts} {all} sound prints sync done print r here =
    let same : new.seen f ≡ mid.seen f = text_same f print ∙ sync.seen in
    let closing : closes all ≡ true = r.closing ∙ here.closing in (
      record {
        prints = prints;
        so_far = r;
        none_left = here.none_left;
        same = same;
        closed = λ closing. subst (λ (file : List ℕ). EachNow new f (λ h. h ≡ file)) (sym same) (now_spared f (λ h. h ≡ mid.seen f) print (λ none. none) (now_synced sound done));
      },
      rw closing refl,
    )
