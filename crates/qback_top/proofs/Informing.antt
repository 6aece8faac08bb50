-- What `info` says of a file, by its first bytes.
use Rattle.std.proofs.Common.{◌≡◌, ◌≢◌, ◌⊎◌, inl, inr, ⊎_elim, ℕ, ◌+◌, ◌≤◌, min, List, ◌++◌, length, take, IsTrue, Some, None, Result, Ok, Err, IfOk, OnErr, sym, ap, subst, ◌∙◌, arith}
use Rattle.std.proofs.lemmas.List.{take_min}
use Rattle.std.specs.Prelude.{codes}
use Rattle.disk_model.specs.Files.{reading}
use Rattle.disk_model.specs.World.{World, Runs, reads_of, only_text, nothing, IsGiven, PrintsPart}
use Rattle.disk_model.proofs.Words.{reading_inside}
use Rattle.disk_model.proofs.Moments.{Within, nothing_within, given_on, run_on, run_more, run_both}
use Rattle.qc_layout.specs.declared.header.Header.{Header}
use Rattle.qc_layout.specs.declared.header.HeaderFault.{HeaderFault}
use Rattle.qc_layout.specs.declared.header.Part.{Part}
use Rattle.qc_layout.specs.declared.records.RecordFault.{RecordFault}
use Rattle.qc_layout.specs.Disks.{IsReadAs}
use Rattle.qc_layout.specs.Laws.{BeginAlike, start_length, start_of}
use Rattle.qc_layout.specs.Spelling.{IsHeaderOf, IsFault}
use Rattle.qc_layout.proofs.Cited.{alike_back, header_from_start, fault_from_start, read_as_from_start, begins, start_same}
use Rattle.qback_top.specs.declared.description.Description.{Description}
use Rattle.qback_top.specs.declared.description.Description.TheVariants as descriptions
use Rattle.qback_top.specs.Descriptions.{Describes, DescribesHeader}
use Rattle.image_model.specs.Refusals.{header_reason, record_reason}
use Rattle.qback_top.specs.Infos.{InfoDue, IsToldAs, IsRefusedAs, fault_in}
use Rattle.qback_top.specs.Words.{IsInfo}
use Rattle.qback_top.specs.Endings.{Refused, Told, looks, tells_of, looks_and_says, LooksAndTells}
use Rattle.qback_top.specs.Shown.{StopsInInfo}
use Rattle.qback_top.proofs.Replaying.{looked, looked_none}
use Rattle.qback_top.proofs.Saying.{part_after, said_after}

-- ---- the header and its description

pub describes_by : (part : Part) (bytes : List ℕ) (h : Header) (d : Description) → IsReadAs bytes part → IsHeaderOf part bytes h → DescribesHeader h d → Describes bytes d
describes_by part bytes h (descriptions.Refused reason) reads spells (inl unbuilt) = (part, reads, inr (inl (h, spells, unbuilt.0, unbuilt.1)))
describes_by part bytes h (descriptions.Refused reason) reads spells (inr bad) = (part, reads, inr (inr (h, bad.0, spells, bad.1, bad.2, bad.3)))
describes_by part bytes h (descriptions.Text text) reads spells told = (part, h, reads, spells, told.0, told.1, told.2)

-- ---- files that begin alike

told_from_start : {n : ℕ} (a b text : List ℕ) → BeginAlike n a b → IsToldAs a text → IsToldAs b text
told_from_start a b text alike told = (told.0, told.1, read_as_from_start told.0 a b alike told.2, header_from_start told.0 a b told.1 alike told.3, told.4, told.5, told.6)

refused_from_start : {n : ℕ} (a b reason : List ℕ) → BeginAlike n a b → IsRefusedAs a reason → IsRefusedAs b reason
refused_from_start a b reason alike is = (
  is.0,
  read_as_from_start is.0 a b alike is.1,
  ⊎_elim
      (λ (x : (fault : HeaderFault) × IsFault is.0 a fault × (reason ≡ header_reason fault)). inl (x.0, fault_from_start is.0 a b x.0 alike x.1, x.2))
      (λ (y : ((h : Header) × IsHeaderOf is.0 a h × (h.bitmaps ≢ None) × (reason ≡ codes "Unbuilt"))
      ⊎ ((h : Header) × (fault : RecordFault) × IsHeaderOf is.0 a h × (h.bitmaps ≡ None) × (fault_in h.fields.cluster_bits h.own ≡ Some fault) × (reason ≡ record_reason fault))).
      inr (⊎_elim
      (λ (x : (h : Header) × IsHeaderOf is.0 a h × (h.bitmaps ≢ None) × (reason ≡ codes "Unbuilt")). inl (x.0, header_from_start is.0 a b x.0 alike x.1, x.2, x.3))
      (λ (x : (h : Header) × (fault : RecordFault) × IsHeaderOf is.0 a h × (h.bitmaps ≡ None) × (fault_in h.fields.cluster_bits h.own ≡ Some fault) × (reason ≡ record_reason fault)).
      inr (x.0, x.1, header_from_start is.0 a b x.0 alike x.2, x.3, x.4, x.5))
      y))
      is.2,
)

-- what describes a file's first bytes describes the file
pub describes_file : (file start : List ℕ) (d : Description) → start ≡ start_of file → Describes start d → Describes file d
describes_file file start (descriptions.Refused reason) is refused = refused_from_start (start_of file) file reason.now (alike_back file (start_of file) (begins file)) (subst (λ (l : List ℕ). IsRefusedAs l reason.now) is refused)
describes_file file start (descriptions.Text text) is told = told_from_start (start_of file) file text.items (alike_back file (start_of file) (begins file)) (subst (λ (l : List ℕ). IsToldAs l text.items) is told)

-- ---- the first bytes that are read

-- as many as there are, of the first n
read_taken : (file : List ℕ) (size count n : ℕ) → size ≡ length file → count ≡ min n size → reading file 0 count ≡ take n file
read_taken file size count n is counts =
    let inside : 0 + count ≤ length file = omega arith in
    let some : count ≡ min n (length file) = omega arith in
    reading_inside file 0 count inside ∙ ap (λ (k : ℕ). take k file) some ∙ take_min n file

pub sector_is : (file sector : List ℕ) (size : ℕ) → size ≡ length file → sector ≡ reading file 0 (min size 512) → sector ≡ take 512 file
sector_is file sector size is read = read ∙ read_taken file size (min size 512) 512 is (omega arith)

-- it says how many more are to be read
sector_says : (file sector : List ℕ) (size : ℕ) → size ≡ length file → sector ≡ reading file 0 (min size 512) → start_length sector ≡ start_length file
sector_says file sector size is read = ap (λ (l : List ℕ). start_length l) (sector_is file sector size is read) ∙ start_same 512 file (omega arith)

taken_all : (file : List ℕ) (n size count : ℕ) → 512 ≤ n → size ≡ length file → count ≡ min n size → count ≤ 512 → take 512 file ≡ take n file
taken_all file n size count some is counts few =
    let same : min 512 (length file) ≡ min n (length file) = omega arith in
    sym (take_min 512 file) ∙ ap (λ (k : ℕ). take k file) same ∙ take_min n file

-- none
pub start_sector : (file sector : List ℕ) (size count : ℕ) → size ≡ length file → sector ≡ reading file 0 (min size 512) → count ≡ min (start_length sector) size → count ≤ 512 → sector ≡ start_of file
start_sector file sector size count is read counts few =
    sector_is file sector size is read
    ∙ taken_all file (start_length file) size count (omega arith) is (counts ∙ ap (λ (n : ℕ). min n size) (sector_says file sector size is read)) few

-- or some
pub start_more : (file sector start : List ℕ) (size count : ℕ) → size ≡ length file → sector ≡ reading file 0 (min size 512) → count ≡ min (start_length sector) size → start ≡ reading file 0 count → start ≡ start_of file
start_more file sector start size count is read counts starts =
    starts ∙ read_taken file size count (start_length file) is (counts ∙ ap (λ (n : ℕ). min n size) (sector_says file sector size is read))

-- what was read of a file after calls that read, it reads from the start on
pub read_before : {f : ℕ} {a b : World} (g n k : ℕ) (bytes : List ℕ) → Runs (reads_of f) a b → n ≡ k → bytes ≡ reading (b.seen g) 0 n → bytes ≡ reading (a.seen g) 0 k
read_before {f} {a} {b} g n k bytes run counts is = is ∙ ap (λ (file : List ℕ). reading file 0 n) ((run.files g (λ none. none)).seen) ∙ ap (reading (a.seen g) 0) counts

-- where a read succeeded
pub read_ok : {T E : Type 0} (bytes : T → List ℕ) (a b : World) (x y : List ℕ) (result : Result T E) → (IsTrue a.tells → IsTrue b.tells) → (IsTrue a.tells → (l : List ℕ) → l ≡ x → l ≡ y)
    → IfOk result (λ v. IsTrue b.tells → bytes v ≡ x) → IfOk result (λ v. IsTrue a.tells → bytes v ≡ y)
read_ok bytes a b x y (Ok v) tells same is = λ told. same told (bytes v) (is (tells told))
read_ok bytes a b x y (Err e) tells same is = tt

-- ---- what is due

-- this end is due to a file that is described so
abbrev pub DueBy : List (List ℕ) → World → List ℕ → Description → Type 0
DueBy words a name (descriptions.Refused reason) = InfoDue words a (Refused name reason.now)
DueBy words a name (descriptions.Text text) = InfoDue words a (Told text.items)

pub due_by : (words : List (List ℕ)) (a : World) (name : List ℕ) (f : ℕ) (d : Description) → IsInfo words name → a.found name ≡ Some f → Describes (a.seen f) d → DueBy words a name d
due_by words a name f (descriptions.Refused reason) form found refused = (f, form, found, refused)
due_by words a name f (descriptions.Text text) form found told = (name, f, form, found, told)

-- by the first bytes that were read after the file was found
pub described : {a b : World} (name : List ℕ) (f : ℕ) (start bytes : List ℕ) (d : Description) → Runs nothing a b → (IsTrue a.tells → a.found name ≡ Some f) → (IsTrue b.tells → start ≡ start_of (b.seen f)) → bytes ≡ start → Describes bytes d
    → IsTrue a.tells → (words : List (List ℕ)) → IsInfo words name → DueBy words a name d
described {a} {b} name f start bytes d run found read same is = λ told words form.
    let seen : b.seen f ≡ a.seen f = (run.files f (λ none. none)).seen in
    due_by words a name f d form (found told) (describes_file (a.seen f) bytes d (same ∙ read (subst IsTrue (sym run.goes.tells) told) ∙ ap (λ (l : List ℕ). start_of l) seen) is)

-- ---- calls that read, and then one that prints

looks_within : Within looks looks_and_says
looks_within = record { files = λ g none. none; reads = λ g is. is; names = λ name none. none; text = λ none. absurd none; wire = λ none. none }

text_within : Within only_text looks_and_says
text_within = record { files = λ g none. none; reads = λ g none. absurd none; names = λ name none. none; text = λ is. is; wire = λ none. none }

pub looks_more : {a c : World} → Runs looks a c → Runs looks_and_says a c
looks_more look = run_more looks_within look

pub looks_say : {a c e : World} → Runs looks a c → Runs only_text c e → Runs looks_and_says a e
looks_say look says = run_on (looks_more look) (run_more text_within says)

-- a file of a name is looked up and read, and then something may be printed
pub looked_tells : {a b c : World} (name : List ℕ) (f : ℕ) → Runs nothing a b → IsGiven f name b → Runs (reads_of f) b c → Runs (tells_of name c) a c
looked_tells {a} {b} {c} name f find given read = run_both (nothing_within (tells_of name c)) (record {
  files = λ g none. absurd none;
  reads = λ g is. subst (λ (k : ℕ). IsGiven k name c) (sym is) (given_on read given);
  names = λ other none. absurd none;
  text = λ none. absurd none;
  wire = λ none. absurd none;
}) find read

pub text_within_tells : (name : List ℕ) (w : World) → Within only_text (tells_of name w)
text_within_tells name w = record { files = λ g none. absurd none; reads = λ g none. absurd none; names = λ other none. absurd none; text = λ is. is; wire = λ none. absurd none }

-- and then one that prints
pub tells_then_text : (name : List ℕ) (a b c : World) → Runs (tells_of name b) a b → Runs only_text b c → Runs (tells_of name c) a c
tells_then_text name a b c work print = run_both (record {
  files = λ g none. absurd none;
  reads = λ g is. given_on print is;
  names = λ other none. absurd none;
  text = λ is. is;
  wire = λ none. absurd none;
}) (text_within_tells name c) work print

pub look_both : {a b c : World} {f : ℕ} → Runs nothing a b → Runs (reads_of f) b c → Runs looks a c
look_both find read = run_on (looked_none find) (looked read)

pub tells_all : {a c e : World} (text : List ℕ) → Runs looks a c → Runs only_text c e → (IsTrue c.prints → e.printed ≡ c.printed ++ text) → LooksAndTells text a e
tells_all {a} {c} {e} text look says printed = record { run = looks_say look says; printed = said_after e text look (λ none. none) printed }

pub tells_part : {a c e : World} (words : List (List ℕ)) (text : List ℕ) → InfoDue words a (Told text) → Runs looks a c → Runs only_text c e → PrintsPart text c e → StopsInInfo words a e
tells_part {a} {c} {e} words text due look says part = inr (text, due, looks_say look says, part_after e text look (λ none. none) part)

-- whatever error it answers
pub info_err : {T E : Type 0} (result : Result T E) (a e : World) (name : List ℕ) → Runs looks a e → OnErr result (IsTrue a.tells → (words : List (List ℕ)) → IsInfo words name → StopsInInfo words a e)
info_err (Ok x) a e name look = tt
info_err (Err y) a e name look = λ told words form. inl look

pub told_err : {T E : Type 0} (result : Result T E) (a e : World) (name : List ℕ) → (IsTrue a.tells → (words : List (List ℕ)) → IsInfo words name → StopsInInfo words a e) → OnErr result (IsTrue a.tells → (words : List (List ℕ)) → IsInfo words name → StopsInInfo words a e)
told_err (Ok x) a e name stops = tt
told_err (Err y) a e name stops = stops
