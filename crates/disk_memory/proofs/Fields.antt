-- What is held, in terms of the code's values.
use Rattle.std.proofs.Common.{◌≡◌, ℕ, ◌+◌, ◌<◌, Bool, List, [], ◌∷◌, ◌++◌, length, get_or, set, map, Vec, sym, ◌∙◌, ap, subst, arith, refl}
use Rattle.std.specs.Prelude.{string_bytes, not, cond, Result, Ok, Err, OnOk, OnErr}
use Rattle.std.specs.List.{position, position_or_len}
use Rattle.std.specs.Str.{bytes_eq}
use Rattle.std.specs.declared.alloc.Global.{Global}
use Rattle.std.proofs.lemmas.Grind.{common_steps}
use Rattle.disk_model.specs.Files.{overlay}
use Rattle.std.proofs.lemmas.List.{length-map, map-append, map-set, set-get_or, get_or-map}
use Rattle.disk_memory.specs.declared.files.File.{File}
use Rattle.disk_memory.specs.declared.log.Call.{Call}
use Rattle.disk_memory.specs.Held.{Held, IsKept, number_of, held_of, change_of, FilePut, BytesWritten, UnderWay, FileSynced}
use Rattle.disk_memory.specs.Steps.{raised, noted, with_content, with_file, with_bytes, with_sync, failed_read, failed_write}

-- a field that stays
pub map-set_same : {B : Type 0} (g : File → B) (files : List File) (n : ℕ) (old new : File) → n < length files → old ≡ get_or files n old → g new ≡ g old → map g (set files n new) ≡ map g files
map-set_same g files n old new there is same =
    map-set g files n new ∙ ap (set (map g files) n) (same ∙ ap g is ∙ sym (get_or-map g files n old (g old) there)) ∙ set-get_or (map g files) n (g old)

-- a field that is read
pub map_read : {B : Type 0} (g : File → B) (files : List File) (n : ℕ) (old : File) (d : B) → n < length files → old ≡ get_or files n old → g old ≡ get_or (map g files) n d
map_read g files n old d there is = grind (arith, common_steps)

module _ (keep : Bool) (files : List File) (log : List Call) (printed : List ℕ) (faults print_faults n : ℕ) (old new : File) (low : n < length (map (λ (file : File). string_bytes file.name) files)) (is : old ≡ get_or files n old) where
  abbrev held : Held
  held = held_of keep files log printed faults print_faults

  there : n < length files
  there = omega (arith, low, length-map files (λ (file : File). string_bytes file.name))

  -- a read of file n failed
  pub held_failed_read : (more : ℕ) → more ≡ raised faults → new.name ≡ old.name → new.bytes ≡ old.bytes → new.writes ≡ old.writes → new.reads ≡ raised old.reads → held_of keep (set files n new) log printed more print_faults ≡ failed_read n held
  held_failed_read more rose name bytes writes reads =
      let names = map-set_same (λ (file : File). string_bytes file.name) files n old new there is (ap string_bytes name) in
      let contents = map-set_same (λ (file : File). file.bytes.items) files n old new there is (ap (λ (b : Vec ℕ Global). b.items) bytes) in
      let same_writes = map-set_same (λ (file : File). file.writes) files n old new there is writes in
      let counted = map-set (λ (file : File). file.reads) files n new ∙ ap (set (map (λ (file : File). file.reads) files) n) (reads ∙ ap raised (map_read (λ (file : File). file.reads) files n old 0 there is)) in
      cc

  -- a write of file n failed
  pub held_failed_write : (more : ℕ) → more ≡ raised faults → new.name ≡ old.name → new.bytes ≡ old.bytes → new.reads ≡ old.reads → new.writes ≡ raised old.writes → held_of keep (set files n new) log printed more print_faults ≡ failed_write n held
  held_failed_write more rose name bytes reads writes =
      let names = map-set_same (λ (file : File). string_bytes file.name) files n old new there is (ap string_bytes name) in
      let contents = map-set_same (λ (file : File). file.bytes.items) files n old new there is (ap (λ (b : Vec ℕ Global). b.items) bytes) in
      let same_reads = map-set_same (λ (file : File). file.reads) files n old new there is reads in
      let counted = map-set (λ (file : File). file.writes) files n new ∙ ap (set (map (λ (file : File). file.writes) files) n) (writes ∙ ap raised (map_read (λ (file : File). file.writes) files n old 0 there is)) in
      cc

  -- file n got other bytes
  pub held_replaced : (bytes : List ℕ) (after : List Call) → new.name ≡ old.name → new.reads ≡ old.reads → new.writes ≡ old.writes → new.bytes.items ≡ bytes
      → map change_of after ≡ map change_of log ++ noted keep (FilePut n bytes ∷ []) → held_of keep (set files n new) after printed faults print_faults ≡ with_content n bytes held
  held_replaced bytes after name reads writes written changes =
      let names = map-set_same (λ (file : File). string_bytes file.name) files n old new there is (ap string_bytes name) in
      let same_reads = map-set_same (λ (file : File). file.reads) files n old new there is reads in
      let same_writes = map-set_same (λ (file : File). file.writes) files n old new there is writes in
      let contents = map-set (λ (file : File). file.bytes.items) files n new ∙ ap (set (map (λ (file : File). file.bytes.items) files) n) written in
      cc

  -- file n has more room
  pub held_roomier : (after : List Call) → new.name ≡ old.name → new.reads ≡ old.reads → new.writes ≡ old.writes → new.bytes.items ≡ old.bytes.items → after ≡ log → held_of keep (set files n new) after printed faults print_faults ≡ held
  held_roomier after name reads writes contents same_log =
      let names = map-set_same (λ (file : File). string_bytes file.name) files n old new there is (ap string_bytes name) in
      let same_reads = map-set_same (λ (file : File). file.reads) files n old new there is reads in
      let same_writes = map-set_same (λ (file : File). file.writes) files n old new there is writes in
      let same_contents = map-set_same (λ (file : File). file.bytes.items) files n old new there is contents in
      let changes = ap (map change_of) same_log in
      cc

  -- file n was written
  pub held_written : (at : ℕ) (bytes : List ℕ) (after : List Call) → new.name ≡ old.name → new.reads ≡ old.reads → new.writes ≡ old.writes → new.bytes.items ≡ overlay old.bytes.items at bytes
      → map change_of after ≡ map change_of log ++ noted keep (BytesWritten n at bytes ∷ UnderWay ∷ []) → held_of keep (set files n new) after printed faults print_faults ≡ with_bytes n at bytes held
  held_written at bytes after name reads writes written changes =
      let names = map-set_same (λ (file : File). string_bytes file.name) files n old new there is (ap string_bytes name) in
      let same_reads = map-set_same (λ (file : File). file.reads) files n old new there is reads in
      let same_writes = map-set_same (λ (file : File). file.writes) files n old new there is writes in
      let contents = map-set (λ (file : File). file.bytes.items) files n new
      ∙ ap (set (map (λ (file : File). file.bytes.items) files) n) (written ∙ ap (λ (l : List ℕ). overlay l at bytes) (map_read (λ (file : File). file.bytes.items) files n old [] there is)) in
      cc

-- a search by names among the files themselves
place_of_files : (name : List ℕ) (files : List File) → position_or_len (λ (n : List ℕ). bytes_eq n name) (map (λ (file : File). string_bytes file.name) files) ≡ position_or_len (λ (file : File). bytes_eq (string_bytes file.name) name) files
place_of_files name [] = refl
place_of_files name (file ∷ files) = ap (λ (n : ℕ). cond (not (bytes_eq (string_bytes file.name) name)) (1 + n) 0) (place_of_files name files)

pub number_of_files : (name : List ℕ) (files : List File) → number_of (map (λ (file : File). string_bytes file.name) files) name ≡ position (λ (file : File). bytes_eq (string_bytes file.name) name) files
number_of_files name files =
    let place = place_of_files name files in
    let long = length-map files (λ (file : File). string_bytes file.name) in
    cc

-- a file more
module _ (keep : Bool) (files more : List File) (log after : List Call) (printed : List ℕ) (faults print_faults n : ℕ) (new : File) (name bytes : List ℕ) where
  pub held_added : more ≡ files ++ new ∷ [] → string_bytes new.name ≡ name → new.bytes.items ≡ bytes → new.reads ≡ 0 → new.writes ≡ 0 → n ≡ length files
      → map change_of after ≡ map change_of log ++ noted keep (FilePut n bytes ∷ []) → held_of keep more after printed faults print_faults ≡ with_file name bytes (held_of keep files log printed faults print_faults)
  held_added is named contents reads writes end changes =
      let long : n ≡ length (map (λ (file : File). string_bytes file.name) files) = omega (arith, end, length-map files (λ (file : File). string_bytes file.name)) in
      let names = ap (map (λ (file : File). string_bytes file.name)) is ∙ map-append (λ (file : File). string_bytes file.name) files (new ∷ []) in
      let all_contents = ap (map (λ (file : File). file.bytes.items)) is ∙ map-append (λ (file : File). file.bytes.items) files (new ∷ []) in
      let all_reads = ap (map (λ (file : File). file.reads)) is ∙ map-append (λ (file : File). file.reads) files (new ∷ []) in
      let all_writes = ap (map (λ (file : File). file.writes)) is ∙ map-append (λ (file : File). file.writes) files (new ∷ []) in
      cc

-- a file was synced
pub held_synced : (keep : Bool) (files : List File) (log after : List Call) (printed : List ℕ) (faults print_faults n : ℕ) → map change_of after ≡ map change_of log ++ noted keep (FileSynced n ∷ [])
    → held_of keep files after printed faults print_faults ≡ with_sync n (held_of keep files log printed faults print_faults)
held_synced keep files log after printed faults print_faults n changes = cc

pub held_unnoted : (keep : Bool) (files : List File) (log after : List Call) (printed : List ℕ) (faults print_faults : ℕ) → after ≡ log → held_of keep files after printed faults print_faults ≡ held_of keep files log printed faults print_faults
held_unnoted keep files log after printed faults print_faults same = ap (λ (l : List Call). held_of keep files l printed faults print_faults) same

pub on_err_weaker : {T E P Q : Type 0} (result : Result T E) → (P → Q) → OnErr result P → OnErr result Q
on_err_weaker (Ok x) f stands = tt
on_err_weaker (Err e) f stands = f stands

-- two facts of a call that succeeded, and of one that failed
pub both_ok : {T E A B P : Type 0} (result : Result T E) → OnOk result A → OnOk result B → (A → B → P) → OnOk result P
both_ok (Ok x) first second f = f first second
both_ok (Err e) first second f = tt

pub both_err : {T E A B P : Type 0} (result : Result T E) → OnErr result A → OnErr result B → (A → B → P) → OnErr result P
both_err (Ok x) first second f = tt
both_err (Err e) first second f = f first second

-- what is true of each host, after a call that gave one of two
pub kept_either : {T E : Type 0} {k h done : Held} (result : Result T E) → OnOk result (k ≡ done) → OnErr result (k ≡ h) → IsKept done → IsKept h → IsKept k
kept_either (Ok x) is same kept old = subst IsKept (sym is) kept
kept_either (Err e) is same kept old = subst IsKept (sym same) old
