-- A count of an entry that rises.
use Rattle.std.proofs.Common.{◌≡◌, ◌≢◌, ℕ, zero, suc, ◌<◌, ◌≤◌, List, [], ◌∷◌, length, map, get_or, set, refl, sym, ◌∙◌, ap, subst, arith, string_bytes, get_or-set_other}
use Rattle.std.proofs.lemmas.List.{map-set, length-set}
use Rattle.std.proofs.Math.Seq.{map-set_same}
use Rattle.disk_model.specs.World.{World, Parts, Runs, reads_of, writes_of, IsGiven, IsQuiet, Rose}
use Rattle.disk_model.proofs.Laws.{stay}
use Rattle.qback.specs.declared.table.Opened.{Opened}
use Rattle.qback.specs.Real.{told}

-- the entry keeps this field
kept : {Y : Type 0} (field : Opened → Y) (table : List Opened) (i : ℕ) (e new : Opened) → e ≡ get_or table i e → field new ≡ field e → map field (set table i new) ≡ map field table
kept field table i e new is same = map-set_same field table i new e (same ∙ ap field is)

-- a count of an entry of another number stays
other : (field : Opened → ℕ) (table : List Opened) (i g : ℕ) (new : Opened) → g ≢ i → get_or (map field (set table i new)) g 0 ≡ get_or (map field table) g 0
other field table i g new apart = ap (λ xs. get_or xs g 0) (map-set field table i new) ∙ get_or-set_other (map field table) i g (field new) 0 apart

-- the count of the entry
count_was : (field : Opened → ℕ) (table : List Opened) (i : ℕ) (e : Opened) → i < length table → e ≡ get_or table i e → get_or (map field table) i 0 ≡ field e
count_was field [] i e below is = absurd (omega (arith, below))
count_was field (x ∷ xs) zero e below is = ap field (sym is)
count_was field (x ∷ xs) (suc i) e below is = count_was field xs i e (omega (arith, below)) is

count_is : (field : Opened → ℕ) (table : List Opened) (i : ℕ) (new : Opened) → i < length table → get_or (map field (set table i new)) i 0 ≡ field new
count_is field [] i new below = absurd (omega (arith, below))
count_is field (x ∷ xs) zero new below = refl
count_is field (x ∷ xs) (suc i) new below = count_is field xs i new (omega (arith, below))

-- where the count of the entry doesn't fall, none does
no_less : (field : Opened → ℕ) (table : List Opened) (i : ℕ) (e new : Opened) → e ≡ get_or table i e → field e ≤ field new → (g : ℕ) → get_or (map field table) g 0 ≤ get_or (map field (set table i new)) g 0
no_less field [] i e new is most g = omega arith
no_less field (x ∷ xs) zero e new is most zero = omega (arith, most, ap field is)
no_less field (x ∷ xs) zero e new is most (suc g) = omega arith
no_less field (x ∷ xs) (suc i) e new is most zero = omega arith
no_less field (x ∷ xs) (suc i) e new is most (suc g) = no_less field xs i e new is most g

equal_no_less : (m n : ℕ) → n ≡ m → m ≤ n
equal_no_less m n same = omega (arith, same)

module _ (table : List Opened) (i : ℕ) (e new : Opened) (is : e ≡ get_or table i e) (faults more prints : ℕ) (most : faults ≤ more) (name : string_bytes new.name ≡ string_bytes e.name) where
  name_kept : (f : ℕ) → get_or (map (λ o. string_bytes o.name) (set table i new)) f [] ≡ get_or (map (λ o. string_bytes o.name) table) f []
  name_kept f = ap (λ xs. get_or xs f []) (kept (λ o. string_bytes o.name) table i e new is name)

  -- the count of failed reads of an entry rises
  pub reads_rise : new.write_faults ≡ e.write_faults → e.read_faults ≤ new.read_faults → Runs (reads_of i) (told table faults prints) (told (set table i new) more prints)
  reads_rise same up =
      let writes : (f : ℕ) → get_or (map (λ o. o.write_faults) (set table i new)) f 0 ≡ get_or (map (λ o. o.write_faults) table) f 0 = λ f. ap (λ xs. get_or xs f 0) (kept (λ o. o.write_faults) table i e new is same) in
      record {
        goes = record {
          later = omega arith;
          kept = λ k f le. refl;
          lasts = λ k f from to there. there;
          tells = refl;
          outcomes = refl;
          prints = refl;
          given = equal_no_less _ _ (length-set table i new);
          named = λ f below. name_kept f;
          counts = record { shared = most; reads = no_less (λ o. o.read_faults) table i e new is up; writes = λ f. equal_no_less _ _ (writes f); prints = omega arith };
          send_faults = omega arith;
        };
        files = λ g apart. record { seen = refl; moments = λ k from to. refl; unwritten = writes g };
        unread = λ g apart. other (λ o. o.read_faults) table i g new apart;
        found = λ other apart. refl;
        text = λ apart. record { printed = refl; unprinted = refl };
        wire = λ apart. refl;
      }

  -- the count of failed writes of an entry rises
  pub writes_rise : new.read_faults ≡ e.read_faults → e.write_faults ≤ new.write_faults → Runs (writes_of i) (told table faults prints) (told (set table i new) more prints)
  writes_rise same up =
      let reads : (f : ℕ) → get_or (map (λ o. o.read_faults) (set table i new)) f 0 ≡ get_or (map (λ o. o.read_faults) table) f 0 = λ f. ap (λ xs. get_or xs f 0) (kept (λ o. o.read_faults) table i e new is same) in
      record {
        goes = record {
          later = omega arith;
          kept = λ k f le. refl;
          lasts = λ k f from to there. there;
          tells = refl;
          outcomes = refl;
          prints = refl;
          given = equal_no_less _ _ (length-set table i new);
          named = λ f below. name_kept f;
          counts = record { shared = most; reads = λ f. equal_no_less _ _ (reads f); writes = no_less (λ o. o.write_faults) table i e new is up; prints = omega arith };
          send_faults = omega arith;
        };
        files = λ g apart. record { seen = refl; moments = λ k from to. refl; unwritten = other (λ o. o.write_faults) table i g new apart };
        unread = λ g apart. reads g;
        found = λ other apart. refl;
        text = λ apart. record { printed = refl; unprinted = refl };
        wire = λ apart. refl;
      }

-- an entry whose name and counts stay tells the same
module _ (table : List Opened) (i : ℕ) (e new : Opened) (is : e ≡ get_or table i e) (faults prints : ℕ) (name : string_bytes new.name ≡ string_bytes e.name) where
  told_same : new.read_faults ≡ e.read_faults → new.write_faults ≡ e.write_faults → told (set table i new) faults prints ≡ told table faults prints
  told_same reads writes = rw (length-set table i new, kept (λ o. string_bytes o.name) table i e new is name, kept (λ o. o.read_faults) table i e new is reads, kept (λ o. o.write_faults) table i e new is writes) refl

  pub runs_same : (parts : Parts) → new.read_faults ≡ e.read_faults → new.write_faults ≡ e.write_faults → Runs parts (told table faults prints) (told (set table i new) faults prints)
  runs_same parts reads writes = subst (λ (w : World). Runs parts (told table faults prints) w) (sym (told_same reads writes)) (stay parts (told table faults prints))

  -- a count of it rises from what it was
  pub rose_from : (field : Opened → ℕ) (after : ℕ) → field new ≡ field e → Rose (get_or (map field (set table i new)) i 0) after → Rose (get_or (map field table) i 0) after
  rose_from field after same rose = subst (λ (xs : List ℕ). Rose (get_or xs i 0) after) (kept field table i e new is same) rose

  pub quiet_same : new.read_faults ≡ e.read_faults → new.write_faults ≡ e.write_faults → IsQuiet (told table faults prints) (told (set table i new) faults prints)
  quiet_same reads writes = subst (λ (w : World). IsQuiet (told table faults prints) w) (sym (told_same reads writes)) (record { shared = refl; reads = λ f. refl; writes = λ f. refl; prints = refl })

  pub runs_from : (parts : Parts) (after : World) → new.read_faults ≡ e.read_faults → new.write_faults ≡ e.write_faults → Runs parts (told (set table i new) faults prints) after → Runs parts (told table faults prints) after
  runs_from parts after reads writes run = subst (λ (w : World). Runs parts w after) (told_same reads writes) run

-- the count of the entry rose
pub count_rose : (field : Opened → ℕ) (table : List Opened) (i : ℕ) (e new : Opened) → i < length table → e ≡ get_or table i e → Rose (field e) (field new) → Rose (get_or (map field table) i 0) (get_or (map field (set table i new)) i 0)
count_rose field table i e new below is rose = omega (arith, rose, count_was field table i e below is, count_is field table i new below)

-- the name of an entry of the table
pub entry_name : (table : List Opened) (i : ℕ) (e : Opened) → i < length table → e ≡ get_or table i e → get_or (map (λ o. string_bytes o.name) table) i [] ≡ string_bytes e.name
entry_name [] i e below is = absurd (omega (arith, below))
entry_name (x ∷ xs) zero e below is = ap (λ o. string_bytes o.name) (sym is)
entry_name (x ∷ xs) (suc i) e below is = entry_name xs i e (omega (arith, below)) is

-- an entry of this name was found
pub found_at : (table items : List Opened) (i number : ℕ) (e : Opened) (text name : List ℕ) (faults prints : ℕ) → items ≡ table → i < length items → e ≡ get_or items i e → number ≡ i → text ≡ string_bytes e.name → text ≡ name
    → IsGiven number name (told table faults prints)
found_at table items i number e text name faults prints same below is at bytes named = record {
  below = omega (arith, below, at, ap length same);
  named = ap (λ k. get_or (map (λ o. string_bytes o.name) table) k []) at ∙ ap (λ xs. get_or (map (λ o. string_bytes o.name) xs) i []) (sym same) ∙ entry_name items i e below is ∙ sym bytes ∙ named;
}
