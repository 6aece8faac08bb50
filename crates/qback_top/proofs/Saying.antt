-- Texts that are printed in part.
use Rattle.std.proofs.Common.{◌≡◌, inl, inr, ℕ, ◌+◌, List, ◌++◌, length, take, IsTrue, sym, ap, subst, ◌∙◌, arith, append_assoc}
use Rattle.std.proofs.lemmas.Bool.{cases_lt}
use Rattle.std.proofs.Math.Seq.{take-append_seam, take-append-add}
use Rattle.std.proofs.lemmas.List.{take_all, take-append-le, append-nil}
use Rattle.disk_model.specs.World.{World, Parts, Runs, only_text, PrintsPart}

-- a run that prints alone left each file as it was
pub text_same : {a b : World} (f : ℕ) → Runs only_text a b → b.seen f ≡ a.seen f
text_same f run = (run.files f (λ none. none)).seen

-- a part printed after a run that prints nothing is a part printed since its start
pub part_after : {parts : Parts} {a b : World} (c : World) (text : List ℕ) → Runs parts a b → (parts.text → ⊥) → PrintsPart text b c → PrintsPart text a c
part_after c text run none part prints =
    let p = part (subst IsTrue (sym run.goes.prints) prints) in
    (p.0, p.1 ∙ ap (λ (t : List ℕ). t ++ take p.0 text) ((run.text none).printed))

-- so is a whole text
pub said_after : {parts : Parts} {a b : World} (c : World) (text : List ℕ) → Runs parts a b → (parts.text → ⊥) → (IsTrue b.prints → c.printed ≡ b.printed ++ text) → IsTrue a.prints → c.printed ≡ a.printed ++ text
said_after c text run none said prints = said (subst IsTrue (sym run.goes.prints) prints) ∙ ap (λ (t : List ℕ). t ++ text) ((run.text none).printed)

-- a part of the first text is a part of both
pub part_first : (a b : List ℕ) (old new : World) → PrintsPart a old new → PrintsPart (a ++ b) old new
part_first a b old new part told =
    let p = part told in
    elim (cases_lt (length a) p.0) [
      | inl past ↦ (length a, p.1 ∙ ap (λ (t : List ℕ). old.printed ++ t) (take_all p.0 a (omega arith) ∙ sym (take-append_seam a b)))
      | inr within ↦ (p.0, p.1 ∙ ap (λ (t : List ℕ). old.printed ++ t) (sym (take-append-le p.0 a b within)))
    ]

-- the first text, and then a part of the second, is a part of both
pub part_next : (a b : List ℕ) (old mid new : World) → mid.prints ≡ old.prints → (IsTrue old.prints → mid.printed ≡ old.printed ++ a) → PrintsPart b mid new → PrintsPart (a ++ b) old new
part_next a b old mid new tells whole part told =
    let p = part (subst IsTrue (sym tells) told) in
    (length a + p.0, p.1 ∙ ap (λ (t : List ℕ). t ++ take p.0 b) (whole told) ∙ append_assoc old.printed a (take p.0 b) ∙ ap (λ (t : List ℕ). old.printed ++ t) (sym (take-append-add a b p.0)))

-- all of it is a part
pub part_whole : (a : List ℕ) (old new : World) → (IsTrue old.prints → new.printed ≡ old.printed ++ a) → PrintsPart a old new
part_whole a old new whole told = (length a, whole told ∙ ap (λ (t : List ℕ). old.printed ++ t) (sym (take_all (length a) a (omega arith))))

-- nothing of it is a part
pub part_none : (a : List ℕ) (old new : World) → new.printed ≡ old.printed → PrintsPart a old new
part_none a old new same told = (0, same ∙ sym (append-nil old.printed))
