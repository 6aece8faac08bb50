-- What is sent piece by piece.
use Rattle.std.proofs.Common.{◌≡◌, ℕ, ◌+◌, ◌<◌, List, [], ◌∷◌, ◌++◌, length, take, drop, get_or, arith, append_assoc, sym, ap, ◌∙◌, subst}
use Rattle.std.specs.Prelude.{Result, OnOk}
use Rattle.std.specs.declared.alloc.AllocError.{AllocError}
use Rattle.std.proofs.lemmas.List.{at_drop_more}
use Rattle.nbd_model.specs.Options.{option_reply}
use Rattle.std.proofs.lemmas.Grind.{common_steps}
use Rattle.nbd_session.specs.Parts.{Grows}

pub grows_not : (a b : List ℕ) → b ≡ a → Grows a b
grows_not a b is = record { more = []; is = grind (arith, common_steps) }

pub grows_by : (a b c more : List ℕ) → Grows a b → c ≡ b ++ more → Grows a c
grows_by a b c more first is = record { more = first.more ++ more; is = grind (arith, common_steps, first.is, append_assoc) }

pub grows_back : (a b : List ℕ) → Grows a b → take (length a) b ≡ a
grows_back a b grown = rw grown.is (grind (arith, common_steps))

pub item_first : {X : Type 0} (items : List X) (i : ℕ) (x : X) → i < length items → x ≡ get_or items i x → drop i items ≡ x ∷ drop (i + 1) items
item_first items i x there is = at_drop_more (λ l. l) items i x there ∙ ap (λ y. y ∷ drop (i + 1) items) (sym is)

-- a list's replies: what the first item adds, and those of the rest
pub sends_on : {X : Type 0} (F G : List X → List ℕ) (items : List X) (i : ℕ) (x : X) (out added next all : List ℕ) → i < length items → x ≡ get_or items i x
    → F (x ∷ drop (i + 1) items) ≡ added ++ G (drop (i + 1) items) → next ≡ out ++ added → out ++ F (drop i items) ≡ all → next ++ G (drop (i + 1) items) ≡ all
sends_on F G items i x out added next all there is step sent invariant =
    ap (λ l. l ++ G (drop (i + 1) items)) sent ∙ append_assoc out added (G (drop (i + 1) items)) ∙ ap (λ l. out ++ l) (sym step) ∙ ap (λ l. out ++ F l) (sym (item_first items i x there is)) ∙ invariant

-- a reply with this content
pub replied : (r : Result (Unit {0}) AllocError) (out new content other : List ℕ) (option kind : ℕ) → OnOk r (new ≡ out ++ option_reply option kind content) → content ≡ other
    → OnOk r (new ≡ out ++ option_reply option kind other)
replied r out new content other option kind sent is = let P : List ℕ → Type 0 = λ l. OnOk r (new ≡ out ++ option_reply option kind l) in subst P is sent
