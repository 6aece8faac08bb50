-- Texts one after another, each with its length before it.
use Rattle.std.proofs.Common.{◌≡◌, ◌<◌, ◌≤◌, ◌-◌, ℕ, zero, suc, List, [], ◌∷◌, ◌++◌, length, Option, Some, None, arith, refl, ap, append_assoc}
use Rattle.std.proofs.lemmas.Grind.{common_steps}
use Rattle.std.specs.Prelude.{option_map, is_some}
use Rattle.nbd_model.specs.Options.{Cut, cut_text, texts_of}

-- ---- one text, and the rest

one_more : (n : ℕ) (bytes : List ℕ) (c : Cut) → cut_text bytes ≡ Some c → 0 < n → texts_of n bytes ≡ option_map (λ texts. c.text ∷ texts) (texts_of (n - 1) c.rest)
one_more zero bytes c is some = grind arith
one_more (suc n) bytes c is some = grind (arith, common_steps)

none_more : (n : ℕ) (bytes : List ℕ) → cut_text bytes ≡ None → 0 < n → texts_of n bytes ≡ None
none_more zero bytes is some = grind arith
none_more (suc n) bytes is some = grind (arith, common_steps)

one_in_front : (text : List ℕ) (texts : Option (List (List ℕ))) → is_some texts ≡ is_some (option_map (λ ts. text ∷ ts) texts)
one_in_front text None = refl
one_in_front text (Some texts) = refl

pub one_less : (n : ℕ) (bytes : List ℕ) (c : Cut) → cut_text bytes ≡ Some c → 0 < n → is_some (texts_of (n - 1) c.rest) ≡ is_some (texts_of n bytes)
one_less n bytes c is some = rw (one_more n bytes c is some) (one_in_front c.text (texts_of (n - 1) c.rest))

-- ---- those that are kept, and the rest

one_kept : (kept : List (List ℕ)) (text : List ℕ) (texts : Option (List (List ℕ))) → option_map (λ ts. (kept ++ text ∷ []) ++ ts) texts ≡ option_map (λ ts. kept ++ ts) (option_map (λ ts. text ∷ ts) texts)
one_kept kept text None = refl
one_kept kept text (Some texts) = ap Some (append_assoc kept (text ∷ []) texts)

pub kept_more : (n : ℕ) (bytes : List ℕ) (c : Cut) (kept : List (List ℕ)) → cut_text bytes ≡ Some c → 0 < n
    → option_map (λ ts. (kept ++ c.text ∷ []) ++ ts) (texts_of (n - 1) c.rest) ≡ option_map (λ ts. kept ++ ts) (texts_of n bytes)
kept_more n bytes c kept is some = rw (one_more n bytes c is some) (one_kept kept c.text (texts_of (n - 1) c.rest))

pub all_kept : (kept texts : List (List ℕ)) (n : ℕ) (bytes : List ℕ) → n ≤ 0 → option_map (λ ts. kept ++ ts) (texts_of n bytes) ≡ Some texts → kept ≡ texts
all_kept kept texts zero [] none is = grind (arith, common_steps)
all_kept kept texts zero (b ∷ bytes) none is = grind (arith, common_steps)
all_kept kept texts (suc n) bytes none is = grind arith

pub none_kept : (kept texts : List (List ℕ)) (n : ℕ) (bytes : List ℕ) → cut_text bytes ≡ None → 0 < n → option_map (λ ts. kept ++ ts) (texts_of n bytes) ≡ Some texts → kept ≡ texts
none_kept kept texts n bytes is some kept_all = let not : None ≡ Some texts = rw (none_more n bytes is some) at kept_all in grind arith

-- ---- how many there are

pub so_many : (n : ℕ) (bytes : List ℕ) (texts : List (List ℕ)) → texts_of n bytes ≡ Some texts → length texts ≡ n
so_many zero [] texts is = grind (arith, common_steps)
so_many zero (b ∷ bytes) texts is = grind (arith, common_steps)
so_many (suc n) bytes texts is = grind (arith, common_steps, so_many n)
