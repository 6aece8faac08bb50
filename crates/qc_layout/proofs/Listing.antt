-- How a list of extensions is read, one by one.
use Rattle.std.proofs.Common.{rules}
use Rattle.std.proofs.Common.{◌≡◌, ℕ, List, [], ◌∷◌, ◌++◌, refl, sym, subst, append_assoc}
use Rattle.std.proofs.lemmas.List.{append-nil}
use Rattle.qc_layout.specs.declared.extension.Extension.{Extension}
use Rattle.qc_layout.specs.Extensions.{IsEnd, IsExtension, AreExtensions, behind}

-- at the list's end no extension stands
pub end_or_extension : (file : List ℕ) (end from : ℕ) (e : Extension) → IsExtension file end from e → IsEnd file end from → ⊥
end_or_extension file end from e is h5 = search rules

-- one stands there at most
pub one_extension : (file : List ℕ) (end from : ℕ) (a b : Extension) → IsExtension file end from a → IsExtension file end from b → a ≡ b
one_extension file end from a b is other = search rules

-- What was found from a place on goes on at another: each list from there goes on, and where none is from there, none is.
pub record Follows (file : List ℕ) (end from at : ℕ) (found : List Extension) : Type 0 where
  pub goes_on : (rest : List Extension) → AreExtensions file end at rest → AreExtensions file end from (found ++ rest)
  pub comes : (es : List Extension) → AreExtensions file end from es → (rest : List Extension) × AreExtensions file end at rest

-- a list that begins with an extension goes on behind it
behind_one : (file : List ℕ) (end at : ℕ) (e : Extension) (es : List Extension) → IsExtension file end at e → AreExtensions file end at es
    → (rest : List Extension) × AreExtensions file end (behind e) rest
behind_one file end at e [] is are = absurd (end_or_extension file end at e is are)
behind_one file end at e (x ∷ xs) is are = (xs, subst (λ (y : Extension). AreExtensions file end (behind y) xs) (one_extension file end at x e are.0 is) are.1)

pub follows_one : (file : List ℕ) (end from at next : ℕ) (found : List Extension) (e : Extension) → Follows file end from at found → IsExtension file end at e → next ≡ behind e
    → Follows file end from next (found ++ e ∷ [])
follows_one file end from at next found e before is on = record {
  goes_on = λ rest are. rw append_assoc (before.goes_on (e ∷ rest) (is, subst (λ (n : ℕ). AreExtensions file end n rest) on are));
  comes = λ es are. let got = before.comes es are in
      let t = behind_one file end at e got.0 is got.1 in
      (t.0, subst (λ (n : ℕ). AreExtensions file end n t.0) (sym on) t.1);
}

-- at the list's end what was found is all
pub follows_all : (file : List ℕ) (end from at : ℕ) (found : List Extension) → Follows file end from at found → IsEnd file end at → AreExtensions file end from found
follows_all file end from at found before is = rw (← append-nil found) (before.goes_on [] is)

-- where neither an end nor an extension stands, there is no list
none_here : (file : List ℕ) (end at : ℕ) (es : List Extension) → (IsEnd file end at → ⊥) → ((e : Extension) → IsExtension file end at e → ⊥) → AreExtensions file end at es → ⊥
none_here file end at [] no_end no_extension are = no_end are
none_here file end at (e ∷ es) no_end no_extension are = no_extension e are.0

pub follows_none_here : (file : List ℕ) (end from at : ℕ) (found : List Extension) → Follows file end from at found
    → (IsEnd file end at → ⊥) → ((e : Extension) → IsExtension file end at e → ⊥) → (es : List Extension) → AreExtensions file end from es → ⊥
follows_none_here file end from at found before no_end no_extension es are = let got = before.comes es are in none_here file end at got.0 no_end no_extension got.1

-- ---- and what holds of a list

-- there is one list at most
pub one_listing : (file : List ℕ) (end from : ℕ) (es other : List Extension) → AreExtensions file end from es → AreExtensions file end from other → es ≡ other
one_listing file end from [] [] are same = refl
one_listing file end from [] (x ∷ xs) are same = absurd (end_or_extension file end from x same.0 are)
one_listing file end from (e ∷ es) [] are same = absurd (end_or_extension file end from e are.0 same)
one_listing file end from (e ∷ es) (x ∷ xs) are same =
    let first : e ≡ x = one_extension file end from e x are.0 same.0 in
    let rest : es ≡ xs = one_listing file end (behind e) es xs are.1 (subst (λ (y : Extension). AreExtensions file end (behind y) xs) (sym first) same.1) in
    cc
