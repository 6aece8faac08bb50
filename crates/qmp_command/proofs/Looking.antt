-- Values as the monitor's definitions look into them, beside how `serde_json` does.
use Rattle.std.proofs.lemmas.Grind.{common_steps}
use Rattle.std.proofs.lemmas.Map.Text.{is_eq-slice_cmp}
use Rattle.std.proofs.Common.{◌≡◌, ℕ, List, [], ◌∷◌, map, Bool, false, cond, Option, Some, is_some, option_map, unwrap_or, Ordering, Less, Equal, Greater, is_eq, bytes_eq, length, ◌||◌, ◌==◌, refl, ap, ◌∙◌, arith}
use Rattle.std.specs.List.{list_all, list_any}
use Rattle.std.specs.Ordering.{nat_cmp, match_ordering}
use Rattle.std.specs.Cmp.Lexicographic.{slice_cmp}
use Rattle.serde_json.specs.Data.{Data, null, boolean, number, string, array, object, Members, no_members, member}
use Rattle.serde_json.specs.Find as find
use Rattle.serde_json.specs.View.{view, items_of, items_view}
use Rattle.serde_json.specs.declared.value.Value.{Value}
use Rattle.monitor_model.specs.Commands as model

-- ---- members

either : (o : Ordering) (a b : Option Data) → match_ordering o a b a ≡ cond (is_eq o) b a
either Less a b = refl
either Equal a b = refl
either Greater a b = refl

get_member-get : (name : List ℕ) (ms : Members) → find.get_member name ms ≡ model.get name ms
get_member-get name no_members = refl
get_member-get name (member k d ms) = either (slice_cmp nat_cmp name k) (find.get_member name ms) (Some d) ∙ rw (is_eq-slice_cmp name k, get_member-get name ms) refl

pub get-members_in : (name : List ℕ) (d : Data) → find.get name d ≡ model.get name (model.members_in (Some d))
get-members_in name null = refl
get-members_in name (boolean b) = refl
get-members_in name (number n) = refl
get-members_in name (string s) = refl
get-members_in name (array ds) = refl
get-members_in name (object ms) = get_member-get name ms

-- ---- forms

pub is_text-as_str : (d : Data) → model.is_text d ≡ is_some (find.as_str d)
is_text-as_str d = grind (arith, common_steps)

pub is_object-as_object : (d : Data) → model.is_object d ≡ is_some (find.as_object d)
is_object-as_object d = grind (arith, common_steps)

-- ---- lists

is_list-as_array : (test : Data → Bool) (d : Data) → model.is_list test d ≡ unwrap_or (option_map (model.all_items test) (find.as_array d)) false
is_list-as_array test d = grind (arith, common_steps)

pub list_of-items_of : (ds : List Data) → model.list_of (items_of ds) ≡ ds
list_of-items_of [] = refl
list_of-items_of (d ∷ ds) = ap (λ es. d ∷ es) (list_of-items_of ds)

pub items_in-as_array : (d : Data) → model.items_in (Some d) ≡ unwrap_or (option_map model.list_of (find.as_array d)) []
items_in-as_array d = grind (arith, common_steps)

pub ruleset looks = (get-members_in, items_in-as_array, list_of-items_of)

-- a list whose items pass a test that says the same
all_items_same : (f g : Data → Bool) → ((d : Data) → f d ≡ g d) → (vs : List Value) → model.all_items f (items_view vs) ≡ list_all (λ v. g (view v)) vs
all_items_same f g same [] = refl
all_items_same f g same (v ∷ vs) = rw (same (view v), all_items_same f g same vs) refl

pub list_tested : (f g : Data → Bool) → ((d : Data) → f d ≡ g d) → (d : Data) (vs : List Value) → find.as_array d ≡ Some (items_view vs) → model.is_list f d ≡ list_all (λ v. g (view v)) vs
list_tested f g same d vs e = is_list-as_array f d ∙ ap (λ o. unwrap_or (option_map (model.all_items f) o) false) e ∙ all_items_same f g same vs

empty_items : (vs : List Value) → model.all_items model.is_none_of_any (items_view vs) ≡ (length vs == 0)
empty_items [] = refl
empty_items (v ∷ vs) = grind (arith, common_steps)

pub list_empty : (d : Data) (vs : List Value) → find.as_array d ≡ Some (items_view vs) → model.is_list model.is_none_of_any d ≡ (length vs == 0)
list_empty d vs e = is_list-as_array model.is_none_of_any d ∙ ap (λ o. unwrap_or (option_map (model.all_items model.is_none_of_any) o) false) e ∙ empty_items vs

pub is_source-either : (d : Data) → model.is_source d ≡ (is_some (find.as_str d) || is_some (find.as_object d))
is_source-either d = grind (arith, common_steps)

pub is_one_of-as_str : (words : List (List ℕ)) (d : Data) (s : List ℕ) → find.as_str d ≡ Some s → model.is_one_of words d ≡ list_any (λ word. bytes_eq word s) words
is_one_of-as_str words d s e = grind (arith, common_steps)

pub list_any-map : {A B : Type 0} (p : B → Bool) (f : A → B) (xs : List A) → list_any p (map f xs) ≡ list_any (λ x. p (f x)) xs
list_any-map p f [] = refl
list_any-map p f (x ∷ xs) = ap (λ b. p (f x) || b) (list_any-map p f xs)
