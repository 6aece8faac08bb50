-- A value that was read has the members of each object in byte order of their names, each once.
use Rattle.std.proofs.lemmas.Grind.{common_steps}
use Rattle.std.proofs.lemmas.Cmp.{nat_list_cmp_total}
use Rattle.std.proofs.lemmas.Map.Text.{is_eq-slice_cmp}
use Rattle.std.proofs.Common.{◌≡◌, ℕ, List, Bool, true, ◌&&◌, Option, Some, None, Ordering, Greater, nat_cmp, refl, arith}
use Rattle.std.specs.Ordering.{match_ordering, is_lt}
use Rattle.std.specs.Cmp.Lexicographic.{slice_cmp}
use Rattle.json.specs.Json as json
use Rattle.serde_json.specs.Data.{Data, null, boolean, number, string, array, object, Items, no_items, item, Members, no_members, member, put}
use Rattle.serde_json.specs.Read.{of_json, of_items, of_members, read}
use Rattle.monitor_model.specs.Commands.{get}

-- the first of these names is above this one
abbrev pub is_below : List ℕ → Members → Bool
is_below k no_members = true
is_below k (member l d ms) = is_lt (slice_cmp nat_cmp k l)

-- names rise in each object, at any depth
abbrev mutual
  pub in_order : Data → Bool
  in_order null = true
  in_order (boolean b) = true
  in_order (number n) = true
  in_order (string s) = true
  in_order (array ds) = items_in_order ds
  in_order (object ms) = members_in_order ms

  pub items_in_order : Items → Bool
  items_in_order no_items = true
  items_in_order (item d ds) = in_order d && items_in_order ds

  pub members_in_order : Members → Bool
  members_in_order no_members = true
  members_in_order (member k d ms) = is_below k ms && (in_order d && members_in_order ms)

-- ---- what goes in

reversed : (k l : List ℕ) → slice_cmp nat_cmp k l ≡ Greater → is_lt (slice_cmp nat_cmp l k) ≡ true
reversed k l e = rw (nat_list_cmp_total.antisymm l k, e) refl

below-put : (k l : List ℕ) (d : Data) (ms : Members) → is_lt (slice_cmp nat_cmp l k) ≡ true → is_below l ms ≡ true → is_below l (put k d ms) ≡ true
below-put k l d no_members h b = h
below-put k l d (member m e ms) h b = grind (arith, common_steps)

in_order-put_at : (o : Ordering) (k l : List ℕ) (d e : Data) (ms : Members) → slice_cmp nat_cmp k l ≡ o → in_order d ≡ true → members_in_order (member l e ms) ≡ true → members_in_order (put k d ms) ≡ true
    → members_in_order (match_ordering o (member k d (member l e ms)) (member l d ms) (member l e (put k d ms))) ≡ true
in_order-put_at o k l d e ms is p q later = grind (arith, common_steps, below-put k l d ms, reversed k l)

in_order-put : (k : List ℕ) (d : Data) (ms : Members) → in_order d ≡ true → members_in_order ms ≡ true → members_in_order (put k d ms) ≡ true
in_order-put k d no_members p q = grind (arith, common_steps)
in_order-put k d (member l e ms) p q = in_order-put_at _ k l d e ms refl p q (in_order-put k d ms p (grind (arith, common_steps)))

mutual
  in_order-of_json : (j : json.Json) (d : Data) → of_json j ≡ Some d → in_order d ≡ true
  in_order-of_json (json.array js) d e = grind (arith, common_steps, in_order-of_items js)
  in_order-of_json (json.object ms) d e = grind (arith, common_steps, in_order-of_members ms no_members)
  in_order-of_json j d e = grind (arith, common_steps)

  in_order-of_items : (js : json.Items) (ds : Items) → of_items js ≡ Some ds → items_in_order ds ≡ true
  in_order-of_items json.no_items ds e = grind (arith, common_steps)
  in_order-of_items (json.item j js) ds e = grind (arith, common_steps, in_order-of_json j, in_order-of_items js)

  in_order-of_members : (js : json.Members) (found ms : Members) → members_in_order found ≡ true → of_members js found ≡ Some ms → members_in_order ms ≡ true
  in_order-of_members json.no_members found ms all e = grind (arith, common_steps)
  in_order-of_members (json.member k j js) found ms all e = grind (arith, common_steps, in_order-of_json j, λ (d : Data). in_order-of_members js (put k d found) ms, λ (d : Data). in_order-put k d found)

pub in_order-read : (message : List ℕ) (d : Data) → read message ≡ Some d → in_order d ≡ true
in_order-read message d e = grind (arith, common_steps, in_order-of_json)

-- ---- what is found

below_above : (k l : List ℕ) (ms : Members) → is_lt (slice_cmp nat_cmp k l) ≡ true → is_below l ms ≡ true → is_below k ms ≡ true
below_above k l no_members h b = refl
below_above k l (member m d ms) h b = grind (arith, common_steps, nat_list_cmp_total.trans k l m)

-- a name that is below the others isn't among them
pub get-below : (k : List ℕ) (ms : Members) → is_below k ms ≡ true → members_in_order ms ≡ true → get k ms ≡ None
get-below k no_members b h = refl
get-below k (member l d ms) b h = grind (arith, common_steps, is_eq-slice_cmp k l, below_above k l ms, get-below k ms)

abbrev pub found_in_order : Option Data → Bool
found_in_order None = true
found_in_order (Some d) = in_order d

pub in_order-get : (name : List ℕ) (ms : Members) → members_in_order ms ≡ true → found_in_order (get name ms) ≡ true
in_order-get name no_members h = refl
in_order-get name (member k d ms) h = grind (arith, common_steps, in_order-get name ms)
