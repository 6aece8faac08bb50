-- A part of a buffer that a call filled.
use Rattle.std.proofs.Common.{◌≡◌, ℕ, ◌-◌, ◌<◌, ◌≤◌, List, ◌++◌, length, take, drop, sym, ◌∙◌, ap, arith, length-append, length-drop}
use Rattle.std.proofs.lemmas.List.{get_or-take, get_or_append_left, get_or-append_right, length-take}
use Rattle.std.proofs.lemmas.Slice.{take-put_mid}
use borrow.Rule.Slice.PartMut.{put_mid}
use Rattle.disk_model.specs.Files.{byte}

pub length_mid : (out : List ℕ) (done end : ℕ) → done ≤ end → end ≤ length out → length (take (end - done) (drop done out)) ≡ end - done
length_mid out done end order within = omega (arith, length-take (end - done) (drop done out), length-drop done out)

module _ (out piece : List ℕ) (done end : ℕ) (order : done ≤ end) (within : end ≤ length out) (long : length piece ≡ end - done) where
  abbrev put : List ℕ
  put = put_mid done (end - done) out piece

  pub length_put : length put ≡ length out
  length_put = omega (arith, length-append (take done out) (piece ++ drop (end - done) (drop done out)), length-append piece (drop (end - done) (drop done out)), length-take done out, length-drop (end - done) (drop done out), length-drop done out)

  front : take end put ≡ take done out ++ piece
  front = take-put_mid done (end - done) out piece end (omega (arith, long)) (omega arith)

  at_front : (x : ℕ) → x < end → byte put x ≡ byte (take done out ++ piece) x
  at_front x inside = sym (get_or-take end put x 0 inside) ∙ ap (λ (l : List ℕ). byte l x) front

  pub put_before : (x : ℕ) → x < done → byte put x ≡ byte out x
  put_before x below = at_front x (omega arith) ∙ get_or_append_left (take done out) piece 0 x (omega (arith, length-take done out)) ∙ get_or-take done out x 0 below

  pub put_in : (x : ℕ) → done ≤ x → x < end → byte put x ≡ byte piece (x - done)
  put_in x from to = at_front x to ∙ get_or-append_right (take done out) piece done x 0 (omega (arith, length-take done out)) from
