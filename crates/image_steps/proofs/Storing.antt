-- Data first, and then the entries that name it.
use Rattle.std.proofs.Common.{ℕ, ◌+◌, ◌<◌, ◌≤◌, IsTrue, List, ◌∷◌, ◌∙◌, subst, arith}
use Rattle.disk_model.specs.World.{World, Parts, Runs}
use Rattle.image_model.specs.Clusters.{Shape, per, place, SameIn, IsStanding}
use Rattle.image_model.specs.Calls.{LeavesGuest}
use Rattle.image_model.specs.Runs.{IsFilling, IsHolding, HasData, IsLinking, LeavesRest, IsLinked, AreAsBefore, IsStored}
use Rattle.image_steps.proofs.Links.{keeps_on, keeps_takeable}
use Rattle.image_steps.proofs.Naming.{same_host}
use Rattle.image_steps.proofs.Standing.{stands_less}

-- clusters that hold data are passed over
pub holding_stands : {s : Shape} {disks : List (List ℕ)} {k n first last f : ℕ} {w : World} (e : List ℕ) → IsHolding s disks k n first last f w → first ≤ last → IsStanding s (e ∷ disks) first last f w
holding_stands {s} {disks} {k} {n} {first} {last} {f} {w} e holds low = stands_less {s = s} {disks = disks} {first = first} {on = first} {last = last} {f = f} {w = w} e (omega arith) low (λ told. (holds told).standing)

-- what left all of the guest's as it was leaves holes for the entries
pub linking_on : {parts : Parts} {s : Shape} {first k n q i j spot f : ℕ} {words : List ℕ} {a b : World} → Runs parts a b → IsLinking s first k n q i j spot f words a → (IsTrue a.tells → LeavesGuest s (a.seen f) (b.seen f)) → IsLinking s first k n q i j spot f words b
linking_on {parts} {s} {first} {k} {n} {q} {i} {j} {spot} {f} {words} {a} {b} run is leaves = record {
  shape = is.shape;
  slots = is.slots;
  some = is.some;
  below = is.below;
  links = is.links;
  opened = λ told.
      let was = subst IsTrue run.goes.tells told in
      let left = leaves was in
      record {
        linked = left.keeps.tables i q (is.opened was).linked;
        none = λ m m_in. same_host s (a.seen f) (b.seen f) i (j + m) (left.alike.entries i (j + m) is.slots.index (omega (arith, is.slots.slots, m_in))) ∙ (is.opened was).none m m_in;
      };
}

-- and leaves what is ready to be filled, where the ready clusters begin no later than these, and end no earlier than before
pub filling_on : {parts : Parts} {s : Shape} {first last k n at long f : ℕ} {a b : World} (on last_on : ℕ) → Runs parts a b → IsFilling s first last k n at long f a → on ≤ k → last ≤ last_on → (IsTrue a.tells → LeavesGuest s (a.seen f) (b.seen f))
    → IsFilling s on last_on k n at long f b
filling_on {parts} {s} {first} {last} {k} {n} {at} {long} {f} {a} {b} on last_on run is low more leaves = record {
  shape = is.shape;
  some = is.some;
  low = is.low;
  high = is.high;
  from = low;
  to = omega (arith, is.to, more);
  takeable = λ m m_in told. let was = subst IsTrue run.goes.tells told in keeps_takeable s (a.seen f) (b.seen f) (k + m) (leaves was).keeps (is.takeable m m_in was);
}

pub rest_of : {s : Shape} {i j n : ℕ} {old new : List ℕ} → LeavesGuest s old new → LeavesRest s i j n old new
rest_of left = record { keeps = left.keeps; entries = λ a b a_in b_in other. left.alike.entries a b a_in b_in; disk = λ a b o a_in b_in o_in other. left.alike.disk a b o a_in b_in o_in }

pub rest_after : {s : Shape} {i j n : ℕ} {a b c : List ℕ} → LeavesGuest s a b → LeavesRest s i j n b c → LeavesRest s i j n a c
rest_after {s} {i} {j} {n} {a} {b} {c} first second = record {
  keeps = keeps_on s a b c first.keeps second.keeps;
  entries = λ x y x_in y_in other. second.entries x y x_in y_in other ∙ first.alike.entries x y x_in y_in;
  disk = λ x y o x_in y_in o_in other t low high. second.disk x y o x_in y_in o_in other t low high ∙ first.alike.disk x y o x_in y_in o_in t low high;
}

-- what a cluster held is what its guest's cluster shows
pub stored_by : (s : Shape) (k n i j m word at : ℕ) (bytes old new : List ℕ) → HasData s k n at bytes old → m < n → IsLinked s i (j + m) (k + m) word old new → IsStored s i (j + m) (k + m) word at bytes new
stored_by s k n i j m word at bytes old new has m_in is = record {
  names = is.names;
  host_is = is.at;
  shows = record {
    inside = λ t t_in low high. is.shows t t_in ∙ has.inside m t m_in t_in low high;
    outside = λ t t_in out. is.shows t t_in ∙ has.outside m t m_in t_in out;
  };
}

-- it stays there while its clusters do
pub has_data_on : (s : Shape) (k n at : ℕ) (bytes old new : List ℕ) → HasData s k n at bytes old → ((m : ℕ) → m < n → SameIn s (k + m) old new) → HasData s k n at bytes new
has_data_on s k n at bytes old new has same = record {
  inside = λ m t m_in t_in low high. same m m_in (place s (k + m) + t) (omega arith) (omega (arith, t_in)) ∙ has.inside m t m_in t_in low high;
  outside = λ m t m_in t_in out. same m m_in (place s (k + m) + t) (omega arith) (omega (arith, t_in)) ∙ has.outside m t m_in t_in out;
}

pub before_after : (s : Shape) (q i j n x : ℕ) (a b c : List ℕ) (slots : (m : ℕ) → m < n → j + m < per s) → i < s.tables → LeavesGuest s a b → AreAsBefore s q i j n x b c → AreAsBefore s q i j n x a c
before_after s q i j n x a b c slots i_in first same m m_in here = same m m_in here ∙ first.alike.entries i (j + m) i_in (slots m m_in)
