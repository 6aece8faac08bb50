-- Roles that no contract names: from one standing to the next.
use Rattle.std.proofs.Common.{◌≡◌, ◌≢◌, ◌⊎◌, inl, inr, ⊎_elim, ℕ, ◌+◌, ◌*◌, ◌<◌, ◌≤◌, IsTrue, List, ◌∷◌, refl, sym, ◌∙◌, ap, subst, arith}
use Rattle.std.proofs.Math.Nat.{mul-le-mul_left}
use Rattle.std.proofs.lemmas.Bool.{cases_eq, cases_lt}
use Rattle.disk_model.specs.World.{World, Parts, Runs, IsSound, EachSince, Holds, Leads}
use Rattle.disk_model.proofs.Laws.{told_at, since_on}
use Rattle.image_model.specs.Clusters.{Shape, Who, Block, Use, Fresh, Ready, Of, IsGood, IsOwn, Standing, IsStanding, Moves, IsTaking, IsOwnCount, IsBlock, each}
use Rattle.image_model.specs.Calls.{IsTakeable, IsAmong}
use Rattle.image_steps.proofs.Good.{more_good}

-- ---- a role changes

pub put : (role : ℕ → Use) (k : ℕ) (u : Use) (m : ℕ) → Use
put role k u m = ⊎_elim (λ same. u) (λ differ. role m) (cases_eq m k)

chosen : {A B : Type 0} (C : Type 0) (a b : C) (either : A ⊎ B) → (B → ⊥) → ⊎_elim (λ (x : A). a) (λ (y : B). b) either ≡ a
chosen C a b (inl x) none = refl
chosen C a b (inr y) none = absurd (none y)

rejected : {A B : Type 0} (C : Type 0) (a b : C) (either : A ⊎ B) → (A → ⊥) → ⊎_elim (λ (x : A). a) (λ (y : B). b) either ≡ b
rejected C a b (inl x) none = absurd (none x)
rejected C a b (inr y) none = refl

pub put_here : (role : ℕ → Use) (k : ℕ) (u : Use) → put role k u k ≡ u
unfolding put
put_here role k u = chosen Use u (role k) (cases_eq k k) (λ differ. differ refl)

pub put_other : (role : ℕ → Use) (k : ℕ) (u : Use) (m : ℕ) → m ≢ k → put role k u m ≡ role m
unfolding put
put_other role k u m differ = rejected Use u (role m) (cases_eq m k) differ

pub taking : (role : ℕ → Use) (k : ℕ) (who : Who) → role k ≡ Ready → IsTaking role (put role k (Of who)) k who
taking role k who ready = record { ready = ready; taken = put_here role k (Of who); others = λ m differ. put_other role k (Of who) m differ }

-- ---- which clusters are ready and fresh

pub record Places (s : Shape) (role : ℕ → Use) (first last : ℕ) : Type 0 where
  pub order : first ≤ last
  pub ready : (k : ℕ) → first ≤ k → k < last → (role k ≡ Ready) ⊎ IsOwn s role k
  pub edge : (role last ≡ Fresh) ⊎ IsOwn s role last
  pub fresh : (k : ℕ) → last < k → role k ≡ Fresh
  pub one : (i a b : ℕ) → role a ≡ Of (Block i) → role b ≡ Of (Block i) → a ≡ b

pub places : {s : Shape} {disks : List (List ℕ)} {first last f : ℕ} {w : World} (st : Standing s disks first last f w) → Places s st.role first last
places st = record { order = st.order; ready = st.ready; edge = st.edge; fresh = st.fresh; one = st.one }

-- blocks before the next cluster are linked
abbrev pub AreLinked : Shape → (ℕ → Use) → ℕ → List ℕ → Type 0
AreLinked s role last file = (i k : ℕ) → role k ≡ Of (Block i) → k < last → IsBlock s file i k

-- the index of a block is one
pub same_index : (s : Shape) (i j m n : ℕ) → each s * i + m ≡ each s * j + n → m < each s → n < each s → i ≡ j
same_index s i j m n same m_in n_in = elim (cases_lt i j) [
  | inl less ↦ (let more : each s * (i + 1) ≤ each s * j = mul-le-mul_left (each s) (omega arith) in let step : each s * (i + 1) ≡ each s * i + each s = grind arith in absurd (omega (arith, more, step, same, m_in)))
  | inr not ↦ elim (cases_lt j i) [
    | inl less ↦ (let more : each s * (j + 1) ≤ each s * i = mul-le-mul_left (each s) (omega arith) in let step : each s * (j + 1) ≡ each s * j + each s = grind arith in absurd (omega (arith, more, step, same, n_in)))
    | inr nor ↦ omega (arith, not, nor)
  ]
]

pub same_own : (s : Shape) (i j k : ℕ) → IsOwnCount s i k → IsOwnCount s j k → i ≡ j
same_own s i j k a b = same_index s i j a.slot b.slot (sym a.is ∙ b.is) a.inside b.inside

-- a cluster that reads don't show as a block is ready
pub is_ready : {s : Shape} {disks : List (List ℕ)} {first last f : ℕ} {w : World} (st : Standing s disks first last f w) (k : ℕ) → IsAmong k first last → IsTakeable s k (w.seen f) → st.role k ≡ Ready
is_ready {s} {disks} {first} {last} {f} {w} st k among takeable = ⊎_elim
    (λ (is : st.role k ≡ Ready). is)
    (λ (own : IsOwn s st.role k).
    let index : own.0 ≡ takeable.index = same_own s own.0 takeable.index k own.1 takeable.counts in
    let is_block : st.role k ≡ Of (Block takeable.index) = subst (λ (i : ℕ). st.role k ≡ Of (Block i)) index own.2 in
    absurd (takeable.differ (st.one takeable.index takeable.block k (st.seen.lies.refs (Block takeable.index) takeable.block takeable.linked) is_block)))
    (st.ready k among.from among.to)

-- another owner than a block
abbrev pub IsNoBlock : Who → Type 0
IsNoBlock who = (i : ℕ) → Of who ≡ Of (Block i) → ⊥

module _ (s : Shape) (role role_on : ℕ → Use) (first last k : ℕ) (who : Who) (other : IsNoBlock who) (taking : IsTaking role role_on k who) (from : first ≤ k) (to : k < last) where
  on : (m : ℕ) → m ≢ k → (role m ≡ Ready) ⊎ IsOwn s role m → (role_on m ≡ Ready) ⊎ IsOwn s role_on m
  on m differ (inl is) = inl (taking.others m differ ∙ is)
  on m differ (inr own) = inr (own.0, own.1, taking.others m differ ∙ own.2)

  on_fresh : (m : ℕ) → m ≢ k → (role m ≡ Fresh) ⊎ IsOwn s role m → (role_on m ≡ Fresh) ⊎ IsOwn s role_on m
  on_fresh m differ (inl is) = inl (taking.others m differ ∙ is)
  on_fresh m differ (inr own) = inr (own.0, own.1, taking.others m differ ∙ own.2)

  not_k : (i a : ℕ) → role_on a ≡ Of (Block i) → a ≢ k
  not_k i a is same = other i (sym taking.taken ∙ sym (ap role_on same) ∙ is)

  was_block : (i a : ℕ) → role_on a ≡ Of (Block i) → role a ≡ Of (Block i)
  was_block i a is = sym (taking.others a (not_k i a is)) ∙ is

  -- a cluster was taken, and those before it are left
  pub taken_places : Places s role first last → Places s role_on (k + 1) last
  taken_places at = record {
    order = omega (arith, to);
    ready = λ m low high. on m (λ same. absurd (omega (arith, same, low))) (at.ready m (omega (arith, low, from)) high);
    edge = on_fresh last (λ same. absurd (omega (arith, same, to))) at.edge;
    fresh = λ m low. taking.others m (λ same. absurd (omega (arith, same, low, to))) ∙ at.fresh m low;
    one = λ i a b is_a is_b. at.one i a b (was_block i a is_a) (was_block i b is_b);
  }

  pub taken_linked : (old new : List ℕ) → ((i q : ℕ) → IsBlock s old i q → IsBlock s new i q) → AreLinked s role last old → AreLinked s role_on last new
  taken_linked old new keeps linked i m is low = keeps i m (linked i m (was_block i m is) low)

-- ---- over a call

pub holds_of : {s : Shape} {disks : List (List ℕ)} {first last f : ℕ} {w : World} (st : Standing s disks first last f w) → Holds f (IsGood s st.role disks) (IsGood s st.role disks) w
holds_of st = record { seen = λ told. st.seen; each = st.now }

pub stand_on : {s : Shape} {disks : List (List ℕ)} {first last f : ℕ} {w : World} (role : ℕ → Use) → Places s role first last → IsTrue w.tells → AreLinked s role last (w.seen f) → Holds f (IsGood s role disks) (IsGood s role disks) w → Standing s disks first last f w
stand_on role at told linked holds = record { role = role; order = at.order; ready = at.ready; edge = at.edge; fresh = at.fresh; one = at.one; linked = linked; seen = holds.seen told; now = holds.each }

-- what is shown where files are told
pub moves_of : {parts : Parts} {f : ℕ} {A B : World → Type 0} {a b : World} (R : List ℕ → Type 0) → Runs parts a b → IsSound b → (IsTrue a.tells → A a → EachSince b a.now f R × B b) → Moves f R (λ w. IsTrue w.tells → A w) (λ w. IsTrue w.tells → B w) a b
moves_of {parts} {f} {A} {B} {a} {b} R run sound goes = record {
  since = λ is k low high c left. let told : IsTrue a.tells = subst IsTrue run.goes.tells (told_at b k f c sound left) in (goes told (is told)).0 k low high c left;
  stands = λ is told_b. let told : IsTrue a.tells = subst IsTrue run.goes.tells told_b in (goes told (is told)).1;
}

-- by what the calls lead to
pub leads_stand : {parts : Parts} {s : Shape} {disks disks_on : List (List ℕ)} {first last first_on last_on f : ℕ} {a b : World} {R : List ℕ → Type 0} (st : Standing s disks first last f a) (role_on : ℕ → Use) → Places s role_on first_on last_on
    → Runs parts a b → IsTrue a.tells → AreLinked s role_on last_on (b.seen f) → Leads f (IsGood s st.role disks) (IsGood s st.role disks) R (IsGood s role_on disks_on) (IsGood s role_on disks_on) a b
    → EachSince b a.now f R × Standing s disks_on first_on last_on f b
leads_stand st role_on at run told linked leads = (leads.since (holds_of st), stand_on role_on at (subst IsTrue (sym run.goes.tells) told) linked (leads.after (holds_of st)))

-- blocks that were linked, and are so still
pub still_linked : {s : Shape} {disks : List (List ℕ)} {first last f : ℕ} {w : World} (st : Standing s disks first last f w) (new : List ℕ) → ((i q : ℕ) → IsBlock s (w.seen f) i q → IsBlock s new i q) → AreLinked s st.role last new
still_linked st new keeps i k is low = keeps i k (st.linked i k is low)

-- ---- one call after the other

pub moves_on : {parts others : Parts} {f : ℕ} {R S : List ℕ → Type 0} {I J K : World → Type 0} {a m b : World} → Runs parts a m → Runs others m b → ((c : List ℕ) → R c → S c) → Moves f R I J a m → (I a → Moves f S J K m b) → Moves f S I K a b
moves_on {parts} {others} {f} {R} {S} {I} {J} {K} {a} {m} {b} run next more first second = record {
  since = λ is. since_on a.now f S next (λ k low high c left. more c (first.since is k low high c left)) ((second is).since (first.stands is));
  stands = λ is. (second is).stands (first.stands is);
}

pub moves_more : {f : ℕ} {R S : List ℕ → Type 0} {I J K : World → Type 0} {a b : World} → ((c : List ℕ) → R c → S c) → (J b → K b) → Moves f R I J a b → Moves f S I K a b
moves_more more stands moves = record { since = λ is k low high c left. more c (moves.since is k low high c left); stands = λ is. stands (moves.stands is) }

-- a disk more, and fewer ready clusters
pub stands_less : {s : Shape} {disks : List (List ℕ)} {first on last f : ℕ} {w : World} (e : List ℕ) → first ≤ on → on ≤ last → IsStanding s disks first last f w → IsStanding s (e ∷ disks) on last f w
stands_less {s} {disks} {first} {on} {last} {f} {w} e less low stands told =
    let st = stands told in
    record {
      role = st.role;
      order = low;
      ready = λ k from high. st.ready k (omega (arith, from, less)) high;
      edge = st.edge;
      fresh = st.fresh;
      one = st.one;
      linked = st.linked;
      seen = more_good s st.role disks e (w.seen f) st.seen;
      now = λ c left. more_good s st.role disks e c (st.now c left);
    }
