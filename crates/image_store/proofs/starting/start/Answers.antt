use Rattle.std.proofs.Common.{◌≡◌, ℕ, ◌-◌, ◌^◌, ◌≤◌, List, [], ◌∷◌, length, min, IsTrue, refl, sym, ◌∙◌, subst, arith}
use Rattle.disk_model.specs.World.{World, EachSinceSync}
use Rattle.disk_model.proofs.Laws.{spared_sync, sync_on}
use Rattle.file_device.proofs.Laws.{calls_on, calls_err, given}
use Rattle.image_model.specs.Clusters.{Shape, IsLonger, IsSafe, IsStanding, place}
use Rattle.image_model.specs.Calls.{Told, Begins, IsOpened, IsExtending, AreInside, shape_of}
use Rattle.image_steps.proofs.Opening.{opened_safe}
use Rattle.image_store.specs.Finding.{IsAllFound}
use Rattle.image_store.proofs.Begun.{starts_by, below_end, end_is, reaches, none_synced}
use Rattle.image_store.proofs.starting.start.Given.{Over}
use Rattle.image_store.proofs.starting.start.Goals.{After-begin, After-extend}
use Rattle.image_store.proofs.starting.start.Goals as goal

-- after the sync, whatever it answered
module _ (g : Over) (c : After-begin g) where
  abbrev f : ℕ
  f = c.args.file.0

  abbrev w0 : World
  w0 = g.D.Outside.world c.args.depot.now

  abbrev w1 : World
  w1 = g.D.Outside.world c.size.new.depot

  abbrev w2 : World
  w2 = g.D.Outside.world c.begin.new.depot

  abbrev found : List ℕ
  found = w0.seen f

  abbrev s : Shape
  s = shape_of found

  abbrev n : ℕ
  n = c.args.clusters.now.pool.next

  same1 : w1.seen f ≡ found
  same1 = (c.size.ensures.looks.reads.files f (λ none. none)).seen

  same2 : w2.seen f ≡ found
  same2 = c.begin.ensures.synced.call.seen ∙ same1

  told0 : IsTrue w2.tells → IsTrue w0.tells
  told0 told = subst IsTrue c.size.ensures.looks.reads.goes.tells (subst IsTrue c.begin.ensures.synced.puts.writes.goes.tells told)

  opened1 : Told (IsAllFound c.args.clusters.now) f w0 → Told (IsOpened s n) f w1
  opened1 is told = subst (IsOpened s n) (sym same1) (is (subst IsTrue c.size.ensures.looks.reads.goes.tells told)).opened

  begun_crash : Told (IsAllFound c.args.clusters.now) f w0 → EachSinceSync w0 w2 f (IsSafe s (found ∷ []))
  begun_crash is = subst (λ (file : List ℕ). EachSinceSync w0 w2 f (IsSafe s (file ∷ []))) same1
      (spared_sync f _ c.size.ensures.looks.reads c.begin.ensures.synced.puts.writes (λ none. none) (c.begin.ensures.crash s n (opened1 is)))

  begun_seen : Told (IsAllFound c.args.clusters.now) f w0 → Told (IsSafe s (found ∷ [])) f w2
  begun_seen is told = opened_safe s n found (is (told0 told)).opened (w2.seen f) (subst (IsLonger found) (sym same2) (record { longer = omega arith; bytes = λ i. refl }))

-- where it is made to reach
module _ (g : Over) (c : After-extend g) (crash : Told (IsAllFound c.args.clusters.now) c.args.file.0 (g.D.Outside.world c.args.depot.now)
    → EachSinceSync (g.D.Outside.world c.args.depot.now) (g.D.Outside.world c.begin.new.depot) c.args.file.0 (IsSafe (shape_of ((g.D.Outside.world c.args.depot.now).seen c.args.file.0)) ((g.D.Outside.world c.args.depot.now).seen c.args.file.0 ∷ [])))
    (is : Told (IsAllFound c.args.clusters.now) c.args.file.0 (g.D.Outside.world c.args.depot.now)) where
  abbrev at : ℕ
  at = c.args.file.0

  abbrev x0 : World
  x0 = g.D.Outside.world c.args.depot.now

  abbrev x2 : World
  x2 = g.D.Outside.world c.begin.new.depot

  abbrev x3 : World
  x3 = g.D.Outside.world c.extend.new.depot

  abbrev was : List ℕ
  was = x0.seen at

  abbrev t : Shape
  t = shape_of was

  abbrev next : ℕ
  next = c.args.clusters.now.pool.next

  abbrev whole : ℕ
  whole = min next (2 ^ 30)

  seen2 : x2.seen at ≡ was
  seen2 = c.begin.ensures.synced.call.seen ∙ (c.size.ensures.looks.reads.files at (λ none. none)).seen

  told_back : IsTrue x2.tells → IsTrue x0.tells
  told_back told = subst IsTrue c.size.ensures.looks.reads.goes.tells (subst IsTrue c.begin.ensures.synced.puts.writes.goes.tells told)

  extending : IsTrue x2.tells → IsExtending t next whole (c.end_of-end.result - 1) was
  extending told =
      let found : IsAllFound c.args.clusters.now was = is (told_back told) in
      let ends : c.end_of-end.result ≡ place t whole = c.end_of-end.ensures.end ∙ end_is c.args.clusters.now was c.args.cluster_bits whole found c.requires.bits in
      let short = c.if-length-end.true in
      let long : c.in_ok-length.length ≡ length was = given x0 at (λ file. c.in_ok-length.length ≡ length file) c.in_ok-length.ensures.size (told_back told) in
      record { order = omega arith; ends = omega (arith, ends, short); short = omega (arith, short, long); below = λ who k refers. below_end c.args.clusters.now was who k found refers }

  begun : Begins t next was at x2
  begun = subst (λ (file : List ℕ). Begins t next file at x2) seen2
      (c.in_ok-begin.ensures.begins t next (λ told. subst (IsOpened t next) (sym (c.size.ensures.looks.reads.files at (λ none. none)).seen) (is (subst IsTrue c.size.ensures.looks.reads.goes.tells told)).opened))

  extended_crash : EachSinceSync x0 x3 at (IsSafe t (was ∷ []))
  extended_crash = sync_on at _ c.extend.ensures.puts.writes (crash is) ((c.extend.ensures.begins t next whole was extending).since begun)

  longer : IsTrue x3.tells → IsLonger was (x3.seen at)
  longer told = ((c.extend.ensures.begins t next whole was extending).stands begun told).seen.is

  extended_seen : Told (IsSafe t (was ∷ [])) at x3
  extended_seen told = opened_safe t next was (is (told_back (subst IsTrue c.extend.ensures.puts.writes.goes.tells told))).opened (x3.seen at) (longer told)

pub returns-in_err-length-clause-crash : goal.returns-in_err-length-clause-crash
returns-in_err-length-clause-crash g c is = none_synced c.args.file.0 _ c.size.ensures.looks.reads (λ none. none)

pub returns-in_err-begin-clause-crash : goal.returns-in_err-begin-clause-crash
returns-in_err-begin-clause-crash g c is = begun_crash g (goal.at.returns-in_err-begin-clause-crash g c).After-begin is

pub returns-in_err-length-clause-seen : goal.returns-in_err-length-clause-seen
returns-in_err-length-clause-seen g c is told =
    let f = c.args.file.0 in
    let found = (g.D.Outside.world c.args.depot.now).seen f in
    opened_safe (shape_of found) c.args.clusters.now.pool.next found (is (subst IsTrue c.size.ensures.looks.reads.goes.tells told)).opened ((g.D.Outside.world c.size.new.depot).seen f)
    (subst (IsLonger found) (sym (c.size.ensures.looks.reads.files f (λ none. none)).seen) (record { longer = omega arith; bytes = λ i. refl }))

pub returns-in_err-begin-clause-seen : goal.returns-in_err-begin-clause-seen
returns-in_err-begin-clause-seen g c is = begun_seen g (goal.at.returns-in_err-begin-clause-seen g c).After-begin is

pub returns-in_err-extend-clause-crash : goal.returns-in_err-extend-clause-crash
returns-in_err-extend-clause-crash g c is =
    let at = goal.at.returns-in_err-extend-clause-crash g c in
    extended_crash g at.After-extend (begun_crash g at.After-begin) is

pub returns-in_err-extend-clause-seen : goal.returns-in_err-extend-clause-seen
returns-in_err-extend-clause-seen g c is =
    let at = goal.at.returns-in_err-extend-clause-seen g c in
    extended_seen g at.After-extend (begun_crash g at.After-begin) is

pub returns-in_err-extend-clause-calls : goal.returns-in_err-extend-clause-calls
returns-in_err-extend-clause-calls g c =
    calls_on c.in_ok-length.ensures.looks.calls (calls_on c.in_ok-begin.ensures.synced.puts.calls (calls_err c.from_residual-in_err-extend.ensures.0 c.in_err-extend.ensures.puts.calls))

pub returns-in_ok-extend-clause-stands : goal.returns-in_ok-extend-clause-stands
returns-in_ok-extend-clause-stands g c told is =
    let at = goal.at.returns-in_ok-extend-clause-stands g c in
    let e = at.After-extend in
    let crash = begun_crash g at.After-begin in
    let x3 = g.D.Outside.world c.extend.new.depot in
    let w = (g.D.Outside.world c.args.depot.now).seen c.args.file.0 in
    let n = c.args.clusters.now.pool.next in
    starts_by c.args.clusters.now w x3 is
    (subst (λ (h : ℕ). IsTrue x3.tells → IsLonger w (x3.seen h)) (sym c.requires.file) (longer g e crash (λ _. is)))
    (subst (λ (h : ℕ). IsStanding (shape_of w) (w ∷ []) n n h x3) (sym c.requires.file)
    ((c.in_ok-extend.ensures.stands (shape_of w) n (min n (2 ^ 30)) w (extending g e crash (λ _. is))).stands (begun g e crash (λ _. is))))

pub returns-in_ok-extend-clause-crash : goal.returns-in_ok-extend-clause-crash
returns-in_ok-extend-clause-crash g c is =
    let at = goal.at.returns-in_ok-extend-clause-crash g c in
    extended_crash g at.After-extend (begun_crash g at.After-begin) is

pub returns-in_ok-extend-clause-seen : goal.returns-in_ok-extend-clause-seen
returns-in_ok-extend-clause-seen g c is =
    let at = goal.at.returns-in_ok-extend-clause-seen g c in
    extended_seen g at.After-extend (begun_crash g at.After-begin) is

pub returns-in_ok-extend-clause-calls : goal.returns-in_ok-extend-clause-calls
returns-in_ok-extend-clause-calls g c = calls_on c.in_ok-length.ensures.looks.calls (calls_on c.in_ok-begin.ensures.synced.puts.calls c.in_ok-extend.ensures.puts.calls)

pub returns-else-length-end-clause-stands : goal.returns-else-length-end-clause-stands
returns-else-length-end-clause-stands g c told is =
    let b = (goal.at.returns-else-length-end-clause-stands g c).After-begin in
    let x0 = g.D.Outside.world c.args.depot.now in
    let x2 = g.D.Outside.world c.begin.new.depot in
    let h = c.args.file.0 in
    let w = x0.seen h in
    let n = c.args.clusters.now.pool.next in
    let whole : ℕ = min n (2 ^ 30) in
    let ends : c.end_of-end.result ≡ place (shape_of w) whole = c.end_of-end.ensures.end ∙ end_is c.args.clusters.now w c.args.cluster_bits whole is c.requires.bits in
    let long : c.in_ok-length.length ≡ length w = given x0 h (λ file. c.in_ok-length.length ≡ length file) c.in_ok-length.ensures.size told in
    let far : place (shape_of w) whole ≤ length w = omega (arith, ends, c.if-length-end.false, long) in
    starts_by c.args.clusters.now w x2 is
    (subst (λ (k : ℕ). IsTrue x2.tells → IsLonger w (x2.seen k)) (sym c.requires.file) (λ _. subst (IsLonger w) (sym (same2 g b)) (record { longer = omega arith; bytes = λ i. refl })))
    (subst (λ (k : ℕ). IsStanding (shape_of w) (w ∷ []) n n k x2) (sym c.requires.file)
    (subst (λ (file : List ℕ). IsStanding (shape_of w) (file ∷ []) n n h x2) (same2 g b)
    (c.in_ok-begin.ensures.stands (shape_of w) n (opened1 g b (λ _. is)) (λ _. subst (AreInside (shape_of w)) (sym (same1 g b)) (reaches c.args.clusters.now w is far)))))

pub returns-else-length-end-clause-crash : goal.returns-else-length-end-clause-crash
returns-else-length-end-clause-crash g c is = begun_crash g (goal.at.returns-else-length-end-clause-crash g c).After-begin is

pub returns-else-length-end-clause-seen : goal.returns-else-length-end-clause-seen
returns-else-length-end-clause-seen g c is = begun_seen g (goal.at.returns-else-length-end-clause-seen g c).After-begin is
