use Rattle.std.proofs.Common.{◌≡◌, ℕ, ◌-◌, ◌*◌, ◌%◌, ◌^◌, ◌≤◌, List, [], ◌∷◌, length, IsTrue, sym, ◌∙◌, ap, subst, arith}
use Rattle.std.proofs.Math.Nat.{mul-le-mul, pow-le-pow_right}
use Rattle.disk_model.specs.Files.{byte}
use Rattle.disk_model.specs.World.{World, EachSinceSync}
use Rattle.disk_model.proofs.Moments.{spared_sync, sync_on}
use Rattle.file_device.specs.File.{file_of, Gives}
use Rattle.image_model.specs.Clusters.{IsSafe, IsStanding, place}
use Rattle.image_model.specs.Calls.{Told, Begins, IsOpened, IsExtending, AreInside, shape_of}
use Rattle.alloc_tests.specs.Opening.{IsAllFound, Starts}
use Rattle.alloc_tests.proofs.Begun.{starts_by, end_at, reaches, none_synced}
use Rattle.alloc_tests.proofs.opening.start_clusters.Given.{Over}
use Rattle.alloc_tests.proofs.opening.start_clusters.Goals.{After-begin, After-extend}
use Rattle.alloc_tests.proofs.opening.start_clusters.Goals as goal

-- after the sync, whatever it answered
module _ (g : Over) (c : After-begin g) where
  abbrev pub f : ℕ
  f = c.args.file.0

  abbrev pub w0 : World
  w0 = g.D.Outside.world c.args.depot.now

  abbrev pub w1 : World
  w1 = g.D.Outside.world c.size.new.depot

  abbrev pub w2 : World
  w2 = g.D.Outside.world c.begin.new.depot

  same1 : w1.seen f ≡ w0.seen f
  same1 = (c.size.ensures.looks.reads.files f (λ none. none)).seen

  same2 : w2.seen f ≡ w0.seen f
  same2 = c.begin.ensures.synced.call.seen ∙ same1

  told0 : IsTrue w2.tells → IsTrue w0.tells
  told0 told = subst IsTrue c.size.ensures.looks.reads.goes.tells (subst IsTrue c.begin.ensures.synced.puts.writes.goes.tells told)

  opened1 : Told (IsAllFound c.args.clusters.now) f w0 → Told (IsOpened (shape_of (w0.seen f)) c.args.clusters.now.pool.next) f w1
  opened1 found told = subst (IsOpened (shape_of (w0.seen f)) c.args.clusters.now.pool.next) (sym same1) (found (subst IsTrue c.size.ensures.looks.reads.goes.tells told)).opened

  -- the file is as long as it was said to be
  long : (n : ℕ) → Gives (file_of w0 f) (λ file. n ≡ length file) → IsTrue w2.tells → n ≡ length (w0.seen f)
  unfolding file_of
  long n gives told = gives (told0 told)

  few : c.args.clusters.now.pool.next ≤ 1099511627776 → (IsTrue w2.tells → IsAllFound c.args.clusters.now (w0.seen f)) → IsTrue w2.tells
      → (c.args.clusters.now.pool.next * 2 ^ c.args.cluster_bits % 18446744073709551616 ≡ place (shape_of (w0.seen f)) c.args.clusters.now.pool.next)
      × (c.args.clusters.now.pool.next * 2 ^ c.args.cluster_bits % 18446744073709551616 ≤ 2305843009213693952)
  few low found told = end_at c.args.clusters.now (w0.seen f) c.args.cluster_bits (found told) c.requires.bits (subst (λ (b : ℕ). b ≤ 21) c.requires.bits c.room-room.ensures.allocator.pool.high) low

  pub begun_crash : Told (IsAllFound c.args.clusters.now) f w0 → EachSinceSync w0 w2 f (IsSafe (shape_of (w0.seen f)) (w0.seen f ∷ []))
  begun_crash found = subst (λ (file : List ℕ). EachSinceSync w0 w2 f (IsSafe (shape_of (w0.seen f)) (file ∷ []))) same1
      (spared_sync f _ c.size.ensures.looks.reads c.begin.ensures.synced.puts.writes (λ none. none)
      (c.begin.ensures.crash (shape_of (w0.seen f)) c.args.clusters.now.pool.next (opened1 found)))

pub returns-in_err-length-clause-crash : goal.returns-in_err-length-clause-crash
returns-in_err-length-clause-crash g c found = none_synced c.args.file.0 _ c.size.ensures.looks.reads (λ none. none)

pub returns-in_err-begin-clause-crash : goal.returns-in_err-begin-clause-crash
returns-in_err-begin-clause-crash g c found = begun_crash g (goal.at.returns-in_err-begin-clause-crash g c).After-begin found

pub returns-then-next-clause-crash : goal.returns-then-next-clause-crash
returns-then-next-clause-crash g c found = begun_crash g (goal.at.returns-then-next-clause-crash g c).After-begin found

pub returns-else-length-end-clause-crash : goal.returns-else-length-end-clause-crash
returns-else-length-end-clause-crash g c found = begun_crash g (goal.at.returns-else-length-end-clause-crash g c).After-begin found

pub extend-requires-clause-end : goal.extend-requires-clause-end
extend-requires-clause-end g c =
    let pow : 2 ^ c.args.cluster_bits ≤ 2 ^ 21 = pow-le-pow_right {n = 2} (omega arith) {i = c.args.cluster_bits} {j = 21} (subst (λ (b : ℕ). b ≤ 21) c.requires.bits c.room-room.ensures.allocator.pool.high) in
    let most : c.next-next.result * 2 ^ c.args.cluster_bits ≤ 1099511627776 * 2097152 = mul-le-mul {n₁ = c.next-next.result} {m₁ = 2 ^ c.args.cluster_bits} {n₂ = 1099511627776} {m₂ = 2097152} (omega (arith, c.if-next.false)) pow in
    let some = c.if-length-end.true in
    omega (arith, most, some)

-- where it is made to reach
module _ (g : Over) (c : After-extend g) (b : After-begin g) (crash : Told (IsAllFound c.args.clusters.now) c.args.file.0 (g.D.Outside.world c.args.depot.now) → EachSinceSync (g.D.Outside.world c.args.depot.now) (g.D.Outside.world c.begin.new.depot) c.args.file.0 (IsSafe (shape_of ((g.D.Outside.world c.args.depot.now).seen c.args.file.0)) ((g.D.Outside.world c.args.depot.now).seen c.args.file.0 ∷ [])))
    (found : Told (IsAllFound c.args.clusters.now) c.args.file.0 (g.D.Outside.world c.args.depot.now)) where
  abbrev at : ℕ
  at = c.args.file.0

  abbrev x0 : World
  x0 = g.D.Outside.world c.args.depot.now

  abbrev x2 : World
  x2 = g.D.Outside.world c.begin.new.depot

  abbrev x3 : World
  x3 = g.D.Outside.world c.extend.new.depot

  abbrev n : ℕ
  n = c.args.clusters.now.pool.next

  seen2 : x2.seen at ≡ x0.seen at
  seen2 = c.begin.ensures.synced.call.seen ∙ (c.size.ensures.looks.reads.files at (λ none. none)).seen

  told_back : IsTrue x2.tells → IsTrue x0.tells
  told_back told = subst IsTrue c.size.ensures.looks.reads.goes.tells (subst IsTrue c.begin.ensures.synced.puts.writes.goes.tells told)

  extending : IsTrue x2.tells → IsExtending (shape_of (x0.seen at)) n n (c.next-next.result * 2 ^ c.args.cluster_bits % 18446744073709551616 - 1) (x0.seen at)
  unfolding file_of
  extending told =
      let is : IsAllFound c.args.clusters.now (x0.seen at) = found (told_back told) in
      let next : c.next-next.result ≡ n = c.next-next.ensures in
      let end = end_at c.args.clusters.now (x0.seen at) c.args.cluster_bits is c.requires.bits (subst (λ (x : ℕ). x ≤ 21) c.requires.bits c.room-room.ensures.allocator.pool.high) (omega (arith, c.if-next.false, next)) in
      let same : c.next-next.result * 2 ^ c.args.cluster_bits % 18446744073709551616 ≡ place (shape_of (x0.seen at)) n = ap (λ (m : ℕ). m * 2 ^ c.args.cluster_bits % 18446744073709551616) next ∙ end.0 in
      let short = c.if-length-end.true in
      let long : c.in_ok-length.length ≡ length (x0.seen at) = c.in_ok-length.ensures.size (told_back told) in
      record { order = omega arith; ends = omega (arith, same, short); short = omega (arith, short, long); below = is.opened.below }

  begun : Begins (shape_of (x0.seen at)) n (x0.seen at) at x2
  begun = subst (λ (file : List ℕ). Begins (shape_of (x0.seen at)) n file at x2) seen2
      (c.in_ok-begin.ensures.begins (shape_of (x0.seen at)) n (λ told. subst (IsOpened (shape_of (x0.seen at)) n) (sym (c.size.ensures.looks.reads.files at (λ none. none)).seen) (found (subst IsTrue c.size.ensures.looks.reads.goes.tells told)).opened))

  pub extended_crash : EachSinceSync x0 x3 at (IsSafe (shape_of (x0.seen at)) (x0.seen at ∷ []))
  extended_crash = sync_on at _ c.extend.ensures.puts.writes (crash found) ((c.extend.ensures.begins (shape_of (x0.seen at)) n n (x0.seen at) extending).since begun)

  told_on : IsTrue x3.tells → IsTrue x2.tells
  told_on told = subst IsTrue c.extend.ensures.puts.writes.goes.tells told

  bytes_same : IsTrue x3.tells → (i : ℕ) → byte (x3.seen at) i ≡ byte (x0.seen at) i
  bytes_same told = ((c.extend.ensures.begins (shape_of (x0.seen at)) n n (x0.seen at) extending).stands begun told).seen.is.bytes

  pub extended_starts : IsStanding (shape_of (x0.seen at)) (x0.seen at ∷ []) n n at x3 → IsTrue x0.tells → Starts c.args.clusters.now (x0.seen at) x3
  extended_starts stands told = starts_by c.args.clusters.now (x0.seen at) x3 (found told)
      (subst (λ (h : ℕ). IsTrue x3.tells → (i : ℕ) → byte (x3.seen h) i ≡ byte (x0.seen at) i) (sym c.requires.file) bytes_same)
      (subst (λ (h : ℕ). IsStanding (shape_of (x0.seen at)) (x0.seen at ∷ []) n n h x3) (sym c.requires.file) stands)

pub returns-in_err-extend-clause-crash : goal.returns-in_err-extend-clause-crash
returns-in_err-extend-clause-crash g c found =
    let at = goal.at.returns-in_err-extend-clause-crash g c in
    extended_crash g at.After-extend at.After-begin (begun_crash g at.After-begin) found

pub returns-in_ok-extend-clause-crash : goal.returns-in_ok-extend-clause-crash
returns-in_ok-extend-clause-crash g c found =
    let at = goal.at.returns-in_ok-extend-clause-crash g c in
    extended_crash g at.After-extend at.After-begin (begun_crash g at.After-begin) found

pub returns-in_ok-extend-clause-stands : goal.returns-in_ok-extend-clause-stands
returns-in_ok-extend-clause-stands g c told is =
    let at = goal.at.returns-in_ok-extend-clause-stands g c in
    let s = shape_of ((g.D.Outside.world c.args.depot.now).seen c.args.file.0) in
    let n = c.args.clusters.now.pool.next in
    extended_starts g at.After-extend at.After-begin (begun_crash g at.After-begin) (λ _. is)
    ((c.in_ok-extend.ensures.stands s n n ((g.D.Outside.world c.args.depot.now).seen c.args.file.0) (extending g at.After-extend at.After-begin (begun_crash g at.After-begin) (λ _. is))).stands
    (begun g at.After-extend at.After-begin (begun_crash g at.After-begin) (λ _. is))) told

pub returns-else-length-end-clause-stands : goal.returns-else-length-end-clause-stands
returns-else-length-end-clause-stands g c told is =
    let b = (goal.at.returns-else-length-end-clause-stands g c).After-begin in
    let f = c.args.file.0 in
    let x0 = g.D.Outside.world c.args.depot.now in
    let x1 = g.D.Outside.world c.size.new.depot in
    let x2 = g.D.Outside.world c.begin.new.depot in
    let s = shape_of (x0.seen f) in
    let n : ℕ = c.args.clusters.now.pool.next in
    let next : c.next-next.result ≡ n = c.next-next.ensures in
    let told2 : IsTrue x2.tells = subst IsTrue (sym c.begin.ensures.synced.puts.writes.goes.tells) (subst IsTrue (sym c.size.ensures.looks.reads.goes.tells) told) in
    let end = few g b (omega (arith, c.if-next.false, next)) (λ _. is) told2 in
    let same : c.next-next.result * 2 ^ c.args.cluster_bits % 18446744073709551616 ≡ place s n = ap (λ (m : ℕ). m * 2 ^ c.args.cluster_bits % 18446744073709551616) next ∙ end.0 in
    let far : place s n ≤ length (x0.seen f) = omega (arith, same, c.if-length-end.false, long g b c.in_ok-length.length c.in_ok-length.ensures.size told2) in
    let stands = c.in_ok-begin.ensures.stands s n (opened1 g b (λ _. is)) (λ _. subst (AreInside s) (sym (same1 g b)) (reaches c.args.clusters.now (x0.seen f) is far)) in
    starts_by c.args.clusters.now (x0.seen f) x2 is
    (subst (λ (h : ℕ). IsTrue x2.tells → (i : ℕ) → byte (x2.seen h) i ≡ byte (x0.seen f) i) (sym c.requires.file) (λ _ i. ap (λ (file : List ℕ). byte file i) (same2 g b)))
    (subst (λ (h : ℕ). IsStanding s (x0.seen f ∷ []) n n h x2) (sym c.requires.file) (subst (λ (file : List ℕ). IsStanding s (file ∷ []) n n f x2) (same2 g b) stands))
