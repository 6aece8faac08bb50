use Rattle.std.proofs.Common.{◌≡◌, ◌-◌, ◌*◌, ◌/◌, ◌%◌, ◌^◌, ◌≤◌, ℕ, ap, subst, refl, ◌∙◌, arith}
use Rattle.qc_layout.specs.declared.header.Fields.{Fields}
use Rattle.toy_image.proofs.Looking.{begins_at, counts_are, cluster_small, AreSmall, are_small, room_is}
use Rattle.toy_image.proofs.image.find_room.Goals.{then-bits-lt9-via-then-bits-lt9, then-bits-lt9-via-else-bits-lt9+then-bits-gt21, then-long-via-then-long, then-long-via-else-long+then-at-long}
use Rattle.toy_image.proofs.image.find_room.Goals as goal

small : (bits clusters n : ℕ) → 9 ≤ bits → bits ≤ 21 → n ≡ clusters → n * (1 * 2 ^ bits % 18446744073709551616) ≤ 67108864 → AreSmall bits clusters
small bits clusters n low high same few =
    are_small bits clusters low high (subst (λ (k : ℕ). clusters * k ≤ 67108864) (cluster_small bits high) (subst (λ (k : ℕ). k * (1 * 2 ^ bits % 18446744073709551616) ≤ 67108864) same few))

pub returns-then-bits-lt9-clause-not : goal.returns-then-bits-lt9-clause-not
returns-then-bits-lt9-clause-not g c = λ told opens.
    let at = begins_at opens.numbers _ opens.is in
    let same = ap (λ (f : Fields). f.cluster_bits) (c.requires.fields told opens) in
    let low = at.low in
    let high = at.high in
    elim c.then-bits-lt9.branch [
      | then-bits-lt9-via-then-bits-lt9 w ↦ (let t = w.if-bits-lt9.true in omega (arith, same, low, t))
      | then-bits-lt9-via-else-bits-lt9+then-bits-gt21 w ↦ (let t = w.if-bits-gt21.true in omega (arith, same, high, t))
    ]

pub returns-then-long-clause-not : goal.returns-then-long-clause-not
returns-then-long-clause-not g c = λ told opens.
    let at = counts_are opens.numbers _ opens.is in
    let same = c.requires.fields told opens in
    let clusters = ap (λ (f : Fields). f.refcount_table_clusters * 2 ^ f.cluster_bits) same in
    let offset = ap (λ (f : Fields). f.refcount_table_offset) same in
    let cluster = cluster_small c.args.fields.now.cluster_bits c.if-bits-gt21.false in
    let few = at.few in
    let near = at.near in
    let long : c.from.result * (1 * 2 ^ c.args.fields.now.cluster_bits % 18446744073709551616) ≡ c.args.fields.now.refcount_table_clusters * 2 ^ c.args.fields.now.cluster_bits =
    ap (λ (k : ℕ). c.from.result * k) cluster ∙ ap (λ (k : ℕ). k * 2 ^ c.args.fields.now.cluster_bits) c.from.ensures in
    elim c.then-long.branch [
      | then-long-via-then-long w ↦ (let t = w.if-long.true in omega (arith, clusters, few, long, t))
      | then-long-via-else-long+then-at-long w ↦ (let t = w.if-at-long.true in omega (arith, clusters, offset, near, long, t))
    ]

pub overflow_mul-count-2 : goal.overflow_mul-count-2
overflow_mul-count-2 g c =
    let s = small c.args.fields.now.cluster_bits c.args.fields.now.refcount_table_clusters c.from.result c.if-bits-lt9.false c.if-bits-gt21.false c.from.ensures c.if-long.false in
    rw (s.cluster, c.from-2.ensures) (let r = s.reach in omega arith)

pub count_missing-requires-clause-end : goal.count_missing-requires-clause-end
count_missing-requires-clause-end g c =
    let s = small c.args.fields.now.cluster_bits c.args.fields.now.refcount_table_clusters c.from.result c.if-bits-lt9.false c.if-bits-gt21.false c.from.ensures c.if-long.false in
    let long : c.from.result * (1 * 2 ^ c.args.fields.now.cluster_bits % 18446744073709551616) ≡ c.args.fields.now.refcount_table_clusters * 2 ^ c.args.fields.now.cluster_bits =
    ap (λ (k : ℕ). c.from.result * k) s.cluster ∙ ap (λ (k : ℕ). k * 2 ^ c.args.fields.now.cluster_bits) c.from.ensures in
    let at = c.if-at-long.false in
    rw (s.cluster, c.from-2.ensures) (let w = s.words in let l = s.long in omega (arith, w, l, long, at))

pub count_missing-requires-clause-near : goal.count_missing-requires-clause-near
count_missing-requires-clause-near g c =
    let s = small c.args.fields.now.cluster_bits c.args.fields.now.refcount_table_clusters c.from.result c.if-bits-lt9.false c.if-bits-gt21.false c.from.ensures c.if-long.false in
    rw (s.cluster, c.from-2.ensures) (let m = s.more in omega arith)

pub returns-clause-room : goal.returns-clause-room
returns-clause-room g c = λ told opens.
    let cluster = cluster_small c.args.fields.now.cluster_bits c.if-bits-gt21.false in
    c.saturating_sub-2.ensures ∙ ap (λ (k : ℕ). k - c.in_ok-missing.missing) c.saturating_sub.ensures
    ∙ room_is _ c.args.fields.now _ c.args.next c.in_ok-missing.missing (c.requires.fields told opens) refl
    (ap (λ (k : ℕ). c.from-2.result * (k / 8)) cluster ∙ ap (λ (k : ℕ). k * (2 ^ c.args.fields.now.cluster_bits / 8)) c.from-2.ensures)
    (ap (λ (k : ℕ). k / 2) cluster) refl c.min-reach.ensures (c.in_ok-missing.ensures.missing told)
