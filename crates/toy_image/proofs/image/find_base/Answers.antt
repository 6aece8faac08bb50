use Rattle.std.proofs.Common.{ap, arith}
use Rattle.toy_image.proofs.Looking.{begins_at, say_by, base_by, one_host, table_near}
use Rattle.toy_image.proofs.image.find_base.Goals.{then-bits-lt9-via-then-bits-lt9, then-bits-lt9-via-else-bits-lt9+then-bits-gt21, then-bits-lt9-via-else-bits-lt9+else-bits-gt21+then-fields}
use Rattle.toy_image.proofs.image.find_base.Goals as goal

pub returns-then-bits-lt9-clause-not : goal.returns-then-bits-lt9-clause-not
returns-then-bits-lt9-clause-not g c = λ told opens.
    let at = begins_at opens.numbers _ opens.is in
    let same = c.requires.fields told opens in
    elim c.then-bits-lt9.branch [
      | then-bits-lt9-via-then-bits-lt9 w ↦ (let t = w.if-bits-lt9.true in let l = at.low in let s = ap (λ f. f.cluster_bits) same in omega arith)
      | then-bits-lt9-via-else-bits-lt9+then-bits-gt21 w ↦ (let t = w.if-bits-gt21.true in let l = at.high in let s = ap (λ f. f.cluster_bits) same in omega arith)
      | then-bits-lt9-via-else-bits-lt9+else-bits-gt21+then-fields w ↦ (let t = w.if-fields.true in let l = at.near in let s = ap (λ f. f.l1_table_offset) same in omega arith)
    ]

pub returns-in-None-clause-not : goal.returns-in-None-clause-not
returns-in-None-clause-not g c = λ told opens.
    let say = say_by (g.D.Outside.world c.args.depot.now) c.args.file.0 c.args.fields.now c.in_ok-first.first opens.numbers c.requires.fields c.in_ok-first.ensures.number told opens.is in
    c.in-None.ensures say.table say.named

pub word-requires-2-clause-end : goal.word-requires-2-clause-end
word-requires-2-clause-end g c = table_near c.args.fields.now.cluster_bits c.in_ok-first.first c.in-Some.table c.in-Some.ensures

pub returns-in-Some-host_in-clause-base : goal.returns-in-Some-host_in-clause-base
returns-in-Some-host_in-clause-base g c = λ told n of.
    let a = g.D.Outside.world c.args.depot.now in
    let say = say_by a c.args.file.0 c.args.fields.now c.in_ok-first.first n c.requires.fields c.in_ok-first.ensures.number told of in
    one_host c.in-Some-host_in.ensures
    (base_by a (g.D.Outside.world c.word.new.depot) c.args.file.0 c.args.fields.now c.in_ok-first.first c.in-Some.table c.in_ok-second.second n say c.in-Some.ensures c.word.ensures.looks.reads c.in_ok-second.ensures.number told)

pub returns-in-None-host_in-clause-not : goal.returns-in-None-host_in-clause-not
returns-in-None-host_in-clause-not g c = λ told opens.
    let a = g.D.Outside.world c.args.depot.now in
    let n = opens.numbers in
    let say = say_by a c.args.file.0 c.args.fields.now c.in_ok-first.first n c.requires.fields c.in_ok-first.ensures.number told opens.is in
    c.in-None-host_in.ensures n.base
    (base_by a (g.D.Outside.world c.word.new.depot) c.args.file.0 c.args.fields.now c.in_ok-first.first c.in-Some.table c.in_ok-second.second n say c.in-Some.ensures c.word.ensures.looks.reads c.in_ok-second.ensures.number told)
