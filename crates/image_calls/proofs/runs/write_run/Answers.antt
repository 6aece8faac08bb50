use Rattle.std.proofs.Common.{inl, inr, ⊎_elim, ◌+◌, ◌*◌, IsTrue, sym, subst, arith, ◌∙◌}
use Rattle.disk_model.specs.Files.{u64_at}
use Rattle.image_model.specs.Runs.{AreAsBefore, AreLinked}
use Rattle.image_steps.proofs.Good.{more_safe}
use Rattle.image_steps.proofs.Links.{words_on}
use Rattle.image_steps.proofs.Standing.{moves_on, moves_more}
use Rattle.image_steps.proofs.Storing.{holding_stands, linking_on, rest_of, rest_after, stored_by, has_data_on, before_after}
use Rattle.image_calls.proofs.runs.write_run.Goals as goal

pub returns-in-Ok-link-clause-moves : goal.returns-in-Ok-link-clause-moves
returns-in-Ok-link-clause-moves g c s disks first last k n q i j filling linking =
    moves_on c.write_data.ensures.puts.writes c.link.ensures.puts.writes (λ d safe. more_safe s disks _ d safe) (c.write_data.ensures.moves s disks first last k n filling)
    (λ stands. c.link.ensures.moves s disks (k + n) last k n q i j (linking_on c.write_data.ensures.puts.writes linking (λ was. c.write_data.ensures.leaves s disks first last k n filling stands was)))

pub returns-in-Ok-link-clause-leaves : goal.returns-in-Ok-link-clause-leaves
returns-in-Ok-link-clause-leaves g c s disks first last k n q i j filling linking stands told =
    rest_after (c.write_data.ensures.leaves s disks first last k n filling stands told) (c.link.ensures.leaves s disks (k + n) last k n q i j (linking_on c.write_data.ensures.puts.writes linking (λ was. c.write_data.ensures.leaves s disks first last k n filling stands was)) ((c.write_data.ensures.moves s disks first last k n filling).stands stands) (subst IsTrue (sym c.write_data.ensures.puts.writes.goes.tells) told))

pub returns-in-Ok-link-clause-either : goal.returns-in-Ok-link-clause-either
returns-in-Ok-link-clause-either g c s disks first last k n q i j filling linking stands told x =
    let old = (g.D.Outside.world c.write_data.new.depot).seen c.args.file.0 in
    let new = (g.D.Outside.world c.link.new.depot).seen c.args.file.0 in
    ⊎_elim
    (λ (same : AreAsBefore s q i j n x old new). inl (before_after s q i j n x ((g.D.Outside.world c.args.depot.now).seen c.args.file.0) old new (λ m m_in. omega (arith, linking.slots.slots, m_in)) linking.slots.index (c.write_data.ensures.leaves s disks first last k n filling stands told) same))
    (λ (there : AreLinked s k q i j n x c.args.entries.now old new). inr (λ m m_in here. stored_by s k n i j m (u64_at c.args.entries.now (8 * m)) c.args.at c.args.bytes.now old new
    (c.in-Ok.ensures.there s disks first last k n filling stands told) m_in (there m m_in here)))
    (c.link.ensures.either s disks (k + n) last k n q i j (linking_on c.write_data.ensures.puts.writes linking (λ was. c.write_data.ensures.leaves s disks first last k n filling stands was)) ((c.write_data.ensures.moves s disks first last k n filling).stands stands) (subst IsTrue (sym c.write_data.ensures.puts.writes.goes.tells) told) x)

pub returns-in-Err-link-clause-moves : goal.returns-in-Err-link-clause-moves
returns-in-Err-link-clause-moves g c s disks first last k n q i j filling linking =
    moves_on c.write_data.ensures.puts.writes c.link.ensures.puts.writes (λ d safe. more_safe s disks _ d safe) (c.write_data.ensures.moves s disks first last k n filling)
    (λ stands. c.link.ensures.moves s disks (k + n) last k n q i j (linking_on c.write_data.ensures.puts.writes linking (λ was. c.write_data.ensures.leaves s disks first last k n filling stands was)))

pub returns-in-Err-link-clause-leaves : goal.returns-in-Err-link-clause-leaves
returns-in-Err-link-clause-leaves g c s disks first last k n q i j filling linking stands told =
    rest_after (c.write_data.ensures.leaves s disks first last k n filling stands told) (c.link.ensures.leaves s disks (k + n) last k n q i j (linking_on c.write_data.ensures.puts.writes linking (λ was. c.write_data.ensures.leaves s disks first last k n filling stands was)) ((c.write_data.ensures.moves s disks first last k n filling).stands stands) (subst IsTrue (sym c.write_data.ensures.puts.writes.goes.tells) told))

pub returns-in-Err-link-clause-either : goal.returns-in-Err-link-clause-either
returns-in-Err-link-clause-either g c s disks first last k n q i j filling linking stands told x =
    let old = (g.D.Outside.world c.write_data.new.depot).seen c.args.file.0 in
    let new = (g.D.Outside.world c.link.new.depot).seen c.args.file.0 in
    ⊎_elim
    (λ (same : AreAsBefore s q i j n x old new). inl (before_after s q i j n x ((g.D.Outside.world c.args.depot.now).seen c.args.file.0) old new (λ m m_in. omega (arith, linking.slots.slots, m_in)) linking.slots.index (c.write_data.ensures.leaves s disks first last k n filling stands told) same))
    (λ (there : AreLinked s k q i j n x c.args.entries.now old new). inr (λ m m_in here. stored_by s k n i j m (u64_at c.args.entries.now (8 * m)) c.args.at c.args.bytes.now old new
    (c.in-Ok.ensures.there s disks first last k n filling stands told) m_in (there m m_in here)))
    (c.link.ensures.either s disks (k + n) last k n q i j (linking_on c.write_data.ensures.puts.writes linking (λ was. c.write_data.ensures.leaves s disks first last k n filling stands was)) ((c.write_data.ensures.moves s disks first last k n filling).stands stands) (subst IsTrue (sym c.write_data.ensures.puts.writes.goes.tells) told) x)

pub returns-in-Ok-link-clause-stored : goal.returns-in-Ok-link-clause-stored
returns-in-Ok-link-clause-stored g c s disks first last k n q i j filling linking stands told m m_in =
    stored_by s k n i j m (u64_at c.args.entries.now (8 * m)) c.args.at c.args.bytes.now ((g.D.Outside.world c.write_data.new.depot).seen c.args.file.0) ((g.D.Outside.world c.link.new.depot).seen c.args.file.0)
    (c.in-Ok.ensures.there s disks first last k n filling stands told) m_in (c.in-Ok-link.ensures.linked s disks (k + n) last k n q i j (linking_on c.write_data.ensures.puts.writes linking (λ was. c.write_data.ensures.leaves s disks first last k n filling stands was)) ((c.write_data.ensures.moves s disks first last k n filling).stands stands) (subst IsTrue (sym c.write_data.ensures.puts.writes.goes.tells) told) m m_in)

pub returns-in-Err-clause-moves : goal.returns-in-Err-clause-moves
returns-in-Err-clause-moves g c s disks first last k n q i j filling linking =
    moves_more (λ d safe. more_safe s disks _ d safe) (λ holds. holding_stands _ holds filling.to) (c.write_data.ensures.moves s disks first last k n filling)

pub returns-in-Err-clause-leaves : goal.returns-in-Err-clause-leaves
returns-in-Err-clause-leaves g c s disks first last k n q i j filling linking stands told = rest_of (c.write_data.ensures.leaves s disks first last k n filling stands told)

pub returns-in-Err-clause-alike : goal.returns-in-Err-clause-alike
returns-in-Err-clause-alike g c failed s disks first last k n q i j filling linking stands told = c.write_data.ensures.leaves s disks first last k n filling stands told

pub returns-in-Err-clause-either : goal.returns-in-Err-clause-either
returns-in-Err-clause-either g c s disks first last k n q i j filling linking stands told x =
    inl (λ m m_in here. (c.write_data.ensures.leaves s disks first last k n filling stands told).alike.entries i (j + m) linking.slots.index (omega (arith, linking.slots.slots, m_in)))

pub returns-in-Err-link-clause-held : goal.returns-in-Err-link-clause-held
returns-in-Err-link-clause-held g c failed s disks first last k n q i j filling linking stands told =
    has_data_on s k n c.args.at c.args.bytes.now ((g.D.Outside.world c.write_data.new.depot).seen c.args.file.0) ((g.D.Outside.world c.link.new.depot).seen c.args.file.0) (c.in-Ok.ensures.there s disks first last k n filling stands told)
    (c.link.ensures.stays s disks (k + n) last k n q i j (linking_on c.write_data.ensures.puts.writes linking (λ was. c.write_data.ensures.leaves s disks first last k n filling stands was)) ((c.write_data.ensures.moves s disks first last k n filling).stands stands) (subst IsTrue (sym c.write_data.ensures.puts.writes.goes.tells) told))

pub returns-in-Ok-link-clause-rows : goal.returns-in-Ok-link-clause-rows
returns-in-Ok-link-clause-rows g c s disks first last k n q i j filling linking stands told =
    words_on s ((g.D.Outside.world c.args.depot.now).seen c.args.file.0) ((g.D.Outside.world c.write_data.new.depot).seen c.args.file.0)
    ((g.D.Outside.world c.link.new.depot).seen c.args.file.0)
    (c.write_data.ensures.rows s disks first last k n filling stands told)
    (c.link.ensures.rows s disks (k + n) last k n q i j
    (linking_on c.write_data.ensures.puts.writes linking (λ was. c.write_data.ensures.leaves s disks first last k n filling stands was))
    ((c.write_data.ensures.moves s disks first last k n filling).stands stands)
    (subst IsTrue (sym c.write_data.ensures.puts.writes.goes.tells) told))

pub returns-in-Err-link-clause-rows : goal.returns-in-Err-link-clause-rows
returns-in-Err-link-clause-rows g c s disks first last k n q i j filling linking stands told =
    words_on s ((g.D.Outside.world c.args.depot.now).seen c.args.file.0) ((g.D.Outside.world c.write_data.new.depot).seen c.args.file.0)
    ((g.D.Outside.world c.link.new.depot).seen c.args.file.0)
    (c.write_data.ensures.rows s disks first last k n filling stands told)
    (c.link.ensures.rows s disks (k + n) last k n q i j
    (linking_on c.write_data.ensures.puts.writes linking (λ was. c.write_data.ensures.leaves s disks first last k n filling stands was))
    ((c.write_data.ensures.moves s disks first last k n filling).stands stands)
    (subst IsTrue (sym c.write_data.ensures.puts.writes.goes.tells) told))

pub returns-in-Err-clause-rows : goal.returns-in-Err-clause-rows
returns-in-Err-clause-rows g c s disks first last k n q i j filling linking stands told =
    c.write_data.ensures.rows s disks first last k n filling stands told

pub returns-in-Err-clause-frame : goal.returns-in-Err-clause-frame
returns-in-Err-clause-frame g c told x out = c.write_data.ensures.frame told x (λ is. out (inl is))

pub returns-in-Ok-link-clause-frame : goal.returns-in-Ok-link-clause-frame
returns-in-Ok-link-clause-frame g c told x out =
    c.link.ensures.frame (subst IsTrue (sym c.write_data.ensures.puts.writes.goes.tells) told) x (λ is. out (inr is))
    ∙ c.write_data.ensures.frame told x (λ is. out (inl is))

pub returns-in-Err-link-clause-frame : goal.returns-in-Err-link-clause-frame
returns-in-Err-link-clause-frame g c told x out =
    c.link.ensures.frame (subst IsTrue (sym c.write_data.ensures.puts.writes.goes.tells) told) x (λ is. out (inr is))
    ∙ c.write_data.ensures.frame told x (λ is. out (inl is))
