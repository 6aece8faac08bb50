use Rattle.std.proofs.Common.{◌≡◌, ◌<◌, ◌≤◌, length, rules, refl, ◌∙◌, ap}
use Rattle.nbd_model.specs.Numbers.{u32_at}
use Rattle.nbd_session.specs.declared.agreed.Phase.TheVariants.{Greeted}
use Rattle.nbd_session.proofs.Answering.{flags_wait, flags_hang, flags_taken}
use Rattle.nbd_session.proofs.session.Session.take_flags.Goals as goal

pub returns-then-bytes-lt4 : goal.returns-then-bytes-lt4
returns-then-bytes-lt4 c = λ c' exports out at waits.
    let phase : c.args.self.now.agreed.phase ≡ Greeted = search rules in
    let short : length c.args.self.now.unread < 4 = rw c.as_slice-bytes.ensures at c.if-bytes-lt4.true in
    flags_wait exports c.args.self.now c' out at c.requires.turn c.requires.reading phase short

pub returns-then-flags-gt3 : goal.returns-then-flags-gt3
returns-then-flags-gt3 c = λ c' exports out at waits.
    let phase : c.args.self.now.agreed.phase ≡ Greeted = search rules in
    let there : 4 ≤ length c.args.self.now.unread = rw c.as_slice-bytes.ensures at c.if-bytes-lt4.false in
    let same = c.first_number-flags.ensures ∙ ap (λ l. u32_at l 0) c.as_slice-bytes.ensures in
    let wrong : 3 < u32_at c.args.self.now.unread 0 = rw same at c.if-flags-gt3.true in
    flags_hang exports c.args.self.now _ c' out at c.requires.turn c.requires.reading phase there wrong

pub returns : goal.returns
returns c = λ c' exports out at waits.
    let phase : c.args.self.now.agreed.phase ≡ Greeted = search rules in
    let there : 4 ≤ length c.args.self.now.unread = rw c.as_slice-bytes.ensures at c.if-bytes-lt4.false in
    let same = c.first_number-flags.ensures ∙ ap (λ l. u32_at l 0) c.as_slice-bytes.ensures in
    let right : u32_at c.args.self.now.unread 0 ≤ 3 = rw same at c.if-flags-gt3.false in
    flags_taken exports c.args.self.now _ c' out at c.requires.turn c.requires.reading phase there right (rw same refl) c.take.ensures c.requires.reading c.requires.turn
