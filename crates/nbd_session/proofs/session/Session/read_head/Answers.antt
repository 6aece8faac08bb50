use Rattle.std.proofs.Common.{◌≡◌, ◌-◌, ◌≤◌, List, ℕ, [], length, min, ap, ◌∙◌, refl, rules, arith, subst}
use Rattle.core_events.specs.declared.infos.ExportInfo.{ExportInfo}
use Rattle.nbd_session.specs.Reading.{IsBegun, Opens, skips}
use Rattle.nbd_session.specs.declared.asking.Opened.TheVariants.{Waits}
use Rattle.nbd_session.specs.declared.session.Reading.TheVariants as reading
use Rattle.nbd_session.proofs.Steps.{head_read, not_head}
use Rattle.nbd_session.proofs.session.Session.read_head.Goals as goal

pub overflow_sub-as_slice : goal.overflow_sub-as_slice
overflow_sub-as_slice c =
    let within = (c.in-Reads.ensures []).within in
    rw c.as_slice-in-Reads.ensures (rw c.as_slice.ensures at within)

pub take-requires : goal.take-requires
take-requires c =
    let within = (c.in-Reads.ensures []).within in
    let there : c.in-Reads.size ≤ length c.args.self.now.unread = rw c.as_slice.ensures at within in
    let some = c.min-skipped.ensures in
    let same = ap (λ (l : List ℕ). length l) c.as_slice-in-Reads.ensures in
    omega arith

pub returns-in-Waits-clause-waits : goal.returns-in-Waits-clause-waits
returns-in-Waits-clause-waits c = λ yes exports head later.
    let P : List ℕ → Type 0 = λ l. Opens Waits exports c.args.self.now.agreed l in
    let waits : Opens Waits exports c.args.self.now.agreed c.args.self.now.unread = subst P c.as_slice.ensures (c.in-Waits.ensures exports) in
    waits later

pub returns-in-Reads-clause-reads : goal.returns-in-Reads-clause-reads
returns-in-Reads-clause-reads c = λ yes.
    let old = c.args.self.now in
    let r = c.in-Reads.reading in
    let size = c.in-Reads.size in
    let begun : (exports : List ExportInfo) → IsBegun r size exports old.agreed old.unread =
    λ exports. let P : List ℕ → Type 0 = λ l. IsBegun r size exports old.agreed l in subst P c.as_slice.ensures (c.in-Reads.ensures exports) in
    let head : old.reading ≡ reading.Head = search rules in
    let is : c.min-skipped.result ≡ min (skips r) (length old.unread - size) =
    c.min-skipped.ensures ∙ ap (λ k. min k (length c.as_slice-in-Reads.result.now - size)) c.skips.ensures ∙ ap (λ (l : List ℕ). min (skips r) (length l - size)) c.as_slice-in-Reads.ensures in
    head_read old _ r size c.min-skipped.result head begun is (rw (c.take.ensures, c.without-self.ensures) refl)

pub returns-in-Reads-clause-waits : goal.returns-in-Reads-clause-waits
returns-in-Reads-clause-waits c = λ yes exports head later.
    absurd (not_head c.in-Reads.reading c.args.self.now.agreed c.min-skipped.result (c.in-Reads.ensures exports).short (rw c.without-self.ensures at head))
