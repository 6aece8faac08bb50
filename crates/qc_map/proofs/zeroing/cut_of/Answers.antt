use Rattle.std.proofs.Common.{◌≡◌, ℕ, ◌+◌, ◌-◌, ◌*◌, ◌%◌, ◌<◌, ◌≤◌, Bool, ◌||◌, ◌==◌, if◌then◌else◌, sym, ◌∙◌, ap, eq-eqb, arith}
use Rattle.std.proofs.lemmas.Bool.{ne_eqb}
use Rattle.std.proofs.Math.Nat.{mul_comm}
use Rattle.qc_map.specs.Zeroing.{first_whole, end_whole}
use Rattle.qc_map.proofs.Zeroed.{is_cut}
use Rattle.qc_map.proofs.zeroing.cut_of.Goals.{then-part-eq0, else-part-eq0, then-is_last, else-is_last, then-past-cluster-eq0, else-past-cluster-eq0}
use Rattle.qc_map.proofs.zeroing.cut_of.Goals as goal

pub returns : goal.returns
returns c =
    let p = c.args.part.now in
    let past : ℕ = p.from + p.length in
    let first_is : c.if-part-eq0.first ≡ first_whole p = elim c.if-part-eq0.branch [
      | then-part-eq0 w ↦ w.first-is ∙ sym (ap (λ (b : Bool). if b then 0 else 1) (eq-eqb p.from 0 w.if-part-eq0.true))
      | else-part-eq0 w ↦ w.first-is ∙ sym (ap (λ (b : Bool). if b then 0 else 1) (ne_eqb p.from 0 w.if-part-eq0.false))
    ] in
    let value_is : c.if-is_last.value ≡ (c.args.is_last || ((p.from + p.length) % c.args.cluster == 0)) = elim c.if-is_last.branch [
      | then-is_last w ↦ w.value-is ∙ w.if-is_last.true ∙ sym (ap (λ (b : Bool). b || ((p.from + p.length) % c.args.cluster == 0)) w.if-is_last.true)
      | else-is_last w ↦ w.value-is ∙ sym (ap (λ (b : Bool). b || ((p.from + p.length) % c.args.cluster == 0)) w.if-is_last.false)
    ] in
    let end_is : c.if-past-cluster-eq0.end ≡ end_whole p c.args.cluster c.args.is_last = elim c.if-past-cluster-eq0.branch [
      | then-past-cluster-eq0 w ↦ w.end-is ∙ sym (ap (λ (b : Bool). if b then p.count else p.count - 1) (sym value_is ∙ w.if-past-cluster-eq0.true))
      | else-past-cluster-eq0 w ↦ w.end-is ∙ sym (ap (λ (b : Bool). if b then p.count else p.count - 1) (sym value_is ∙ w.if-past-cluster-eq0.false))
    ] in
    record {
      cut = is_cut p c.args.cluster c.args.is_last c.if-part-eq0.first c.if-past-cluster-eq0.end (c.if-part-eq0.first * c.args.cluster - p.from) c.saturating_sub.result (omega (arith, c.requires.least)) c.requires.some c.requires.inside c.requires.covers
          c.requires.short c.requires.apart first_is end_is (ap (λ (z : ℕ). z - p.from) (mul_comm c.if-part-eq0.first c.args.cluster))
          (c.saturating_sub.ensures ∙ ap (λ (z : ℕ). p.from + p.length - z) (mul_comm c.if-past-cluster-eq0.end c.args.cluster));
    }
