use Rattle.std.proofs.Common.{◌+◌, ap, ◌∙◌, arith}
use Rattle.qc_layout.specs.declared.extension.Extension.{Extension}
use Rattle.qc_layout.specs.Extensions.{IsExtension}
use Rattle.qc_layout.proofs.Listing.{end_or_extension}
use Rattle.qc_layout.proofs.Parting.{decides_first, decides_behind, none_source, own_target, own_source}
use Rattle.qc_layout.proofs.kind.kind_of.Goals as goal

pub loop-e-init : goal.loop-e-init
loop-e-init c = record { near = omega arith; decides = decides_first c.args.bytes.now c.list_end-end.result c.from-at.result c.list_end-end.ensures.end (c.from-at.ensures ∙ c.number_32.ensures) }

pub returns-in-End : goal.returns-in-End
returns-in-End c =
    none_source c.args.bytes.now c.list_end-end.result c.loop-e.at c.loop-e.invariant.decides
    (λ (e : Extension) is. end_or_extension c.args.bytes.now c.list_end-end.result c.loop-e.at e is c.in-End.ensures)

pub returns-in-Broken : goal.returns-in-Broken
returns-in-Broken c = none_source c.args.bytes.now c.list_end-end.result c.loop-e.at c.loop-e.invariant.decides c.in-Broken.ensures.1

pub returns-then-e-eq64 : goal.returns-then-e-eq64
returns-then-e-eq64 c = own_target c.args.bytes.now c.list_end-end.result c.loop-e.at c.in-Whole.e c.loop-e.invariant.decides c.in-Whole.ensures c.if-e-eq-OWN_KIND.true c.if-e-eq64.true

pub returns-else-e-eq64 : goal.returns-else-e-eq64
returns-else-e-eq64 c = own_source c.args.bytes.now c.list_end-end.result c.loop-e.at c.in-Whole.e c.loop-e.invariant.decides c.in-Whole.ensures c.if-e-eq-OWN_KIND.true c.if-e-eq64.false

pub loop-e-preserved : goal.loop-e-preserved
loop-e-preserved c =
    let is : IsExtension c.args.bytes.now c.list_end-end.result c.loop-e.at c.in-Whole.e = c.in-Whole.ensures in
    record {
      near = omega (arith, is.whole);
      decides = decides_behind c.args.bytes.now c.list_end-end.result c.loop-e.at (c.in-Whole.e.place + c.padded.result) c.in-Whole.e c.loop-e.invariant.decides is c.if-e-eq-OWN_KIND.false (ap (λ n. c.in-Whole.e.place + n) c.padded.ensures);
    }
