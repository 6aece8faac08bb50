use Rattle.std.proofs.Common.{◌+◌, arith, ap, sym, subst}
use Rattle.qc_layout.specs.Extensions.{IsExtension}
use Rattle.qc_layout.proofs.Listing.{Follows, follows_one, follows_all, follows_none_here}
use Rattle.qc_layout.proofs.extension.list_extensions.Goals as goal

pub returns-in-End : goal.returns-in-End
returns-in-End c = follows_all c.args.bytes.now c.args.end c.args.from c.loop-found.at c.loop-found.found.items c.loop-found.invariant.follows c.in-End.ensures

pub returns-in-Broken : goal.returns-in-Broken
returns-in-Broken c = follows_none_here c.args.bytes.now c.args.end c.args.from c.loop-found.at c.loop-found.found.items c.loop-found.invariant.follows c.in-Broken.ensures.0 c.in-Broken.ensures.1

pub loop-found-preserved : goal.loop-found-preserved
loop-found-preserved c =
    let is : IsExtension c.args.bytes.now c.args.end c.loop-found.at c.in-Whole.e = c.in-Whole.ensures in
    record {
      near = omega (arith, is.whole, c.requires.end, c.padded.ensures);
      follows = subst (Follows c.args.bytes.now c.args.end c.args.from (c.in-Whole.e.place + c.padded.result)) (sym c.in_ok-push-in-Whole.ensures.items)
          (follows_one c.args.bytes.now c.args.end c.args.from c.loop-found.at (c.in-Whole.e.place + c.padded.result) c.loop-found.found.items c.in-Whole.e c.loop-found.invariant.follows is (ap (λ n. c.in-Whole.e.place + n) c.padded.ensures));
    }
