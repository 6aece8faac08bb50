use Rattle.std.proofs.Common.{rules}
use Rattle.nbd_model.specs.Options.{context_reply}
use Rattle.nbd_session.proofs.Growing.{grows_by}
use Rattle.nbd_session.proofs.Listing.{told_of, told_none}
use Rattle.nbd_session.proofs.contexts.write_listed.Goals as goal
use Rattle.nbd_session.proofs.contexts.write_listed.Goals.{then-is_listed+in_ok-write_context, else-is_listed}

pub loop-context-preserved : goal.loop-context-preserved
loop-context-preserved c =
    let i = c.loop-context.context-index in
    let x = c.context-item.result in
    let out = c.loop-context.out.items.items in
    elim c.if-is_listed.branch [
      | then-is_listed+in_ok-write_context w ↦
          rw w.out-is record {
            sends = told_of c.args.option c.args.queries.now _ i x out _ _ c.loop-context-test.true c.context-item.is (search rules) (search rules) c.loop-context.invariant.sends;
            grows = grows_by _ _ _ (context_reply c.args.option 0 x) c.loop-context.invariant.grows (search rules);
          }
      | else-is_listed w ↦
          rw w.out-is record {
            sends = told_none c.args.option c.args.queries.now _ i x out _ c.loop-context-test.true c.context-item.is (search rules) c.loop-context.invariant.sends;
            grows = c.loop-context.invariant.grows;
          }
    ]
