use Rattle.std.proofs.Common.{inr, arith, below_more}
use Rattle.std.proofs.lemmas.Result.{err_from_is_err_and}
use Rattle.sheet.specs.Drafts.{drawn}
use Rattle.sheet.specs.Tree.{GoodNode}
use Rattle.sheet.proofs.draft.Draft.check_tree.Goals as goal

pub returns-in_err-check_node : goal.returns-in_err-check_node
returns-in_err-check_node c =
    let p = err_from_is_err_and c.from_residual.result c.from_residual.ensures.1 in
    let h = c.in_err-check_node.ensures.good_or_refused in
    rw (p.1, p.2) record {
      itself_or_the_first_refused = inr (
        omega (arith, c.total_count.ensures.is_their_sum, c.child_count.ensures.counts_them, c.if-total_count-child_count.false),
        record { at = c.loop-i.i; fault = h.0; within = c.loop-i-test.true; broken = h.1; kept_before = c.loop-i.invariant },
      );
    }

pub loop-i-preserved : goal.loop-i-preserved
loop-i-preserved c = below_more (GoodNode (drawn c.args.self.now)) _ c.loop-i.invariant c.in_ok-check_node.ensures.good_or_refused
