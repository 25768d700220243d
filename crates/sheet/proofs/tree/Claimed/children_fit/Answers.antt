use Rattle.std.proofs.Common.{below_more}
use Rattle.sheet.proofs.tree.Claimed.children_fit.Goals as goal

pub loop-j-preserved : goal.loop-j-preserved
loop-j-preserved c = below_more _ _ c.loop-j.invariant (c.child_fits.ensures.is_good.0 c.if-not-child_fits.false)
