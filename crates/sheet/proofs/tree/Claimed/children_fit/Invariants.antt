use Rattle.std.proofs.Common.{ℕ, ◌<◌}
use Rattle.sheet.specs.Drafts.{drawn}
use Rattle.sheet.specs.Tree.{GoodChild}
use Rattle.sheet.proofs.tree.Claimed.children_fit.Given as goal

abbrev pub invariant-loop-j : goal.invariant-loop-j
invariant-loop-j l = (j : ℕ) → j < l.j → GoodChild (drawn l.self.draft) l.i j
