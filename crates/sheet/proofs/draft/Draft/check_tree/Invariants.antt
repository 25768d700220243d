use Rattle.std.proofs.Common.{ℕ, ◌<◌}
use Rattle.sheet.specs.Drafts.{drawn}
use Rattle.sheet.specs.Tree.{GoodNode}
use Rattle.sheet.proofs.draft.Draft.check_tree.Given as goal

abbrev pub invariant-loop-i : goal.invariant-loop-i
invariant-loop-i l = (k : ℕ) → k < l.i → GoodNode (drawn l.self) k
