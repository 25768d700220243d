use Rattle.std.proofs.Common.{◌≡◌, length}
use Rattle.sheet.specs.Drafts.{drawn}
use Rattle.sheet.specs.Steps.{Marked}
use Rattle.sheet.proofs.tree.Tree.mark_node.Given as goal

abbrev pub invariant-loop-j : goal.invariant-loop-j
invariant-loop-j l = (length l.marks ≡ 513) × Marked (drawn l.self.draft) l.i l.j l.marks
