use Rattle.std.proofs.Common.{◌≡◌, length}
use Rattle.sheet.specs.Drafts.{drawn}
use Rattle.sheet.specs.Steps.{MarkedFrom}
use Rattle.sheet.proofs.tree.Tree.conditions.Given as goal

abbrev pub invariant-loop-i : goal.invariant-loop-i
invariant-loop-i l = (length l.marks ≡ 513) × MarkedFrom (drawn l.self.draft) l.i l.marks
