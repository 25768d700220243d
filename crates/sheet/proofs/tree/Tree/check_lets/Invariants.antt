use Rattle.std.proofs.Common.{ℕ, ◌<◌}
use Rattle.sheet.specs.Drafts.{drawn}
use Rattle.sheet.specs.Tree.{LetInPlace}
use Rattle.sheet.proofs.tree.Tree.check_lets.Given as goal

abbrev pub invariant-loop-i : goal.invariant-loop-i
invariant-loop-i l = (k : ℕ) → k < l.i → LetInPlace (drawn l.self.draft) k
