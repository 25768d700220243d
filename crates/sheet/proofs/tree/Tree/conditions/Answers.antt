use Rattle.std.proofs.Common.{refl}
use Rattle.sheet.specs.Drafts.{drawn}
use Rattle.sheet.proofs.Marks.{marked_none}
use Rattle.sheet.proofs.tree.Tree.conditions.Goals as goal

pub loop-i-init : goal.loop-i-init
loop-i-init c = (refl, marked_none (drawn c.args.self.now.draft))
