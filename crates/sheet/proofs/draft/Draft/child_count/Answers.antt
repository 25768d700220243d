use Rattle.std.proofs.Common.{sym}
use Rattle.sheet.proofs.Drafts.{child_total}
use Rattle.sheet.proofs.draft.Draft.child_count.Goals as goal

pub returns : goal.returns
returns c = record { counts_them = sym (child_total c.args.self.now); few = c.args.self.now.few_children }
