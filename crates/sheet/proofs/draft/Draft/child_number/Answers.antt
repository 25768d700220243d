use Rattle.std.proofs.Common.{◌/◌, length, sym, ◌∙◌, arith}
use Rattle.sheet.specs.Records.{child_from}
use Rattle.sheet.proofs.Drafts.{child_total}
use Rattle.table.proofs.Listed.{get_or-tabulated}
use Rattle.sheet.proofs.draft.Draft.child_number.Goals as goal

pub overflow_mul-q : goal.overflow_mul-q
overflow_mul-q c = omega (arith, c.requires.is_there, child_total c.args.self.now, c.args.self.now.few_children)

pub returns : goal.returns
returns c =
    let cs = c.args.self.now.children.now in
    let n = child_total c.args.self.now in
    record { as_written = c.u16_at.ensures.reads_them (omega arith) ∙ sym (get_or-tabulated (child_from cs) (length cs / 2) c.args.q 0 (omega arith)) }
