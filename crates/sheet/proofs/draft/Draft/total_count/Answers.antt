use Rattle.std.proofs.Common.{◌-◌, length, arith}
use Rattle.sheet.specs.Drafts.{drawn}
use Rattle.sheet.proofs.Counts.{laid_end}
use Rattle.sheet.proofs.draft.Draft.total_count.Goals as goal

pub returns : goal.returns
returns c =
    let d = c.args.self.now in
    record { is_their_sum = laid_end (drawn d) (length d.nodes.now - 1) d.laid_out (omega (arith, d.some)) }
