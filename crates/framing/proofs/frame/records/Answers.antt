use Rattle.std.proofs.Common.{rules}
use Rattle.framing.specs.Layout.{part_from}
use Rattle.framing.proofs.frame.records.Goals as goal

pub returns : goal.returns
unfolding part_from
returns c = search rules
