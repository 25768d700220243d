use Rattle.std.proofs.Common.{rules}
use Rattle.framing.specs.Layout.{end_from}
use Rattle.framing.proofs.frame.end_of.Goals as goal

pub returns-then-bytes-at-lt2 : goal.returns-then-bytes-at-lt2
unfolding end_from
returns-then-bytes-at-lt2 c = search rules

pub returns-then-bytes-at : goal.returns-then-bytes-at
unfolding end_from
returns-then-bytes-at c = search rules

pub returns : goal.returns
unfolding end_from
returns c = search rules
