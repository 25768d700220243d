use Rattle.std.proofs.Common.{◌≡◌}
use Rattle.framing.specs.Layout.{start_at}
use Rattle.framing.proofs.frame.start_of.Given as goal

abbrev pub invariant-loop-earlier : goal.invariant-loop-earlier
invariant-loop-earlier l = l.at ≡ start_at l.bytes l.earlier-items l.earlier-index
