use Rattle.std.proofs.Common.{ℕ, ◌<◌, get_or}
use Rattle.framing.specs.declared.fault.Part.TheVariants as P
use Rattle.framing.specs.Framing.{CountFits}
use Rattle.framing.proofs.frame.check_counts.Given as goal

abbrev pub invariant-loop-part : goal.invariant-loop-part
invariant-loop-part l = (j : ℕ) → j < l.part-index → CountFits l.bytes (get_or l.part-items j P.Whole)
