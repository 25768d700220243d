use Rattle.std.proofs.Common.{◌≡◌, ◌≤◌, length}
use Rattle.framing.specs.Layout.{start_at}
use Rattle.framing.proofs.frame.check_length.Given as goal

abbrev pub invariant-loop-part : goal.invariant-loop-part
invariant-loop-part l = (l.at ≡ start_at l.bytes l.part-items l.part-index) × (l.at ≤ length l.bytes)
