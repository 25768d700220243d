use Rattle.std.proofs.Common.{◌≡◌, reverse, take}
use Rattle.host.specs.First.{first}
use Rattle.sheet.specs.Held.{frames_of}
use Rattle.resolve.specs.Outward.{frame_answer}
use Rattle.resolve.proofs.outside.ask_frames.Given as goal

-- what the frames that are left answer is what all of them answer
abbrev pub invariant-loop-place : goal.invariant-loop-place
invariant-loop-place g l =
    let fs = frames_of l.body in
    let f = frame_answer (g.I.ItemHost.tables l.items) l.name in
    first f (reverse (take l.place fs)) ≡ first f (reverse fs)
