use Rattle.std.proofs.Common.{◌≡◌, length}
use Rattle.sheet.specs.Drafts.{drawn}
use Rattle.sheet.specs.Steps.{Claims}
use Rattle.sheet.proofs.draft.Draft.first_claims.Given as goal

abbrev pub invariant-loop-q : goal.invariant-loop-q
invariant-loop-q l = (length l.first ≡ 513) × Claims (drawn l.self).children l.q l.first
