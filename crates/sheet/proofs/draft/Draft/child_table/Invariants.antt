use Rattle.std.proofs.Common.{◌≡◌, map}
use Rattle.format.specs.Ids.{number_of}
use Rattle.sheet.specs.Records.{child_from}
use Rattle.table.specs.Tables.{listed, tabulated}
use Rattle.sheet.proofs.draft.Draft.child_table.Given as goal

abbrev pub invariant-loop-q : goal.invariant-loop-q
invariant-loop-q l = map number_of (listed l.table) ≡ tabulated (child_from l.self.children.now) l.q
