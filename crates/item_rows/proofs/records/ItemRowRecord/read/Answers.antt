use Rattle.std.proofs.Common.{rules}
use Rattle.host.proofs.Numbers.{some_kind}
use Rattle.item_rows.proofs.records.ItemRowRecord.read.Goals as goal

pub returns-in_err-kind : goal.returns-in_err-kind
returns-in_err-kind c = let e = c.in_err-kind.ensures in search (rules, some_kind)
