use Rattle.std.proofs.Common.{rules}
use Rattle.sheet.specs.Records.{record_at}
use Rattle.sheet.proofs.nodes.node_record.Goals as goal

pub returns : goal.returns
unfolding record_at
returns c = search rules
