use Rattle.std.proofs.Common.{rules}
use Rattle.scope.specs.Queries.{all_entries}
use Rattle.resolve.proofs.Supposed.{supposed_local}
use Rattle.resolve.proofs.entries.local_in.Goals as goal

pub returns : goal.returns
returns c = let l = supposed_local c.args.test.supposed (all_entries c.args.tree.now) c.args.test.name c.args.test.hygiene c.args.s in search rules
