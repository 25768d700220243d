-- Node numbers: 0 stands for no node.
use Rattle.std.specs.Prelude.{ℕ, cond, Some, None, Option, nat_le}
use Rattle.format.specs.declared.ids.NodeId.{NodeId}

-- the number of a node that may be absent, 0 where it is
abbrev pub number_of : Option NodeId → ℕ
number_of None = 0
number_of (Some n) = n.raw

-- which node a written number stands for: none past 512
abbrev pub node_from : ℕ → ℕ
node_from n = cond (nat_le n 512) n 0
