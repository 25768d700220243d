-- The nodes of a body and their children: node number n stands at place n - 1.
use Rattle.std.specs.Prelude.{ℕ, ◌+◌, ◌-◌, ◌<◌, ◌≤◌, List, get_or, take, drop, None, Option, slice_index_or}
use Rattle.sheet.specs.declared.node.Node.{Node}
use Rattle.format.specs.declared.ids.NodeId.{NodeId}
use Rattle.sheet.specs.Shape.{blank}
use Rattle.format.specs.Ids.{number_of}

-- the record of node number n
abbrev pub node_at : List Node → ℕ → Node
node_at ns n = slice_index_or ns (n - 1) blank

abbrev pub child_at : List (Option NodeId) → ℕ → Option NodeId
child_at cs i = slice_index_or cs i None

-- every child is numbered below its parent
abbrev pub Below : List Node → List (Option NodeId) → Type 0
Below ns cs = (k i : ℕ) → k < 512 → i < (get_or ns k blank).count → number_of (child_at cs ((get_or ns k blank).first + i)) ≤ k

-- the nodes and the children of a body sheet
pub record Shape : Type 0 where
  pub nodes : List Node
  pub children : List (Option NodeId)

-- the children of node number n, each of which may be absent
abbrev pub children_of : Shape → ℕ → List (Option NodeId)
children_of b n = take (node_at b.nodes n).count (drop (node_at b.nodes n).first b.children)
