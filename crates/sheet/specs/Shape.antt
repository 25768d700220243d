-- The nodes of a body and their children, as lists: node number n stands at place n - 1.
use Rattle.std.specs.Prelude.{ℕ, ◌+◌, ◌-◌, cond, List, [], ◌∷◌, Some, None, Option, ◌==◌, slice_index, slice_index_or}
use Rattle.format.specs.declared.kind.NodeKind.{NodeKind}
use Rattle.format.specs.declared.kind.NodeKind.TheVariants as K
use Rattle.format.specs.declared.kind.Sort.{Sort}
use Rattle.format.specs.Kinds.{sort_of}
use Rattle.sheet.specs.declared.node.Node.{Node}

abbrev pub blank : Node
blank = record { kind = K.Leaf; first = 0; count = 0 }

-- the children of all nodes by number, node 1's first; 0 is an absent child
pub record Shape : Type 0 where
  pub nodes : List Node
  pub children : List ℕ

abbrev pub shape : List Node → List ℕ → Shape
shape ns cs = record { nodes = ns; children = cs }

-- the node at place i
abbrev pub node_at : Shape → ℕ → Node
node_at t i = slice_index_or t.nodes i blank

abbrev pub kind_at : Shape → ℕ → NodeKind
kind_at t i = (node_at t i).kind

-- the number of its child at place j
abbrev pub child_at : Shape → ℕ → ℕ → ℕ
child_at t i j = slice_index t.children ((node_at t i).first + j)

-- the sort of node number c, and none for 0
abbrev pub sort_at : Shape → ℕ → Option Sort
sort_at t c = cond (c == 0) None (Some (sort_of (kind_at t (c - 1))))

-- all child counts together
abbrev pub total : List Node → ℕ
total [] = 0
total (n ∷ ns) = n.count + total ns

-- how often a number stands in a list
abbrev pub times : ℕ → List ℕ → ℕ
times c [] = 0
times c (x ∷ xs) = cond (c == x) 1 0 + times c xs
