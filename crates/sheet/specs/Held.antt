-- What a body holds, as lists.
use Rattle.std.specs.Prelude.{◌≡◌, ℕ, List, take, drop, Option, slice_index_or}
use Rattle.format.specs.declared.ids.NodeId.{NodeId}
use Rattle.framing.specs.Faults.{NoneApply}
use Rattle.sheet.specs.declared.body.Body.{Body}
use Rattle.sheet.specs.declared.node.Binding.{Binding}
use Rattle.sheet.specs.declared.node.Frame.{Frame}
use Rattle.sheet.specs.declared.node.Node.{Node}
use Rattle.sheet.specs.Causes.{Applies}
use Rattle.sheet.specs.Lawful.{shape_of}
use Rattle.sheet.specs.Records.{nodes_in, children_in, bindings_in, frames_in}
use Rattle.sheet.specs.Shape.{Shape, blank}
use Rattle.table.specs.Tables.{listed}

abbrev pub tree_of : Body → Shape
tree_of b = shape_of b.nodes b.children

abbrev pub nodes_of : Body → List Node
nodes_of b = listed b.nodes

-- the children of the node at place i, each of which may be absent
abbrev pub children_of : Body → ℕ → List (Option NodeId)
children_of b i = take (slice_index_or (nodes_of b) i blank).count (drop (slice_index_or (nodes_of b) i blank).first (listed b.children))

abbrev pub bindings_of : Body → List Binding
bindings_of b = listed b.bindings

abbrev pub frames_of : Body → List Frame
frames_of b = listed b.frames

-- the body holds what the bytes write, record by record, and no more
pub record Written (bs : List ℕ) (b : Body) : Type 0 where
  pub nodes : nodes_of b ≡ nodes_in bs
  pub children : (tree_of b).children ≡ children_in bs
  pub bindings : bindings_of b ≡ bindings_in bs
  pub frames : frames_of b ≡ frames_in bs

-- an accepted sheet: nothing speaks against it, and the body is what it writes
pub record Accepted (bs : List ℕ) (b : Body) : Type 0 where
  pub no_cause : NoneApply (Applies bs)
  pub written : Written bs b
