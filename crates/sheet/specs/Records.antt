-- What the bytes of the sections write.
use Rattle.std.specs.Prelude.{◌≡◌, ℕ, zero, suc, ◌+◌, ◌*◌, ◌/◌, ◌≤◌, cond, List, length, ◌==◌, slice_index}
use Rattle.std.specs.Option.{unwrap_or}
use Rattle.framing.specs.declared.fault.Part.TheVariants as P
use Rattle.format.specs.declared.kind.NodeKind.{NodeKind}
use Rattle.format.specs.declared.kind.NodeKind.TheVariants as K
use Rattle.format.specs.declared.kind.NodeRecord.{NodeRecord}
use Rattle.format.specs.Kinds.{Says, kind_from}
use Rattle.framing.specs.Layout.{u16at, u32at, count_of, bytes_in}
use Rattle.sheet.specs.declared.node.Node.{Node}
use Rattle.sheet.specs.declared.node.Binding.{Binding}
use Rattle.sheet.specs.declared.node.Frame.{Frame}
use Rattle.sheet.specs.declared.node.Frame.TheVariants as F
use Rattle.sheet.specs.Shape.{Shape, shape}
use Rattle.table.specs.Tables.{tabulated}

-- the record of the node at place i: kind, child count, a, b
unfoldable pub record_at : List ℕ → ℕ → NodeRecord
record_at ns i = record { code = slice_index ns (11 * i); count = u16at ns (11 * i + 1); a = u32at ns (11 * i + 3); b = u32at ns (11 * i + 7) }

-- a record that says some kind, in a sheet of m bindings
pub record Said (m : ℕ) (x : NodeRecord) : Type 0 where
  pub kind : NodeKind
  pub says : Says m x kind

-- the kind it says
abbrev pub kind_said : NodeRecord → NodeKind
kind_said x = unwrap_or (kind_from x.code x.a x.b) K.Leaf

-- the child counts of the nodes before i, together
unfoldable pub begins : List ℕ → ℕ → ℕ
begins ns zero = 0
begins ns (suc i) = begins ns i + (record_at ns i).count

abbrev pub node_from : List ℕ → ℕ → Node
node_from ns i = record { kind = kind_said (record_at ns i); first = begins ns i; count = (record_at ns i).count }

-- child q, as a number
abbrev pub child_from : List ℕ → ℕ → ℕ
child_from cs q = u16at cs (2 * q)

-- the numbers of all children
abbrev pub numbers : List ℕ → List ℕ
numbers cs = tabulated (child_from cs) (length cs / 2)

-- binding i: its name and its hygiene
abbrev pub binding_at : List ℕ → ℕ → Binding
binding_at vs i = record { name = record { 0 = u32at vs (8 * i) }; hygiene = record { 0 = u32at vs (8 * i + 4) } }

-- no binding is without a name or named `Self`
pub record GoodBinding (vs : List ℕ) (i : ℕ) : Type 0 where
  pub some_name : (binding_at vs i).name.0 ≡ 0 → ⊥
  pub not_self_type : (binding_at vs i).name.0 ≡ 2 → ⊥

-- frame i: its kind 1, 2 or 3, and its number from 1
abbrev pub frame_code : List ℕ → ℕ → ℕ
frame_code fs i = slice_index fs (5 * i)

abbrev pub frame_number : List ℕ → ℕ → ℕ
frame_number fs i = u32at fs (5 * i + 1)

pub record GoodFrame (fs : List ℕ) (i : ℕ) : Type 0 where
  pub least : 1 ≤ frame_code fs i
  pub most : frame_code fs i ≤ 3
  pub numbered : 1 ≤ frame_number fs i

abbrev pub frame_from : ℕ → ℕ → Frame
frame_from k n = cond (k == 1) (F.ImplGenerics (record { 0 = n })) (cond (k == 2) (F.Generics (record { 0 = n })) (F.Block (record { 0 = n })))

abbrev pub frame_at : List ℕ → ℕ → Frame
frame_at fs i = frame_from (frame_code fs i) (frame_number fs i)

-- what a whole sheet writes
abbrev pub nodes_in : List ℕ → List Node
nodes_in bs = tabulated (node_from (bytes_in bs P.Nodes)) (count_of bs P.Nodes)

abbrev pub children_in : List ℕ → List ℕ
children_in bs = tabulated (child_from (bytes_in bs P.Children)) (count_of bs P.Children)

abbrev pub bindings_in : List ℕ → List Binding
bindings_in bs = tabulated (binding_at (bytes_in bs P.Bindings)) (count_of bs P.Bindings)

abbrev pub frames_in : List ℕ → List Frame
frames_in bs = tabulated (frame_at (bytes_in bs P.Frames)) (count_of bs P.Frames)

abbrev pub shape_in : List ℕ → Shape
shape_in bs = shape (nodes_in bs) (children_in bs)
