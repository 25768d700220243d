-- What makes a body lawful, over its tables as lists.
use Rattle.std.specs.Prelude.{◌≡◌, ℕ, ◌+◌, ◌<◌, ◌≤◌, Bool, true, cond, not, ◌&&◌, List, map, length, Option, ◌==◌, nat_lt, slice_index_or}
use Rattle.format.specs.declared.ids.NodeId.{NodeId}
use Rattle.format.specs.Ids.{number_of}
use Rattle.format.specs.Kinds.{admits, count_suits, named, slot_at}
use Rattle.sheet.specs.declared.node.Binding.{Binding}
use Rattle.sheet.specs.declared.node.Frame.{Frame}
use Rattle.sheet.specs.declared.node.Frame.TheVariants as F
use Rattle.sheet.specs.declared.node.Node.{Node}
use Rattle.table.specs.declared.Table.{Table}
use Rattle.sheet.specs.Shape.{Shape, shape, node_at, kind_at, child_at, sort_at, times}
use Rattle.table.specs.Tables.{listed}
use Rattle.sheet.specs.Tree.{LetInPlace, is_body}

-- the shape that a node table and a table of children have
abbrev pub shape_of : Table Node 512 → Table (Option NodeId) 1024 → Shape
shape_of ns cs = shape (listed ns) (map number_of (listed cs))

-- what each node's kind names is there, where there are m bindings, and its children fit in number
abbrev pub AllNamed : ℕ → Shape → Type 0
AllNamed m t = (i : ℕ) → i < length t.nodes → named m (kind_at t i) ≡ true

abbrev pub AllCounted : Shape → Type 0
AllCounted t = (i : ℕ) → i < length t.nodes → count_suits (kind_at t i) (node_at t i).count ≡ true

-- the child at place j of node i, where there is one, is such as the place admits
abbrev pub admitted_at : Shape → ℕ → ℕ → Bool
admitted_at t i j = cond (nat_lt j (node_at t i).count) (admits (slot_at (kind_at t i) j) (sort_at t (child_at t i j))) true

abbrev pub AllAdmitted : Shape → Type 0
AllAdmitted t = (i j : ℕ) → i < length t.nodes → admitted_at t i j ≡ true

-- each child has a lower number than its parent (node i has the number i + 1)
abbrev pub AllLower : Shape → Type 0
AllLower t = (i j : ℕ) → i < length t.nodes → j < (node_at t i).count → child_at t i j ≤ i

-- every node but the last is a child exactly once
abbrev pub Once : Shape → Type 0
Once t = (c : ℕ) → 0 < c → c < length t.nodes → times c t.children ≡ 1

-- the last node alone is a body
abbrev pub BodyLast : Shape → Type 0
BodyLast t = (i : ℕ) → i < length t.nodes → is_body (kind_at t i) ≡ (i + 1 == length t.nodes)

-- lets stand only in condition place
abbrev pub LetsInPlace : Shape → Type 0
LetsInPlace t = (i : ℕ) → i < length t.nodes → LetInPlace t i

-- a binding that has a name, and not that of `Self`
abbrev pub name_fits : Binding → Bool
name_fits v = not (v.name.0 == 0) && not (v.name.0 == 2)

abbrev pub AllBindingsNamed : List Binding → Type 0
AllBindingsNamed vs = (i : ℕ) (d : Binding) → i < length vs → name_fits (slice_index_or vs i d) ≡ true

-- a frame's number is not 0
abbrev pub number_of_frame : Frame → ℕ
number_of_frame (F.ImplGenerics o) = o.0
number_of_frame (F.Generics o) = o.0
number_of_frame (F.Block b) = b.0

abbrev pub AllFramesNumbered : List Frame → Type 0
AllFramesNumbered fs = (i : ℕ) (d : Frame) → i < length fs → 1 ≤ number_of_frame (slice_index_or fs i d)
