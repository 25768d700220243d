-- The tree rules.
use Rattle.std.specs.Prelude.{◌≡◌, ℕ, ◌+◌, ◌<◌, ◌≤◌, Bool, true, length, take, ◌==◌}
use Rattle.format.specs.declared.kind.NodeKind.{NodeKind}
use Rattle.format.specs.declared.kind.NodeKind.TheVariants as K
use Rattle.format.specs.declared.kind.Sort.TheVariants as S
use Rattle.format.specs.Kinds.{admits, same_sort, slot_at, sort_of}
use Rattle.sheet.specs.Shape.{Shape, node_at, kind_at, child_at, sort_at, times, total}

-- the child counts add up to the children
abbrev pub AddsUp : Shape → Type 0
AddsUp t = total t.nodes ≡ length t.children

-- each node's children begin where those of the nodes before it end
abbrev pub LaidOut : Shape → Type 0
LaidOut t = (i : ℕ) → i < length t.nodes → (node_at t i).first ≡ total (take i t.nodes)

-- the child at place j of node i is such as the place admits, has a lower number than its parent, and was no child before
pub record GoodChild (t : Shape) (i j : ℕ) : Type 0 where
  pub admitted : admits (slot_at (kind_at t i) j) (sort_at t (child_at t i j)) ≡ true
  pub lower : child_at t i j ≤ i
  pub new : 0 < child_at t i j → times (child_at t i j) (take ((node_at t i).first + j) t.children) ≡ 0

-- whether a kind is the body's
abbrev pub is_body : NodeKind → Bool
is_body k = same_sort (sort_of k) S.Body

-- the rules at node i: its children are good, some node has it as a child unless it is the last, and it is a body exactly if it is the last
pub record GoodNode (t : Shape) (i : ℕ) : Type 0 where
  pub children : (j : ℕ) → j < (node_at t i).count → GoodChild t i j
  pub claimed : i + 1 < length t.nodes → 0 < times (i + 1) t.children
  pub body_last : is_body (kind_at t i) ≡ (i + 1 == length t.nodes)

-- all of them
pub record GoodTree (t : Shape) : Type 0 where
  pub adds_up : AddsUp t
  pub nodes : (i : ℕ) → i < length t.nodes → GoodNode t i

-- number c is the child at place j of node i
pub record Child (t : Shape) (i j c : ℕ) : Type 0 where
  pub node : i < length t.nodes
  pub place : j < (node_at t i).count
  pub is : child_at t i j ≡ c

-- node number c stands in condition place: the condition of an if, the guard of an arm,
-- or either side of a lazy and that stands in condition place
pub data InCondition (t : Shape) : ℕ → Type 0 where
  of_if : {c : ℕ} (i : ℕ) → Child t i 0 c → kind_at t i ≡ K.If → InCondition t c
  of_guard : {c : ℕ} (i : ℕ) → Child t i 1 c → kind_at t i ≡ K.Arm → InCondition t c
  of_and : {c : ℕ} (i j : ℕ) → Child t i j c → kind_at t i ≡ K.And → InCondition t (i + 1) → InCondition t c

-- node i, if it is a let, stands in condition place
abbrev pub LetInPlace : Shape → ℕ → Type 0
LetInPlace t i = kind_at t i ≡ K.Let → InCondition t (i + 1)
