-- What the steps of reading say of what they read.
use Rattle.std.specs.Prelude.{◌≡◌, ℕ, ◌+◌, ◌<◌, ◌≤◌, Bool, true, false, ◌⊎◌, List, length, take, Some, None, Option, slice_index, slice_index_or}
use Rattle.framing.specs.declared.fault.Fault.{Fault}
use Rattle.framing.specs.declared.fault.Part.TheVariants as P
use Rattle.framing.specs.declared.fault.Refusal.TheVariants as R
use Rattle.framing.specs.Broken.{FirstBroken}
use Rattle.format.specs.declared.kind.NodeKind.{NodeKind}
use Rattle.format.specs.declared.kind.NodeKind.TheVariants as K
use Rattle.sheet.specs.Shape.{Shape, kind_at, times}
use Rattle.sheet.specs.Tree.{AddsUp, Child, GoodNode, InCondition}

-- v is none where c is none of the first n children, else the place of the first of them that is
pub record FirstClaim (cs : List ℕ) (n c : ℕ) (v : Option ℕ) : Type 0 where
  pub none : v ≡ None → times c (take n cs) ≡ 0
  pub first : (q : ℕ) → v ≡ Some q → (q < n) × (slice_index cs q ≡ c) × (times c (take q cs) ≡ 0)

-- so it is at each node number
abbrev pub Claims : List ℕ → ℕ → List (Option ℕ) → Type 0
Claims cs n v = (c : ℕ) → c < 513 → FirstClaim cs n c (slice_index_or v c None)

-- every child has a lower number than its parent
abbrev pub Falls : Shape → Type 0
Falls t = (i j c : ℕ) → Child t i j c → c ≤ i

-- the child at place j of a node of this kind stands in condition place, where `above` says that of the node itself
abbrev pub Opens : NodeKind → ℕ → Type 0 → Type 0
Opens k j above = ((k ≡ K.If) × (j ≡ 0)) ⊎ (((k ≡ K.Arm) × (j ≡ 1)) ⊎ ((k ≡ K.And) × above))

-- marks of the numbers in condition place, after the nodes past i and the first j children of node i
pub record Marked (t : Shape) (i j : ℕ) (marks : List Bool) : Type 0 where
  pub sound : (c : ℕ) → slice_index_or marks c false ≡ true → InCondition t c
  pub full : (q l c : ℕ) → Child t q l c → Opens (kind_at t q) l (InCondition t (q + 1)) → (i < q) ⊎ ((q ≡ i) × (l < j)) → slice_index_or marks c false ≡ true

-- the same after all nodes from i on
pub record MarkedFrom (t : Shape) (i : ℕ) (marks : List Bool) : Type 0 where
  pub sound : (c : ℕ) → slice_index_or marks c false ≡ true → InCondition t c
  pub full : (q l c : ℕ) → Child t q l c → Opens (kind_at t q) l (InCondition t (q + 1)) → i ≤ q → slice_index_or marks c false ≡ true

-- a fault of the tree: of the whole sheet where the counts do not add up, else of the first node that breaks a rule
abbrev pub TreeFault : Shape → Fault → Type 0
TreeFault t f =
    ((f.refusal ≡ R.Tree) × (f.part ≡ P.Whole) × (f.record ≡ 0) × (AddsUp t → ⊥)) ⊎
    (AddsUp t × FirstBroken (GoodNode t) (length t.nodes) R.Tree P.Nodes f)
