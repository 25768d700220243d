-- That every node but the last is a child exactly once, by counting.
use Rattle.std.specs.Prelude.{◌≡◌, ℕ, zero, suc, ◌<◌, List, [], ◌∷◌, ◌++◌, Some, None, Option}
use Rattle.format.specs.declared.ids.NodeId.{NodeId}
use Rattle.sheet.specs.Shape.{times}
use Rattle.reach.specs.Shape.{Shape, children_of}

-- the numbers of the children that are not absent
abbrev pub numbers : List (Option NodeId) → List ℕ
numbers [] = []
numbers (None ∷ cs) = numbers cs
numbers (Some c ∷ cs) = c.raw ∷ numbers cs

-- the children of the nodes 1 to m
abbrev pub children_to : Shape → ℕ → List ℕ
children_to b zero = []
children_to b (suc m) = children_to b m ++ numbers (children_of b (suc m))

-- every node but the last, m, is a child exactly once
abbrev pub Once : Shape → ℕ → Type 0
Once b m = (j : ℕ) → 0 < j → j < m → times j (children_to b m) ≡ 1
